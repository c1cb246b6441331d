-- What the promises of `script` cite, and what an action does to lent lists.
pub mod Script
pub mod Putting
pub mod Played
