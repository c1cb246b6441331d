-- What the promises of `follow` cite.
pub mod Follow
