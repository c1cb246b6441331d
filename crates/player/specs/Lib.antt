-- What the promises of `player` cite beside the definition and `script`.
pub mod Records
pub mod Owned
