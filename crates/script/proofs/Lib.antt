-- What belongs to no one function: the laws of records, texts and lines, and of records that are played, which crates above cite.
pub mod Laws
pub mod Putting
pub mod Played
