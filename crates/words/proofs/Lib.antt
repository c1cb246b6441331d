-- What belongs to no one function: the accesses in terms of reads and stores, and these by where a word stands, which only the proofs of this
-- crate cite; and what an access leaves of the lists and of the tables that they hold, which crates above cite.
pub mod Laws
mod Accesses
mod Homes
