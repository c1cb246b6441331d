-- What belongs to no one function: the laws that crates above cite, and what only the proofs of this crate cite.
mod Inner
pub mod Laws
