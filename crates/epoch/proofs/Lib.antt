-- What belongs to no one function: the laws of epoch words, which crates above cite, the distances worked by hand, and what the
-- code's masks and signed numbers compute, which only the proofs of this crate cite.
pub mod Cases
pub mod Laws
mod Machine
