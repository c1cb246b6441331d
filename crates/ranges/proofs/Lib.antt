-- What belongs to no one function: the laws of rows in range and of sizes, which crates above cite.
pub mod Laws
pub mod Facts
