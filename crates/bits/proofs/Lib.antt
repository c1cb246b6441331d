-- The laws of free bits, which crates above cite (Laws, Table, Word); and what a turn of each loop does, which only this crate cites.
pub mod Laws
mod Loops
pub mod Table
pub mod Word
