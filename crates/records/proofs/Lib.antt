-- What belongs to no one function: which places' pointers fit a word, what a store does to a table of rows, and what `==`
-- answers at two codes. Crates above cite all three.
pub mod Fits
pub mod Laws
pub mod Same
