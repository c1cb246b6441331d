-- What the promises of `bits` cite.
pub mod Bits
