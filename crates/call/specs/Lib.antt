-- Definitions that the contracts of `call` cite.
pub mod Calls
