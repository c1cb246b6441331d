-- What the promises of `settle` cite.
pub mod Settle
