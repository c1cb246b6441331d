-- Definitions that the contracts of `step` cite.
pub mod Steps
