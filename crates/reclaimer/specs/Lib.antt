-- What the promises of `reclaimer` cite beside the definition.
pub mod Outcomes
