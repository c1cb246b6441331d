-- What the promises of `checks` cite beside the definition.
pub mod Refusals
pub mod Passed
