-- What the promises of `records` cite beside the definition.
pub mod Stores
