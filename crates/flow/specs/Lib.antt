-- What the promises of `flow` cite beside the definition.
pub mod Words
