-- What the promises of `start` cite beside the definition.
pub mod Given
