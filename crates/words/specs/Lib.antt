-- What the promises of `words` cite beside the definition.
pub mod Words
