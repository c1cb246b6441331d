-- What the promises of `ranges` cite beside the definition.
pub mod Rows
pub mod Sizes
pub mod Sound
