-- What the promises of `list` cite beside the definition.
pub mod Fits
