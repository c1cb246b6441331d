-- What the promises of `internal` cite beside the definition.
pub mod Fits
