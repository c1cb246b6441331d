-- What the promises of `queue` cite beside the definition.
pub mod Fits
