-- What the promises of `epoch` cite, and the distances worked by hand.
pub mod Distances
pub mod Epoch
