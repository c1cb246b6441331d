-- What the promises of `bags` cite.
pub mod Bags
