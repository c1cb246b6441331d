-- What holds of values that lend the lists.
pub mod Laws
