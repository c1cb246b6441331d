-- Laws of `call`.
pub mod Laws
