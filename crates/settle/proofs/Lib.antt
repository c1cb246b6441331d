-- Laws of `settle`.
pub mod Laws
