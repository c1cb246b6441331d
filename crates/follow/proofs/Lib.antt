-- Laws of `follow`.
pub mod Laws
