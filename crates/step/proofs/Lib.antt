-- Laws of `step`.
pub mod Access
pub mod Room
pub mod Written
pub mod Carry
pub mod Laws
pub mod Beyond
pub mod Chain
pub mod One
