-- What belongs to no one function: what a caller knows of lists that passed their checks, and the steps to it.
pub mod Laws
