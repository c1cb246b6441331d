-- What belongs to no one function: the calls of which a registration is made, and that the lists hold the definition's tables afterwards.
pub mod Chain
pub mod Laws
