-- What belongs to no one function: the laws of constant rows and of bits given back, and that the started lists are the definition's.
pub mod Laws
