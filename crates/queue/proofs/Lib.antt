-- What belongs to no one function: the law by which a pop looks at one seal only.
pub mod Laws
