-- Laws of `survey`: reports and refusals, and lists that are filled from the front.
pub mod Laws
pub mod Tab
