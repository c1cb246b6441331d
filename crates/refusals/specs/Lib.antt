-- What promises on refusals cite.
pub mod Numbers
