-- Laws of `reclaimer`: the outcomes of its calls, of its survey, and that a promise leaves no choice.
pub mod Laws
pub mod Surveys
pub mod One
