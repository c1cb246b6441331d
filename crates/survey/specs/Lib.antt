-- What the promises of `survey` cite beside the definition.
pub mod Surveys
pub mod States
