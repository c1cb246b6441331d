pub mod Lines
pub mod Surveys
