-- What the promises of `enroll` cite.
pub mod Enroll
