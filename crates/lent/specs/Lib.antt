-- What promises on lent lists cite.
pub mod Lists
