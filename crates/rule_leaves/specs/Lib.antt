-- What looking up a rule answers.
pub mod Lookup
