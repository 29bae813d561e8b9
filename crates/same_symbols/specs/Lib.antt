-- What comparing two symbol lists answers.
pub mod Parting
