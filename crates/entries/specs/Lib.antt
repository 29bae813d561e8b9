-- The number and the entries of each answer.
pub mod Entries
