-- What forming a table text answers.
pub mod Formed
