-- What judging a table text answers.
pub mod Judging
