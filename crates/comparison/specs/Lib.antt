-- What comparing two opened tables answers.
pub mod Answers
pub mod Parts
