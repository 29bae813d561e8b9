-- What comparing the rules of two opened tables answers.
pub mod Compared
