-- A reader of a table text.
pub mod Ahead
