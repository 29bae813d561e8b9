-- The stages of reading a table text.
pub mod Staged
