-- One line of a text.
pub mod Scan
