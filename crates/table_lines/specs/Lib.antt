-- What the lines of a table text come to.
pub mod Reads
