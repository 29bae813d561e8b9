-- The lines that the programs answer.
pub mod Lines
