-- Measuring a tree.
pub mod Measures
