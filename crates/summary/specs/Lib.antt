-- Summaries of sets of words, and how the summaries of the states grow.
pub mod Codes
pub mod Grown
