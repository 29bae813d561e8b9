-- Which states have the empty word.
pub mod Blank
