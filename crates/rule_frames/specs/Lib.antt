-- The frame of a rule.
pub mod Kept
