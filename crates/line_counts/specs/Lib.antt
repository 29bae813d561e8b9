-- Counts, and the line that says them.
pub mod Counts
pub mod Closing
