-- The checks 13 to 18, and the least place that does not pass one.
pub mod Checks
