-- The linked calls.
pub mod Linked
