-- What waits while a tree is measured.
pub mod Waiting
