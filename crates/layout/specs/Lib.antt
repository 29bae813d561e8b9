-- The opened table: how it lies in the bytes and numbers that the caller lends, and what its leaves answer.
pub mod Layout
pub mod Leaves
pub mod Kids
pub mod Lent
