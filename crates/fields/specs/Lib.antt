-- The fields of a frame.
pub mod Read
