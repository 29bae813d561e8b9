-- Marks of streams that grow at their end, and lines of which the front is held no more.
pub mod Marks
pub mod Lines
