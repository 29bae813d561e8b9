-- The word call on an opened table.
pub mod Answer
