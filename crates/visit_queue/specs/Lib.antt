-- The queue of the states that were met.
pub mod Queue
