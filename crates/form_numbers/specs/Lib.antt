-- The states of an opened table by first visit, and their numbers.
pub mod Numbers
