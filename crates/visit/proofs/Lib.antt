-- Laws of the walk by first visit, for any classes of states:
--   Visits     under_start, under_next, under_done: the visit step by step
--   Reaching   reaches: with each state as a class of its own, the visited states are those that are reached
pub mod Visits
pub mod Reaching
