-- The walk over the states of an opened table in the order of first visit: what it promises, with any classes of states and with each state as one.
pub mod Visiting
pub mod Reaches
