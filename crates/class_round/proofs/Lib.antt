-- Laws of a round:
--   Pairs      what a round leaves together is an equivalence, and the least of each class names it
--   Stores     set_below: what holds of the entries below a number, after a store there
pub mod Pairs
pub mod Stores
