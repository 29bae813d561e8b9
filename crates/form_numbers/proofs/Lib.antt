-- Laws of the first-visit numbers:
--   Naming   numbered_by_marks: the numbers that the marks of the classes tell. zeros: where there are none. order_there, count_within: how many there are
pub mod Naming
