-- Laws of the rules' lines:
--   Ranges     range_none, range_more, range_all: the lines of a state's rules, one after the other
--   Renaming   renaming_start, renaming_more, renaming_all: the children's numbers over their states, child by child.
--              wrote_renamed, row_line, line_renumbered: a rule's line
pub mod Ranges
pub mod Renaming
