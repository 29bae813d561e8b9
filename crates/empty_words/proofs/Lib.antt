-- The laws of the states that have the empty word:
--   Empty      rule_held, kept_told, blanks_witnessed: which states have it
--   Rules      all_kept, one_lacks, none-..: the children of a rule, and the rules of a state, one by one
--   Marks      marked-.., among-..: states in turn
pub mod Empty
pub mod Rules
pub mod Marks
