-- Laws of the queue of the walk, for any classes of states:
--   Marks      mark_known, met_old, met_full, met_new: meeting a state by the mark of its class. meet_append, meet_longer
--   Meeting    children_next, children_end, rules_all, rules_next, rules_end: meeting the child states of a rule and of a state
pub mod Marks
pub mod Meeting
