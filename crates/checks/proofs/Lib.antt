-- The laws of the checks:
--   Tests      least_is, least-.., start-.., judged-..: the search for the least place, the test of the initial rule, the checks in number order
--   Rows       children_begun, child_tested, children_done, row_test: the children of a rule one by one, and the test of a rule
--   Pushing    free_rows: where no word can be pushed to the left of any state, no rule is at fault
pub mod Tests
pub mod Rows
pub mod Pushing
