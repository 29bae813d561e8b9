-- The laws of the form, for a well-made table M and a test that decides sameness in it. For Visit, Order and Reach
-- the test need only say that each state is the same as itself:
--   Lists      all members of a list, members with those behind them, two lists side by side
--   Pigeon     pigeonhole: different numbers below n are at most n
--   Number     number_here, number_there: step by step
--              number_same, number_fresh, number_append, number_at: the number of a state in a list
--   Meet       meet_old, meet_new: step by step. meet_grown, meet_apart, meet_known: meeting the child states of a state
--   Rows       rows_of_own, rows_of_past: step by step. rows_of_all, rows_of_state, rows_of_ordered, child_states_of, kids_inside:
--              the rows of a state and their child states
--   Visit      visited_start, visited_step, visited_length: what holds of the list at every step of the visit
--   Order      visit_next, visit_done: step by step. order_listed, order_enough, order_length: the visit takes all that it lists
--              listed_inside, listed_apart, order_number, order_same: what is listed
--   Renumber   find_first, find_past_state, find_past_symbol: step by step
--              find_renumbered: number i has the rules of the i-th listed state
--   Reach      listed_reached: the listed states are reached. reached_known: all that are reached are, where the test tells
--              all states apart
--   Meaning    form_find, form_word, form_words, form_apart: the form's rules and words. form_agrees: it gives every tree the
--              table's word. listed_rows: what the rows of a listed state have
--   Made       form_made: the form is well made
--   Early      form_earliest: the form of an earliest table is earliest
--   Lockstep   visit_pairs, renumbered_equal: two visits in lockstep write the same rows
--   Unique     forms_equal: tables whose rows a relation of states keeps have one form. form_unique: a table has one form
--   Alike      rows_of_alike: states with matching rules have rows that are alike in turn
--   Forms      is_form_made, is_form_arities, is_form_agrees, is_form_apart, is_form_earliest: what a form is
--              forms_agree, forms_same: one form exactly where the words agree; form_of_form
--   Classes    earliest_known, earliest_listed, earliest_number: in an earliest table every state has the words of a listed one
--   Size       is_form_states, is_form_rows, is_form_total: the form is never larger. by_number_keeps: its rows keep symbol and words
--   Cases      listing, visited: the listing of the specification, and the order of the visit
pub mod Lists
pub mod Pigeon
pub mod Number
pub mod Meet
pub mod Rows
pub mod Visit
pub mod Order
pub mod Renumber
pub mod Reach
pub mod Meaning
pub mod Made
pub mod Early
pub mod Lockstep
pub mod Unique
pub mod Alike
pub mod Forms
pub mod Classes
pub mod Size
pub mod Cases
