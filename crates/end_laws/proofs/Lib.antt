-- The laws of the ends of words:
--   Sides      end_from, end_empty: the end of a word at a side. end_none, end_left, end_right: by its index
--              empty_no_common, letters_no_common, letter_common: common prefixes and suffixes by ends
--   Values     join_shown, beside_shown, alone_shown; join_allows, beside_fits, alone_allows: what shows a summary, and what fits it
--   Order      gather, gathered: a rule's summary gathered from left to right at either side
--   Rules      value_shown, step_witnessed: a step keeps what is witnessed. closed_covering: closed implies covering
--   Told       lives_word, dead_word, clean_state, unclean_state, clean_tails, unclean_tails: what summaries tell that are
--              witnessed and covering
--   Ranks      rank_le, join_rank, join_same: how often summaries can rise. ranks_le, ranks_set, ranks_grow, ranks_same: in a list
--   Local      free_left, unfree_left, free_start, stuck_start: E2 by the test of one child and the word behind it
--   Settle     settle_keeps, settle_rests: a step that is taken until a measure stays
--   Known      visit_settled, visit_witnessed; known_witnessed, known_covering: the summaries that sweeps leave
--   Marks      marks that are raised: one, those of a rule, those of a row, those of all rows
--   Reach      marked_reached, reached_marked: the marks that sweeps leave are the states that are reached
--   Companion  judged_by_lem: a verdict by checks. judge_judged: the judgement that computes gives the verdict of the table
pub mod Sides
pub mod Values
pub mod Order
pub mod Rules
pub mod Told
pub mod Ranks
pub mod Local
pub mod Settle
pub mod Known
pub mod Marks
pub mod Reach
pub mod Companion
