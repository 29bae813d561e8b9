-- The laws of the machine:
--   Find       every_at, index_below, index_row: rows by index. find_index, find_holds, find_fits: the row of a rule that is found
--              find_none: none is found. find_row, rising_one: rising rows have one for a state and a symbol
--   Word       word_parts, words_parts, words_nil; word_join, words_join: the word of a tree taken apart, and put together
--   Agreement  agree, agree_start: earliest tables with the same words have the same rules (lemma 1 of document 001)
--   Kept       kept_same, kept_twin, twin_same: a relation that rules keep relates only states with the same words
--   Twins      twins: same words are twins by every number of rounds. match_two: matching rules relate states of the tables
--   Ranks      word_ranked, ranked_same, ranked_agree: only ranked trees have words, so agreement on those is agreement on all
--   Judged     judged_unique, judged_earliest: a table has at most one verdict, and it is judged earliest exactly when it is
--   Small      firsts, one_word, blank_states_judged: for small tables written out
--   Errors     star_judged, second_judged, ending_judged: the empty word counts; E2 is asked at every child, and in the initial rule
--   Silent     silent_apart, silent_judged: a state that writes nothing still turns trees down
--   Sides      sides_same, sides_apart, behind_judged: abc q and q abc mean the same, and only one is earliest
pub mod Find
pub mod Word
pub mod Agreement
pub mod Kept
pub mod Twins
pub mod Ranks
pub mod Judged
pub mod Small
pub mod Errors
pub mod Silent
pub mod Sides
