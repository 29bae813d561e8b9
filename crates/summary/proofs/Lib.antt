-- The laws of summaries:
--   Codes      kind; joined-.., join-.., front-..: what the numbers of letters and summaries tell, and their unions and sequences
--   Tests      letter_alone, blank_alone, end-..: one word, by its end
--   Growing    summary_at, grown-..: the summaries of the states in a list, and how much more is known of them
pub mod Codes
pub mod Tests
pub mod Growing
