-- Laws of the word under a table text:
--   Worded   text_answers, table_answers: the word call, by the opening of its text
pub mod Worded
