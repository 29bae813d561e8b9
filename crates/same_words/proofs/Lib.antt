-- Laws of comparing words:
--   Turns      words compared in turn: what is left to compare decides what all of them do
pub mod Turns
