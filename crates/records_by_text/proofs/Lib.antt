-- Laws of the calls on records under a table text:
--   ByText   text_refused, text_opened: a call under a text, by the opening of the text
pub mod ByText
