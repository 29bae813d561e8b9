-- Laws of writing the form:
--   Named   form_rows: the rows by the numbers that a list has are the form's
--   Text    symbol_line, symbols_more, initial_line: lines in pieces. form_text: the pieces of the form's text
pub mod Named
pub mod Text
