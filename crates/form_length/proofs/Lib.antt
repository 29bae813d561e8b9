-- Laws of the form's length:
--   States    states_more: the lines of one state more
--   Lengths   length_text, length_row: a rule is as long by any numbers. states_longer: one state more. form_long: the form's text
--   Short     form_short: the form's text is never longer than the table's. form_limited: the form is within the limits of a table
pub mod States
pub mod Lengths
pub mod Short
