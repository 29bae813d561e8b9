-- Laws of forming a table text:
--   Forms      into_fits: a room that is long enough. measured_short, measured_fits: the form of an opened earliest table, measured and written
--   Readings   late_answers, form_answers: from the judgement and the form to the answer for the text
pub mod Forms
pub mod Readings
