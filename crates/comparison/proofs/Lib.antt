-- Laws of comparing two opened earliest tables:
--   Fronts   fronts_told: the first bytes of one and of the other, compared
--   Forms    formed_never, formed_front, formed_short: a form's text in a room that is long enough. same_form: whether two forms are one.
--            lists_apart, forms_same, forms_differ, forms_told: the answer for two tables
pub mod Fronts
pub mod Forms
