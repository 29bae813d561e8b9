-- How long the form's text is.
pub mod Long
