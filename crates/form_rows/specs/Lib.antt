-- The rules' lines of the form.
pub mod Rows
