-- Names for the laws of the form.
pub mod Pairs
pub mod Listed
pub mod Shrunk
