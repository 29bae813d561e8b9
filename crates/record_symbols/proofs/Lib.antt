-- Laws of looking for the last symbol of a list.
pub mod Lasts
