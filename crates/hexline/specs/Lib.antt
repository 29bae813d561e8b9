-- A line of hexadecimal of which some characters have come.
pub mod SoFar
