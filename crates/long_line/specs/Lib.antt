-- A line of hexadecimal of any length of which some characters have come.
pub mod Held
