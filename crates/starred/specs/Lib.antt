-- The cases of the specification ("Both sides of each line", and the listing), the starred ones and the others.
pub mod Texts
pub mod Cases
