-- Laws of putting bytes to the front of a room: with one of them replaced, and what a call answers that does it.
pub mod Replacing
pub mod Answered
