-- The lines of a piece of the input.
pub mod Piece
