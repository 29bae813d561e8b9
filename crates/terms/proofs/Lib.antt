-- Laws of counting letters 20 piece by piece.
pub mod Spaces
