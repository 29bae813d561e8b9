-- Laws of a line of hexadecimal that comes in pieces.
pub mod Laws
