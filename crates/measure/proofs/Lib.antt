-- Laws of measuring: the entry of a rule, and one turn of the loop.
pub mod Ruled
pub mod Turn
