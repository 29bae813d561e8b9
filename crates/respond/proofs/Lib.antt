-- What an answer's line says, and bytes that are too many for a tree.
pub mod Laws
