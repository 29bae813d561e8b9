-- Laws of the tree of a record that was read.
pub mod Imaged
