-- Laws of the room after a tree's word was written to a part of it.
pub mod Lent
