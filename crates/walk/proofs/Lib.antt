-- Laws of the walk down a tree: its root, what is left of a rule, and one child after the other.
pub mod Roots
pub mod LeftToWalk
pub mod Turns
