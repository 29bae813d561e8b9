-- The walk down a tree, and the plan of a tree's writing.
pub mod Walked
pub mod Plan
