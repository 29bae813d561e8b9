-- Laws of the shape check: a tree from what stands below its symbol and the whole tree from the tree at place 0.
pub mod Steps
pub mod Whole
