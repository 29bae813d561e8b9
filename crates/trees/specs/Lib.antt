-- Trees as bytes: preorder, the shape of a tree with its refusals, and the first position without a rule.
pub mod Preorder
pub mod Shape
pub mod Lacking
pub mod Standing
pub mod Causes
