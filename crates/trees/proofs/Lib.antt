-- Laws of tree bytes: what is read, and what is refused, and why; where a rule is lacking.
pub mod Preorder
pub mod Levels
pub mod Shape
pub mod Whole
pub mod Stops
pub mod Stopped
pub mod Refusals
pub mod First
pub mod Lacking
pub mod Output
