-- Laws of the lines of a table text.
pub mod UsedBytes
pub mod Stages
pub mod LineByLine
pub mod Frames
pub mod Ends
