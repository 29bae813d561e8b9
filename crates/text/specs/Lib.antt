-- Table texts: their characters, limits, lines, frames and fields, how one is read and how it is written.
pub mod Characters
pub mod Limits
pub mod Lines
pub mod Fields
pub mod Frames
pub mod Reading
pub mod Writing
