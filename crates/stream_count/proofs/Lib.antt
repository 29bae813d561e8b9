-- Laws of looking through a stream byte by byte, and of counting it through.
pub mod Steps
pub mod Counting
