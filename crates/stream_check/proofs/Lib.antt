-- Laws of looking through a whole stream.
pub mod Steps
