-- What is told of a stream.
pub mod StreamTold
