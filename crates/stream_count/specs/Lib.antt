-- What counting a stream through keeps behind a byte.
pub mod Behind
