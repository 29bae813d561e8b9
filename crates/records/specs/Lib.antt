-- Nested records: their streams and images, the reading of a stream with 21 to 23, the record of a tree with 24, the symbol lists with 20.
pub mod Records
pub mod Stream
pub mod Causes
pub mod Symbols
pub mod Back
pub mod Depth
pub mod Counter
pub mod Calls
