-- Laws of reading a stream under a symbol list.
pub mod Under
