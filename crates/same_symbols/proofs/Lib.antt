-- Laws of symbol lists: where they part.
pub mod Lists
