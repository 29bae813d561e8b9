-- Laws of the fields of a frame.
pub mod Slices
pub mod Numbers
pub mod Words
pub mod Family
pub mod Packed
pub mod Siblings
