-- Laws of taking a line.
pub mod Values
pub mod Scan
pub mod Laws
