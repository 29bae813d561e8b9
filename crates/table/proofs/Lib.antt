-- Laws of opening.
pub mod Copies
pub mod Tables
pub mod One
