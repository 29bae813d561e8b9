-- Laws of the rules by number: what an opened table's numbers say of its rules.
pub mod Unpack
pub mod Numbered
pub mod Places
pub mod Ranges
pub mod Listing
pub mod Children
