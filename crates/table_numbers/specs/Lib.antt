-- The numbers of an opened table.
pub mod Storing
