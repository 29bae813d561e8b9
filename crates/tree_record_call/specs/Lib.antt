-- What is told of tree bytes under a symbol list for records.
pub mod ImageTold
