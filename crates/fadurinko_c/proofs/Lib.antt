-- Laws of the linked calls: what is handed out; 0 is a yes; one result for one input.
pub mod Handing
pub mod Zero
pub mod One
