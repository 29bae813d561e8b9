-- Laws of the opened table: what its bytes say of the table that they mean.
pub mod Modest
pub mod Stretches
pub mod Fit
pub mod Heads
pub mod Rows
pub mod Means
pub mod Growing
