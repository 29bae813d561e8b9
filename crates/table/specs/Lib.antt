-- Opening a table text.
pub mod Opening
