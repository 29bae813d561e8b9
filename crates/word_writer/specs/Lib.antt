-- The fast writing pass.
pub mod WordWritten
