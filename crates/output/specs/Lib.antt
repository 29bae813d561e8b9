-- Texts that are put into a buffer, and what the buffer holds afterwards.
pub mod Queue
pub mod Places
pub mod Decimal
