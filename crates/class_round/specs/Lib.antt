-- What one round of parting states into classes does.
pub mod Round
