-- Laws of the writing pass by a plan.
pub mod Planned
pub mod Writing
