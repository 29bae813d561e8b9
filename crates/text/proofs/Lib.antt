-- The laws of table texts.
pub mod Answers
pub mod Digits
pub mod Lines
pub mod Fields
pub mod Faults
pub mod Rising
pub mod Frames
pub mod ByKind
pub mod Reading
pub mod Stages
pub mod Back
pub mod Forth
pub mod RoundTrip
pub mod Refusals
