-- Laws of the stages and of the frames of symbols and the initial rule.
pub mod StepFrames
pub mod Symbols
pub mod Starts
