-- Laws of a frame by its kind.
pub mod EndFrame
pub mod Steps
