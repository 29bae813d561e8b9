-- The form's lines, and its text written into a room.
pub mod Lines
