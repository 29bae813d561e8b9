-- What a call answers that writes bytes to the front of a room.
pub mod Spells
