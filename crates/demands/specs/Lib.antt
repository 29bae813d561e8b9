-- What the demands say of a text, tree bytes and a room, without the definitions that find it.
pub mod Words
pub mod Records
