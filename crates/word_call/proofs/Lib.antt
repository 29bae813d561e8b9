-- Laws of the word call on an opened table: the room after the three words, and the answer for a tree that was counted.
pub mod Room
pub mod Output
