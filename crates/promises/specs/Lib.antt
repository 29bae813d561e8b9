-- What each public call answers, for all inputs: number, place, counts and every byte of the room.
pub mod Room
pub mod Word
pub mod Judgement
pub mod Form
pub mod Comparison
pub mod Records
