-- Laws of the answers: exactly when each is given, and that there is one.
pub mod Room
pub mod Word
pub mod Judgement
pub mod Form
pub mod Comparison
pub mod Records
