-- The ends of a state's words: what the judgement needs to know of L(q), and the judgement as a function that computes.
pub mod Ends
pub mod Meaning
pub mod Companion
pub mod Cases
