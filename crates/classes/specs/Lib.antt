-- Classes of twins and of states with the same words, and how a round's numbers are taken over.
pub mod Classes
pub mod Taking
