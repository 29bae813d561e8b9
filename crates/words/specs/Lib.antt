-- Words, sets of words, answers, and tests.
pub mod Word
pub mod Reply
pub mod Told
