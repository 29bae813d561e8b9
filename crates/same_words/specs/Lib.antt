-- What comparing the words of two rules answers.
pub mod Words
