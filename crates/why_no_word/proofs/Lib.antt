-- Laws of the word call's answer: what each answer says, the definition's answer by cases, and what the calls for shape and rules tell of it.
pub mod Said
pub mod Read
pub mod Calls
