-- Laws of the levels of an image: trees read one after the other, the symbols of an image, the loop's state.
pub mod Row
pub mod Spelt
pub mod Steps
