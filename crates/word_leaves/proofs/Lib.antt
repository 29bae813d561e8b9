-- Laws of the words of rules: what stands at a spot, how a word is put into a room, how many bytes rules have.
pub mod Spots
pub mod Strides
pub mod Putting
pub mod RuleBytes
pub mod Ahead
