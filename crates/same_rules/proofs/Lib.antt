-- Laws of comparing rules:
--   Found      rules that are looked up, and rules that match in two steps: by their words, and by their children's states
--   Ranges     rows of two states match exactly when each rule of one has a matching partner and they are as many
pub mod Found
pub mod Ranges
