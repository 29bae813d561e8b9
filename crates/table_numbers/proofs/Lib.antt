-- Laws of the numbers of an opened table.
pub mod Puts
pub mod RuleNumbers
pub mod FirstRules
pub mod Entries
pub mod Filling
