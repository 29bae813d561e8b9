-- Trees, tables and their words; earliest tables, their judgement, sameness, the form; twins; ranked trees.
pub mod Machine
pub mod Earliest
pub mod Verdict
pub mod Same
pub mod Form
pub mod Twins
pub mod Ranks
