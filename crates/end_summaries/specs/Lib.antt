-- The ends of each state's words: what adding rules does to the summaries.
pub mod Steps
