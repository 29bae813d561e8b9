-- Laws of what waits: trees for the numbers that wait, and that these decide the whole; the trees that the whole owes them;
-- the stack on which they wait.
pub mod TreesFor
pub mod WholeFrom
pub mod Owed
pub mod Waits
