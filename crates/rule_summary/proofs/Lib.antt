-- The law of a rule's summary:
--   Walks      gathering-..: it is gathered from child to child
pub mod Walks
