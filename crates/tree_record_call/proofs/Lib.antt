-- Laws of the record of a tree:
--   Low      the bytes of an accepted stream and of a tree are symbols of the list
--   Images   tree bytes whose stream is a record's are its image
--   Shapes   where the shape is right, what refuses the stream tells 24
--   Answers  what is told of the record, and how long it is
pub mod Low
pub mod Images
pub mod Shapes
pub mod Answers
