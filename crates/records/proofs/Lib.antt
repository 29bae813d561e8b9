-- Laws of records:
--   Image     the preorder of an image is the stream spelled in symbols, and one last symbol more
--   Sound     each accepted stream is the one written for its record
--   Complete  each record with labels in the list is read back from its stream
--   Counter   a count of open elements suffices
--   Back      the image is one-to-one, and 24 is told exactly for trees that are no image
--   Writing   writing a record back from the bytes of its tree
--   Refusals  a stream is refused exactly for one of the causes
--   Ranked    7, 8 and 11 cannot come
--   Calls     what the tree call writes the record call turns back, and the other way round; what is refused
--   Loop      what a loop over a stream or over tree bytes does at each byte
--   Symbols   20 exactly for lists of another shape, at the first wrong index
pub mod Image
pub mod Sound
pub mod Complete
pub mod Counter
pub mod Back
pub mod Writing
pub mod Refusals
pub mod Ranked
pub mod Symbols
pub mod Depth
pub mod Loop
pub mod Calls
pub mod Cases
