-- Laws of the word of a record by an opened table:
--   Imaged   image_front: an image at the front of lent bytes. refused_record, record_answers: the answer by what was read of the stream
pub mod Imaged
