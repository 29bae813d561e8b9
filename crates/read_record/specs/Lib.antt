-- What reading a stream under a table answers.
pub mod RecordRead
