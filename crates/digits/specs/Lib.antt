-- Writing into a room that the caller lends.
pub mod Room
