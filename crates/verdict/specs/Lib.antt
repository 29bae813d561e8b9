-- The judgement of an opened table: what is answered.
pub mod Judgement
