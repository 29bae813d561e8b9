-- Laws of comparing two table texts:
--   Comparing   not_handed, texts_compared: by the judgements of the texts
pub mod Comparing
