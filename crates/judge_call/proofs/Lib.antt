-- Laws of judging a table text:
--   Readings   refused_judges, table_judges: from the opening and its judgement to the text's. judged_early, judged_late: what a judgement tells
pub mod Readings
