-- The laws of the judgement of an opened table:
--   Promise    checks_judged: what the checks judge is the verdict of the table
--   Opened     done_judged: what the code has in the end is the verdict of every table that is opened in the bytes and the numbers
pub mod Promise
pub mod Opened
