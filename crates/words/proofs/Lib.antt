-- The laws of words and sets of words:
--   Cut     levi: of two ways to cut one word, one cuts later. cancel_left, cancel_right: what can be cancelled
--   Strip   fix_left, fix_right: words beside equal sets are equal. split: equal products have equal factors
--   Mirror  suffix_prefix: the suffixes of a set are the prefixes of the set read backwards
--   Ends    when a set has a common prefix or suffix, and when it has none
--   Terms   the spaces of words joined, and at most how many there are
--   Replies given_injective, refuse_given, then_given and so on: what an answer tells of the answers that it is made of
--   Tests   both_hold, second_fails, one_holds, both_fail: two tests joined
--   Told    told_yes, told_no, told_map: a test's answer: yes, no, carried over
pub mod Cut
pub mod Strip
pub mod Mirror
pub mod Ends
pub mod Terms
pub mod Replies
pub mod Tests
pub mod Told
