-- The laws of the ends of each state's words:
--   Steps      visit-..: what one rule adds
--   Sated      several_rests: states with several letters are finished. visit_told: a rule leaves the empty words told
--   Rounds     tried-.., numbers-.., states-..: rules in turn
--   Settled    tried_witnessed, tried_told, tried_covering: what is left when no rule adds anything
pub mod Steps
pub mod Sated
pub mod Rounds
pub mod Settled
