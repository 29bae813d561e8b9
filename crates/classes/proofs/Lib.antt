-- Laws of the classes:
--   Slack      stores that only raise numbers
--   Settled    no round parts twins, and what a round leaves as it was are their classes; twin_classes: where those are classes by words
pub mod Slack
pub mod Settled
