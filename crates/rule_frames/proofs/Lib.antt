-- Laws of the frame of a rule.
pub mod RuleFields
pub mod RuleKeys
pub mod RuleBytes
pub mod RuleSteps
pub mod RuleStage
pub mod Keeping
pub mod RuleFrame
