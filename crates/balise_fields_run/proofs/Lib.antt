pub mod RunSteps
pub mod RunEnds
pub mod ExplainedRuns
pub mod ItemsPushed
pub mod ItemRuns
pub mod TextParts
pub mod SpelledBack
pub mod ExplainedBack
