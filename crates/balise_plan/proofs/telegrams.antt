-- One telegram of a group is changed: it and the plan stay sound, and the call answers as the rules.
pub mod Answered
pub mod Edits
pub mod Replaced
pub mod Sound
