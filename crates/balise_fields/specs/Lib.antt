pub mod FewWords
pub mod Fours
pub mod DigitLines
pub mod FieldLines
pub mod ExplainedTexts
pub mod Explaining
