pub mod PlaceTexts
pub mod FactTexts
pub mod TagTexts
