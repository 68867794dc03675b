pub mod FlagBits
pub mod FactNumbers
pub mod HandedOver
pub mod Outcome
pub mod FieldsOutcome
