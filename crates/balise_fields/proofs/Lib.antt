pub mod FoursRead
pub mod Splitting
pub mod PacketDigits
pub mod Sequences
pub mod ZerosAndDigits
pub mod FieldsFound
