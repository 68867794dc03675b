pub mod HeaderFields
pub mod Reading
pub mod Faults
pub mod Setting
pub mod Linking
pub mod Moving
pub mod Packed
pub mod Changes
pub use Rattle.balise_rules.specs.Variables
pub use Rattle.balise_rules.specs.Refusals
pub use Rattle.balise_rules.specs.Bits
pub use Rattle.balise_rules.specs.Digits
pub use Rattle.balise_rules.specs.Tagged
pub use Rattle.balise_rules.specs.Tags
pub use Rattle.balise_rules.specs.Forms
pub use Rattle.balise_rules.specs.Packets
pub use Rattle.balise_rules.specs.Packet
pub use Rattle.balise_rules.specs.Names
pub use Rattle.balise_rules.specs.Addresses
pub use Rattle.balise_rules.specs.Telegram
pub use Rattle.balise_rules.specs.Doing
pub use Rattle.balise_rules.specs.Back
pub use Rattle.balise_bits.specs.Faults as BitsFaults
pub use Rattle.balise_layout.specs.Faults as PacketFaults
pub use Rattle.balise_layout.specs.First
pub use Rattle.balise_layout.specs.Collected
pub use Rattle.balise_layout.specs.Held
pub use Rattle.balise_layout.specs.Setting as PacketSetting
pub mod Shown
