-- A packet put into one telegram, or moved there: what it answers and leaves.
use Rattle.std.specs.Prelude.{◌≡◌, Option, None, Result, Ok, Err}
use Rattle.balise_rules.specs.declared.tag.Tag.{Tag}
use Rattle.balise_rules.specs.declared.refusal.Refusal.{Refusal}
use Rattle.balise_rules.specs.declared.refusal.Refusal.TheVariants.{NoSuchTelegram}
use Rattle.balise_rules.specs.Packet.{Packet, IsSpelt}
use Rattle.balise_rules.specs.Tagged.{find}
use Rattle.balise_rules.specs.Tags.{same_tag}
use Rattle.balise_rules.specs.Telegram.{Telegram, version_of}
use Rattle.balise_telegram.specs.declared.fault.TelegramFault.{TelegramFault}
use Rattle.balise_telegram.specs.Faults.{refusal_of}
use Rattle.balise_telegram.specs.Changes.{InsertsOrWants}
use Rattle.balise_telegram.specs.Moving.{Shifts, ShiftsBefore}
use Rattle.balise_index.specs.declared.spot.Spot.{Spot}
use Rattle.balise_index.specs.declared.spot.Spot.TheVariants.{After, Before}
use Rattle.balise_index.specs.AtSpot.{put_in, spot_stands}

-- no packet has the tag, and this one is spelt in the telegram's version
pub record MayStand (p : Tag) (x : Packet) (y : Telegram) : Type 0 where
  pub fresh : find same_tag p y.packets ≡ None
  pub spelt : IsSpelt (version_of y) x

abbrev pub no_telegram : Packet → Result Unit (Refusal × Packet)
no_telegram x = Err (NoSuchTelegram, x)

-- a telegram's answer as it is passed on
abbrev pub passed : Result Unit (TelegramFault × Packet) → Result Unit (Refusal × Packet)
passed (Ok u) = Ok u
passed (Err e) = Err (refusal_of e.0, e.1)

-- a telegram's call, its answer passed on
pub record PutsIn (s : Spot Tag) (p : Tag) (x : Packet) (old : Telegram) (result : Result Unit (Refusal × Packet)) (new : Telegram) : Type 0 where
  pub answer : Result Unit (TelegramFault × Packet)
  pub call : InsertsOrWants (spot_stands s old.packets) x (put_in s (p, x) old.packets) old answer new
  pub is : result ≡ passed answer

-- a packet moved to a spot of its telegram
abbrev pub ShiftsIn : Spot Tag → Tag → Telegram → Result (Option Tag) TelegramFault → Telegram → Type 0
ShiftsIn (After a) p = Shifts p a
ShiftsIn (Before n) p = ShiftsBefore p n
