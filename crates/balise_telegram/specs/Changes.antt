-- Changes that may run out of memory.
use Rattle.std.specs.Prelude.{◌≡◌, ◌⊎◌, Bool, List, Result, Ok, Err}
use Rattle.balise_rules.specs.declared.tag.Tag.{Tag}
use Rattle.balise_rules.specs.Packet.{Packet}
use Rattle.balise_rules.specs.Telegram.{Telegram}
use Rattle.balise_telegram.specs.declared.fault.TelegramFault.{TelegramFault}
use Rattle.balise_telegram.specs.declared.fault.TelegramFault.TheVariants.{OutOfMemory}
use Rattle.balise_telegram.specs.Moving.{Inserts}

-- It does as said, or is out of memory and all stays.
abbrev pub OrWants : {A : Type 0} → (Telegram → Result A TelegramFault → Telegram → Type 0) → Telegram → Result A TelegramFault → Telegram → Type 0
OrWants does old (Ok r) new = does old (Ok r) new
OrWants does old (Err e) new = ((e ≡ OutOfMemory) × (new ≡ old)) ⊎ does old (Err e) new

-- A packet is put in, or the change is out of memory: then the packet is returned and all stays.
abbrev pub InsertsOrWants : Bool → Packet → List (Tag × Packet) → Telegram → Result Unit (TelegramFault × Packet) → Telegram → Type 0
InsertsOrWants there x ps old (Ok u) new = Inserts there x ps old (Ok u) new
InsertsOrWants there x ps old (Err e) new = ((e.0 ≡ OutOfMemory) × (e.1 ≡ x) × (new ≡ old)) ⊎ Inserts there x ps old (Err e) new
