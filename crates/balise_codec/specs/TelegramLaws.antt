-- The laws of a telegram's fields: it is spelt as it was read, and explained as it was spelt.
use Rattle.std.specs.Prelude.{◌≡◌, ◌≢◌, List, [], ◌∷◌, Bool, Ok, drop, map}
use Rattle.balise_rules.specs.declared.tag.Tag.{Tag}
use Rattle.balise_rules.specs.Forms.{Fields}
use Rattle.balise_rules.specs.Packet.{Packet}
use Rattle.balise_rules.specs.Telegram.{Telegram, read_telegram, used}
use Rattle.balise_codec.specs.declared.explain.PacketFields.{PacketFields}
use Rattle.balise_codec.specs.declared.explain.TelegramFields.{TelegramFields}
use Rattle.balise_codec.specs.declared.placed.Placed.{Placed}
use Rattle.balise_codec.specs.declared.telegram.PacketValues.{PacketValues}
use Rattle.balise_codec.specs.declared.telegram.TelegramMisfit.{TelegramMisfit}
use Rattle.balise_codec.specs.declared.telegram.TelegramMisfit.TheVariants.{OutOfMemory}
use Rattle.balise_codec.specs.Places.{placed, Explains}
use Rattle.balise_codec.specs.Spelling.{given}
use Rattle.balise_codec.specs.Telegrams.{IsOf, Refuses}

-- the values of packets, and the bits after their fields
abbrev pub AreValuesOf : List (Tag × Packet) → List PacketValues → Type 0
AreValuesOf [] [] = Unit {0}
AreValuesOf (p ∷ ps) (v ∷ vs) = (v.values.items ≡ given p.1.fields) × (v.rest ≡ p.1.rest) × AreValuesOf ps vs
AreValuesOf [] (v ∷ vs) = ⊥
AreValuesOf (p ∷ ps) [] = ⊥

-- A telegram that is read is one of its own header, its packets' values and its padding.
abbrev pub ReadIsOf : Type 0
ReadIsOf = (b : List Bool) (y : Telegram) (values : List PacketValues) → read_telegram b ≡ Ok y → AreValuesOf y.packets values → IsOf y.head values (drop (used y.packets) b) b y

-- A header, packets' values and a padding are of one telegram at most, with one list of bits.
abbrev pub OneTelegram : Type 0
OneTelegram = (head : Fields) (values : List PacketValues) (rest a b : List Bool) (y z : Telegram) → IsOf head values rest a y → IsOf head values rest b z → (a ≡ b) × (y ≡ z)

-- What is refused is no telegram.
abbrev pub RefusedIsNone : Type 0
RefusedIsNone = (head : Fields) (values : List PacketValues) (rest : List Bool) (e : TelegramMisfit) (b : List Bool) (y : Telegram) → e ≢ OutOfMemory → Refuses head values rest e → IsOf head values rest b y → ⊥

-- fields without their places
abbrev pub unplaced : List Placed → Fields
unplaced xs = map (λ x. ((x.var, x.occurrence), x.value)) xs

-- packets as they are explained have these values
abbrev pub AreExplained : List PacketValues → List PacketFields → Type 0
AreExplained [] [] = Unit {0}
AreExplained (v ∷ vs) (x ∷ xs) = (v.values.items ≡ given (unplaced x.fields.items)) × (v.rest ≡ x.rest) × AreExplained vs xs
AreExplained [] (x ∷ xs) = ⊥
AreExplained (v ∷ vs) [] = ⊥

-- The bits that fields are encoded as are explained as the same fields.
abbrev pub SpeltIsExplained : Type 0
SpeltIsExplained = (head : Fields) (values : List PacketValues) (rest b : List Bool) (y : Telegram) (x : TelegramFields) → IsOf head values rest b y → Explains b y x → (x.header.items ≡ placed 0 head) × AreExplained values x.packets.items × (x.padding ≡ rest)
