-- Packets passed over on the way to one that may name identities.
use Rattle.std.specs.Prelude.{◌≡◌, ◌⊎◌, ◌++◌, [], ◌∷◌, ℕ, List, All, drop}
use Rattle.balise_rules.specs.declared.identity.Id.{Id}
use Rattle.balise_rules.specs.declared.tag.Tag.{Tag}
use Rattle.balise_rules.specs.declared.tag.Tag.TheVariants.{Base}
use Rattle.balise_rules.specs.Names.{links_of}
use Rattle.balise_rules.specs.Packet.{value, Packet}
use Rattle.balise_rules.specs.Telegram.{Telegram}
use Rattle.balise_rules.specs.declared.variable.Var.TheVariants.{NidPacket}
use Rattle.balise_telegram.specs.Shown.{IsPlace}
use Rattle.balise_telegram.specs.declared.telegram.names.TelegramNames.{TelegramNames}
use Rattle.balise_telegram.specs.declared.telegram.names.TelegramNames.TheVariants.{Nothing, One, Many}
use Rattle.balise_telegram.specs.declared.telegram.walking.Place.{Place}

-- none of them has an element, in whatever country
abbrev pub NameNothing : List (Tag × Packet) → Type 0
NameNothing ps = All (λ x. (country : ℕ) → links_of country x.1 ≡ []) ps

-- some that name nothing stood before those that are left
abbrev pub PassesOver : List (Tag × Packet) → List (Tag × Packet) → Type 0
PassesOver ps left = (passed : List (Tag × Packet)) × NameNothing passed × (ps ≡ passed ++ left)

-- the first of them, where there is one, is a packet 5 or 136
abbrev pub LinksFirst : List (Tag × Packet) → Type 0
LinksFirst [] = Unit {0}
LinksFirst (x ∷ xs) = (value NidPacket 0 x.1.fields ≡ 5) ⊎ (value NidPacket 0 x.1.fields ≡ 136)

-- from a place on, the place before the first packet that may have elements, or after the last packet
pub record Reaches (y : Telegram) (from to : Place) : Type 0 where
  pub place : IsPlace y to
  pub passes : PassesOver (drop from.index y.packets) (drop to.index y.packets)
  pub linking : LinksFirst (drop to.index y.packets)

-- one packet alone may have elements, and it names these in a telegram of country c
pub record NamesAlone (i : ℕ) (ids : List Id) (c : ℕ) (ps : List (Tag × Packet)) : Type 0 where
  pub before : List (Tag × Packet)
  pub packet : Packet
  pub after : List (Tag × Packet)
  pub stands : ps ≡ before ++ (Base i, packet) ∷ after
  pub nothing_before : NameNothing before
  pub nothing_after : NameNothing after
  pub names : ids ≡ links_of c packet

-- what packets as read name in a telegram of country c, unless it is much
abbrev pub AreNamed : TelegramNames → ℕ → List (Tag × Packet) → Type 0
AreNamed Nothing c ps = NameNothing ps
AreNamed (One i ids) c ps = NamesAlone i ids c ps
AreNamed Many c ps = Unit {0}
