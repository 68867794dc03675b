-- An element of a packet of a group.
use Rattle.std.specs.Prelude.{◌≡◌, ℕ, [], ◌∷◌, Option, Some, None, eqb, is_none, slice_get}
use Rattle.balise_rules.specs.declared.identity.Id.{Id}
use Rattle.balise_rules.specs.declared.tag.Tag.{Tag}
use Rattle.balise_rules.specs.declared.refusal.Refusal.{Refusal}
use Rattle.balise_rules.specs.declared.refusal.Refusal.TheVariants.{NoSuchTelegram, NoSuchPacket, NoSuchVariable}
use Rattle.balise_rules.specs.Tagged.{find}
use Rattle.balise_rules.specs.Tags.{same_tag}
use Rattle.balise_rules.specs.Packet.{Packet}
use Rattle.balise_rules.specs.Telegram.{Telegram}
use Rattle.balise_rules.specs.Plan.{Group, country_of}
use Rattle.balise_rules.specs.Doing.{first_of, when}
use Rattle.balise_telegram.specs.Packed.{links_at, links_found}

-- the telegram stands, and element k of its packet names this
abbrev pub ElementIn : ℕ → Tag → ℕ → Group → Id → Type 0
ElementIn t p k ys i = (y : Telegram) × (find eqb t ys ≡ Some y) × (slice_get (links_at p y) k ≡ Some i)

-- the first reason why a packet in a telegram of country c has no element k
abbrev pub link_refusal : ℕ → ℕ → Option Packet → Option Refusal
link_refusal c k o = first_of (when (is_none o) NoSuchPacket ∷ when (is_none (slice_get (links_found c o) k)) NoSuchVariable ∷ [])

-- the same of the packet of a telegram
abbrev pub element_refusal : Tag → ℕ → Option Telegram → Option Refusal
element_refusal p k None = Some NoSuchTelegram
element_refusal p k (Some y) = link_refusal (country_of y) k (find same_tag p y.packets)

-- there is none, for this reason
abbrev pub NoElement : ℕ → Tag → ℕ → Group → Refusal → Type 0
NoElement t p k ys e = element_refusal p k (find eqb t ys) ≡ Some e
