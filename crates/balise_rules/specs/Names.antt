-- Names: which identities the elements of links and of infill location references name (SUBSET-026, 3.4, and packets 5 and 136 in chapter 7).
use Rattle.std.specs.Prelude.{◌≡◌, ℕ, ◌&&◌, not, Bool, true, false, cond, List, [], ◌∷◌, ◌++◌, length, map, filter, flat_map, Option, Some, None, eqb}
use Rattle.balise_rules.specs.declared.variable.Var.TheVariants.{NidC, NidBg}
use Rattle.balise_rules.specs.declared.identity.Id.{Id}
use Rattle.balise_rules.specs.declared.tag.Tag.{Tag}
use Rattle.balise_rules.specs.Tagged.{find}
use Rattle.balise_rules.specs.Tags.{is_of, same_tag, same_key, same_id}
use Rattle.balise_rules.specs.Forms.{Fields}
use Rattle.balise_rules.specs.Packet.{Packet, field_of}
use Rattle.balise_rules.specs.Telegram.{Telegram}
use Rattle.balise_rules.specs.Plan.{Group, Plan, reserved, country_of, telegram_at}

-- the country in force at element k: the last one written before its number, otherwise c, the telegram's own
abbrev pub country_at : ℕ → ℕ → Fields → ℕ
country_at c k [] = c
country_at c k (f ∷ fs) = cond (is_of NidC f.0) (country_at f.1 k fs) (cond (same_key (NidBg, k) f.0) c (country_at c k fs))

-- 16383 names nothing
abbrev pub is_real : Id → Bool
is_real i = not (eqb i.number reserved)

-- the identities of the elements among the fields `from` of a packet with the fields fs, 16383 kept
abbrev pub links_among : ℕ → Fields → Fields → List Id
links_among c fs [] = []
links_among c fs (f ∷ from) = cond (is_of NidBg f.0) ((record { country = country_at c f.0.1 fs; number = f.1 }) ∷ links_among c fs from) (links_among c fs from)

-- one identity for each element of a packet in a telegram of country c, in order
abbrev pub links_of : ℕ → Packet → List Id
links_of c x = links_among c x.fields x.fields

-- the identities that a packet names
abbrev pub names_of : ℕ → Packet → List Id
names_of c x = filter is_real (links_of c x)

abbrev pub names_in_packets : ℕ → List (Tag × Packet) → List Id
names_in_packets c [] = []
names_in_packets c (z ∷ zs) = names_of c z.1 ++ names_in_packets c zs

-- the identities named in a group
abbrev pub names_in : Group → List Id
names_in [] = []
names_in (y ∷ ys) = names_in_packets (country_of y.1) y.1.packets ++ names_in ys

-- Element k of packet p of telegram t of group g names the identity.
pub record Names (i : Id) (g : Tag) (t : ℕ) (p : Tag) (k : ℕ) (plan : Plan) : Type 0 where
  pub telegram : Telegram
  pub stands : telegram_at g t plan ≡ Some telegram
  pub packet : Packet
  pub has_packet : find same_tag p telegram.packets ≡ Some packet
  pub number : field_of NidBg k packet.fields ≡ Some i.number
  pub country : country_at (country_of telegram) k packet.fields ≡ i.country
  pub real : is_real i ≡ true

-- a place that names: group, telegram, packet and element
abbrev pub Link : Type 0
Link = Tag × ℕ × Tag × ℕ

-- whether a country and a number, where there is one, are an identity
abbrev pub is_it : ℕ → Id → Option ℕ → Bool
is_it c i None = false
is_it c i (Some n) = same_id (record { country = c; number = n }) i

-- whether element k of a packet with these fields, in a telegram of country c, is of an identity
abbrev pub calls : ℕ → ℕ → Fields → Id → Bool
calls c k fs i = is_it (country_at c k fs) i (field_of NidBg k fs)

-- the elements of an identity among the fields `from` of a packet with the fields fs
abbrev pub elements_among : Id → ℕ → Fields → Fields → List ℕ
elements_among i c fs [] = []
elements_among i c fs (f ∷ from) = cond (is_of NidBg f.0 && calls c f.0.1 fs i) (f.0.1 ∷ elements_among i c fs from) (elements_among i c fs from)

abbrev pub links_in_telegram : Id → Tag → ℕ → ℕ → List (Tag × Packet) → List Link
links_in_telegram i g t c zs = flat_map (λ (z : Tag × Packet). map (λ k. (g, t, z.0, k)) (elements_among i c z.1.fields z.1.fields)) zs

abbrev pub links_in_plan : Id → Plan → List Link
links_in_plan i plan = flat_map (λ (g : Tag × Group). flat_map (λ (t : ℕ × Telegram). links_in_telegram i g.0 t.0 (country_of t.1) t.1.packets) g.1) plan

-- the places that name an identity, in the order of the plan
abbrev pub links_to : Id → Plan → List Link
links_to i plan = cond (is_real i) (links_in_plan i plan) []

-- whether the plan names an identity
abbrev pub is_named : Id → Plan → Bool
is_named i plan = not (eqb (length (links_to i plan)) 0)
