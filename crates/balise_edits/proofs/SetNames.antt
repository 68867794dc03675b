-- The identities that setting a link's number, or its orientation, notes are found in the list of the packet's links.
use Rattle.std.proofs.Common.{◌≡◌, ◌∙◌, ◌⊎◌, ℕ, [], ◌∷◌, filter, slice_get, Option, Some, None, inl, inr, refl, sym, ap, subst}
use Rattle.std.specs.Option.{option_map}
use Rattle.balise_rules.specs.declared.tag.Tag.{Tag}
use Rattle.balise_rules.specs.declared.identity.Id.{Id}
use Rattle.balise_rules.specs.declared.variable.Var.{Var}
use Rattle.balise_rules.specs.declared.variable.Var.TheVariants.{NidBg, QLinkorientation}
use Rattle.balise_rules.specs.Tagged.{find}
use Rattle.balise_rules.specs.Tags.{same_tag}
use Rattle.balise_rules.specs.Forms.{Fields}
use Rattle.balise_rules.specs.Packet.{Packet, field_of, value, IsSpelt}
use Rattle.balise_rules.specs.Telegram.{Telegram, version_of}
use Rattle.balise_rules.specs.Plan.{Plan, country_of, telegram_at, IsSound}
use Rattle.balise_rules.specs.Names.{country_at, is_real}
use Rattle.balise_rules.specs.declared.tagged_edit.TaggedEdit.TheVariants.{SetVar}
use Rattle.balise_rules.specs.Notes.{noted, note_at, nothing, set_note, names_set}
use Rattle.balise_rules.specs.Accepting.{Accepted}
use Rattle.balise_rules.proofs.Accepted.{accepted_here}
use Rattle.balise_rules.proofs.Cases.{unsome}
use Rattle.balise_rules.proofs.Found.{packet_spelt, stood}
use Rattle.balise_rules.proofs.Values.{value_found}
use Rattle.balise_telegram.specs.Packed.{links_at, links_found}
use Rattle.balise_plan.proofs.LinksAt.{links-at}
use Rattle.balise_edits.specs.Notes.{with_names, with_old}
use Rattle.balise_edits.proofs.Oriented.{numbered_link}

-- the variables of an element that name it, or say which way it is passed
abbrev pub OfLink : Var → Type 0
OfLink v = (v ≡ NidBg) ⊎ (v ≡ QLinkorientation)

abbrev link_in : ℕ → ℕ → Fields → Id
link_in c k fs = record { country = country_at c k fs; number = value NidBg k fs }

-- the packet stands, and its element k is the item k of its links
record Linked (p : Tag) (k : ℕ) (y : Telegram) : Type 0 where
  packet : Packet
  has : find same_tag p y.packets ≡ Some packet
  link : slice_get (links_at p y) k ≡ Some (link_in (country_of y) k packet.fields)

has_number : (version k : ℕ) (v : Var) (x : Packet) (old : ℕ) → IsSpelt version x → OfLink v → field_of v k x.fields ≡ Some old → (n : ℕ) × (field_of NidBg k x.fields ≡ Some n)
has_number version k v x old s (inl e) h = (old, subst (λ (w : Var). field_of w k x.fields ≡ Some old) e h)
has_number version k v x old s (inr e) h = numbered_link version k old x s (subst (λ (w : Var). field_of w k x.fields ≡ Some old) e h)

linked : (g : Tag) (t : ℕ) (p : Tag) (v : Var) (k n : ℕ) (plan : Plan) (y : Telegram) → IsSound plan → telegram_at g t plan ≡ Some y → OfLink v → Accepted (SetVar g t p v k n) plan → Linked p k y
linked g t p v k n plan y sound is own acc =
    let a = accepted_here (SetVar g t p v k n) (telegram_at g t plan) acc.1 in
    let same : a.0 ≡ y = unsome (sym a.1 ∙ is) in
    let x = a.2.0 in
    let has : find same_tag p y.packets ≡ Some x = subst (λ (z : Telegram). find same_tag p z.packets ≡ Some x) same a.2.1 in
    let spelt = packet_spelt y (stood g t plan sound y is).placed.sound p x has in
    let m = has_number (version_of y) k v x a.2.2.0 spelt own a.2.2.1 in
    let c = country_of y in
    let here : slice_get (links_at p y) k ≡ Some (record { country = country_at c k x.fields; number = m.0 }) =
    ap (λ o. slice_get (links_found c o) k) has ∙ links-at c k x spelt.numbered ∙ ap (option_map (λ v1. record { country = country_at c k x.fields; number = v1 })) m.1 in
    record { packet = x; has = has; link = here ∙ ap (λ v1. Some (record { country = country_at c k x.fields; number = v1 })) (sym (value_found NidBg k m.0 x.fields m.1)) }

noted_names : (g : Tag) (t : ℕ) (p : Tag) (v : Var) (k n : ℕ) (plan : Plan) (y : Telegram) (x : Packet) → telegram_at g t plan ≡ Some y → find same_tag p y.packets ≡ Some x →
    (noted (SetVar g t p v k n) plan).names ≡ names_set v k n (country_of y) x.fields
noted_names g t p v k n plan y x is has = ap (λ o. (note_at (SetVar g t p v k n) o).names) is ∙ ap (λ o. (set_note v k n (country_of y) o).names) has

-- the item of the packet's links, where the telegram stands
abbrev pub IsItem : Tag → ℕ → Tag → ℕ → Plan → Option Id → Type 0
IsItem g t p k plan link = (y : Telegram) → telegram_at g t plan ≡ Some y → link ≡ slice_get (links_at p y) k

record Named (g : Tag) (t : ℕ) (p : Tag) (k : ℕ) (plan : Plan) (link : Option Id) : Type 0 where
  telegram : Telegram
  stands : telegram_at g t plan ≡ Some telegram
  linked : Linked p k telegram
  is : link ≡ Some (link_in (country_of telegram) k linked.packet.fields)

named : (g : Tag) (t : ℕ) (p : Tag) (v : Var) (k n : ℕ) (plan : Plan) (link : Option Id) → IsSound plan → OfLink v → Accepted (SetVar g t p v k n) plan → IsItem g t p k plan link → Named g t p k plan link
named g t p v k n plan link sound own acc item =
    let a = accepted_here (SetVar g t p v k n) (telegram_at g t plan) acc.1 in
    let l = linked g t p v k n plan a.0 sound a.1 own acc in
    record { telegram = a.0; stands = a.1; linked = l; is = item a.0 a.1 ∙ l.link }

-- it is there where the setting is accepted
pub listed : (g : Tag) (t : ℕ) (p : Tag) (v : Var) (k n : ℕ) (plan : Plan) (link : Option Id) → IsSound plan → OfLink v → Accepted (SetVar g t p v k n) plan → IsItem g t p k plan link → link ≡ None → ⊥
listed g t p v k n plan link sound own acc item none =
    let m = named g t p v k n plan link sound own acc item in
    let bad : None ≡ Some (link_in (country_of m.telegram) k m.linked.packet.fields) = sym none ∙ m.is in absurd cc

-- and it is what is noted of an orientation
pub orientation_names : (g : Tag) (t : ℕ) (p : Tag) (k n : ℕ) (plan : Plan) (link : Option Id) (i : Id) → IsSound plan → Accepted (SetVar g t p QLinkorientation k n) plan → IsItem g t p k plan link → link ≡ Some i →
    filter is_real (i ∷ []) ≡ (noted (SetVar g t p QLinkorientation k n) plan).names
orientation_names g t p k n plan link i sound acc item some =
    let m = named g t p QLinkorientation k n plan link sound (inr refl) acc item in
    let same : i ≡ link_in (country_of m.telegram) k m.linked.packet.fields = unsome (sym some ∙ m.is) in
    ap (λ j. filter is_real (j ∷ [])) same ∙ sym (noted_names g t p QLinkorientation k n plan m.telegram m.linked.packet m.stands m.linked.has)

-- and of a number, with the new one
pub number_names : (g : Tag) (t : ℕ) (p : Tag) (k n : ℕ) (plan : Plan) (link : Option Id) (i : Id) → IsSound plan → Accepted (SetVar g t p NidBg k n) plan → IsItem g t p k plan link → link ≡ Some i →
    filter is_real (i ∷ record { country = i.country; number = n } ∷ []) ≡ (noted (SetVar g t p NidBg k n) plan).names
number_names g t p k n plan link i sound acc item some =
    let m = named g t p NidBg k n plan link sound (inl refl) acc item in
    let same : i ≡ link_in (country_of m.telegram) k m.linked.packet.fields = unsome (sym some ∙ m.is) in
    ap (λ j. filter is_real (j ∷ record { country = j.country; number = n } ∷ [])) same ∙ sym (noted_names g t p NidBg k n plan m.telegram m.linked.packet m.stands m.linked.has)

-- What a setting notes is an old value and identities, and nothing else.
form_in : (v : Var) (k n c : ℕ) (o : Option Packet) → with_old (set_note v k n c o).old (with_names (set_note v k n c o).names nothing) ≡ set_note v k n c o
form_in v k n c None = refl
form_in v k n c (Some x) = refl

form_at : (g : Tag) (t : ℕ) (p : Tag) (v : Var) (k n : ℕ) (o : Option Telegram) → let m = note_at (SetVar g t p v k n) o in with_old m.old (with_names m.names nothing) ≡ m
form_at g t p v k n None = refl
form_at g t p v k n (Some y) = form_in v k n (country_of y) (find same_tag p y.packets)

pub noted_form : (g : Tag) (t : ℕ) (p : Tag) (v : Var) (k n : ℕ) (plan : Plan) → let m = noted (SetVar g t p v k n) plan in with_old m.old (with_names m.names nothing) ≡ m
noted_form g t p v k n plan = form_at g t p v k n (telegram_at g t plan)
