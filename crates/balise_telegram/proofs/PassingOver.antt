-- Packets without elements are passed over: they name nothing.
use Rattle.std.proofs.Common.{◌≡◌, ◌⊎◌, ◌∙◌, ◌+◌, ◌/◌, ◌++◌, ◌∷◌, ◌<◌, ◌≤◌, ◌^◌, [], ℕ, zero, suc, Bool, List, drop, length, refl, sym, ap, subst, add-one, append_assoc, arith}
use Rattle.std.proofs.lemmas.List.Elements.{All-append}
use Rattle.balise_rules.specs.declared.tag.Tag.{Tag}
use Rattle.balise_rules.specs.Bits.{num, part}
use Rattle.balise_rules.specs.Names.{links_of}
use Rattle.balise_rules.specs.Packet.{Packet}
use Rattle.balise_rules.specs.Telegram.{version_of, Telegram}
use Rattle.balise_layout.specs.Layouts.{form_of, layout_in, Nameless}
use Rattle.balise_layout.proofs.Lent.{Read, head_parts, number_lies, read_lies_there, read_there}
use Rattle.balise_layout.proofs.Nameless.{held_nameless}
use Rattle.balise_telegram.specs.Linking.{LinksFirst, NameNothing, PassesOver}
use Rattle.balise_telegram.specs.Shown.{IsPlace, IsShown}
use Rattle.balise_telegram.specs.declared.telegram.walking.Place.{Place}
use Rattle.balise_telegram.proofs.Left.{left, past_all}
use Rattle.balise_telegram.proofs.Tagging.{Packets}
use Rattle.balise_telegram.proofs.Walking.{lent_at}

alone : (x : Tag × Packet) → ((country : ℕ) → links_of country x.1 ≡ []) → NameNothing (x ∷ [])
alone x none zero d h = none
alone x none (suc k) d h = absurd (omega (arith, h))

pub none_passed : (ps : Packets) → PassesOver ps ps
none_passed ps = ([], (λ k d h. absurd (omega (arith, h))), refl)

-- one more
pub one_passed : (ps left : Packets) (x : Tag × Packet) → ((country : ℕ) → links_of country x.1 ≡ []) → PassesOver ps (x ∷ left) → PassesOver ps left
one_passed ps left x none over =
    let nothing = All-append (λ (y : Tag × Packet). (country : ℕ) → links_of country y.1 ≡ []) over.0 (x ∷ []) over.1 (alone x none) in
    (over.0 ++ x ∷ [], nothing, over.2 ∙ sym (append_assoc over.0 (x ∷ []) left))

-- the packet at a place, and its number in the first 23 bits
record There (b : List Bool) (y : Telegram) (p : Place) (head : ℕ) : Type 0 where
  packet : Tag × Packet
  left : drop p.index y.packets ≡ packet ∷ drop (p.index + 1) y.packets
  read : Read (version_of y) p.at b packet.1
  number : head / 2 ^ 15 ≡ num (part p.at 8 b)

there : (b : List Bool) (y : Telegram) (p : Place) (head : ℕ) → IsShown b y → IsPlace y p → p.index < length y.packets → head ≡ num (part p.at 23 b) → There b y p head
there b y p head s is below e =
    let t = lent_at b y p.index p.at (version_of y) s below is.1 refl in
    let r = read_there (version_of y) p.at b t.0.1 t.1 t.3 in record {
      packet = t.0;
      left = left y.packets p.index t.0 t.2 ∙ ap (λ (k : ℕ). t.0 ∷ drop k y.packets) (sym (add-one p.index));
      read = r;
      number = (head_parts b p.at head (omega (arith, r.within, r.least)) e).0;
    }

-- a packet by whose number no version has elements
pub names_none : (b : List Bool) (y : Telegram) (p : Place) (head : ℕ) → IsShown b y → IsPlace y p → p.index < length y.packets → head ≡ num (part p.at 23 b) →
    ((version : ℕ) → Nameless (form_of (layout_in version (head / 2 ^ 15)))) → (x : Tag × Packet) × (drop p.index y.packets ≡ x ∷ drop (p.index + 1) y.packets) × ((country : ℕ) → links_of country x.1 ≡ [])
names_none b y p head s is below e none =
    let t = there b y p head s is below e in
    let nameless = subst (λ (k : ℕ). Nameless (form_of (layout_in (version_of y) k))) t.number (none (version_of y)) in
    (t.packet, t.left, λ country. held_nameless country (layout_in (version_of y) (num (part p.at 8 b))) _ t.packet.1 nameless t.read.holds)

-- a packet by whose number it may have some
pub links_first : (b : List Bool) (y : Telegram) (p : Place) (head : ℕ) → IsShown b y → IsPlace y p → p.index < length y.packets → head ≡ num (part p.at 23 b) → (head / 2 ^ 15 ≡ 5) ⊎ (head / 2 ^ 15 ≡ 136) → LinksFirst (drop p.index y.packets)
links_first b y p head s is below e number =
    let t = there b y p head s is below e in
    let same = t.number ∙ number_lies _ b p.at _ t.packet.1 (read_lies_there (version_of y) p.at (num (part (p.at + 10) 13 b)) _ b t.packet.1 t.read refl refl) in
    subst LinksFirst (sym t.left) (subst (λ (k : ℕ). (k ≡ 5) ⊎ (k ≡ 136)) same number)

pub none_first : (y : Telegram) (p : Place) → length y.packets ≤ p.index → LinksFirst (drop p.index y.packets)
none_first y p h = subst LinksFirst (sym (past_all y.packets p.index h)) tt
