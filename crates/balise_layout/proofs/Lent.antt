-- A packet that lies between two places of longer bits: what is read of it there is read of the packet.
use Rattle.std.proofs.Common.{◌≡◌, ℕ, ◌+◌, ◌-◌, ◌/◌, ◌%◌, ◌^◌, ◌<◌, ◌≤◌, Bool, List, length, take, drop, Option, Some, Ok, refl, sym, ap, subst, ◌∙◌, arith, length-append}
use Rattle.std.proofs.lemmas.List.{drop-drop, take_at, length-take, length-drop}
use Rattle.balise_rules.specs.declared.variable.Var.{Var}
use Rattle.balise_rules.specs.declared.variable.Var.TheVariants.{NidPacket, QDir}
use Rattle.balise_rules.specs.Variables.{width_of}
use Rattle.balise_rules.specs.Bits.{num, part}
use Rattle.balise_rules.specs.Forms.{Form, Fields, Matches}
use Rattle.balise_rules.specs.Packets.{body}
use Rattle.balise_rules.specs.Packet.{Packet, bits_of, field_of, value, width, length_said, read_first}
use Rattle.balise_rules.proofs.PacketAgain.{said_again}
use Rattle.balise_bits.proofs.Pieces.{num-part, num-part_below}
use Rattle.balise_bits.proofs.Putting.{length-part, part-part}
use Rattle.balise_layout.specs.declared.packet_ref.PacketRef.TheInside.{Inside}
use Rattle.balise_layout.specs.Held.{before, headed, held, Holds, IsHeld}
use Rattle.balise_layout.specs.Kinds.{number_of}
use Rattle.balise_layout.specs.Layouts.{next_of, layout_in}
use Rattle.balise_layout.proofs.First.{reads_begins, spells_holds}
use Rattle.balise_layout.specs.LayoutLaws.{layout_reads}
use Rattle.balise_layout.proofs.Spelt.{front_of, front_alone, head_of}
use Rattle.balise_layout.proofs.Values.{stands_within, stands_value, value_is, number_stands, dir_stands}

-- a packet between two places of the bits
pub record Lies (next : ℕ → Form) (b : List Bool) (at end : ℕ) (p : Packet) : Type 0 where
  pub ordered : at ≤ end
  pub within : end ≤ length b
  pub holds : Holds next (part at (end - at) b) p

-- what is lent as a packet
pub lies : (i : Inside) (p : Packet) → (i.at ≤ i.end) × (i.end ≤ length i.bits.now) × IsHeld (next_of (number_of i.kind)) (part i.at (i.end - i.at) i.bits.now) → held (next_of (number_of i.kind)) (part i.at (i.end - i.at) i.bits.now) ≡ p → Lies (next_of (number_of i.kind)) i.bits.now i.at i.end p
lies i p h e = record { ordered = h.0; within = h.1; holds = subst (Holds (next_of (number_of i.kind)) (part i.at (i.end - i.at) i.bits.now)) e h.2 }

pub part_long : (at end : ℕ) (b : List Bool) → at ≤ end → end ≤ length b → length (part at (end - at) b) ≡ end - at
part_long at end b ordered within = omega (arith, length-take (end - at) (drop at b), length-drop at b, ordered, within)

pub is_wide : (next : ℕ → Form) (b : List Bool) (at end : ℕ) (p : Packet) → Lies next b at end p → width p ≡ end - at
is_wide next b at end p l = sym (ap length l.holds.spelt) ∙ part_long at end b l.ordered l.within

-- each packet has its first three fields
pub least : (next : ℕ → Form) (b : List Bool) (p : Packet) → Holds next b p → 23 ≤ width p
least next b p h = (front_alone next p.fields p.rest (head_of next p.fields p.rest h.form h.numbered)).long

pub lies_long : (next : ℕ → Form) (b : List Bool) (at end : ℕ) (p : Packet) → Lies next b at end p → at + 23 ≤ end
lies_long next b at end p l = omega (arith, is_wide next b at end p l, least next _ p l.holds, l.ordered)

pub lies_within : (next : ℕ → Form) (b : List Bool) (at end : ℕ) (p : Packet) → Lies next b at end p → at + 23 ≤ length b
lies_within next b at end p l = omega (arith, lies_long next b at end p l, l.within)

-- the number and the length of a packet, from its first 23 bits
pub head_parts : (b : List Bool) (at h : ℕ) → at + 23 ≤ length b → h ≡ num (part at 23 b) → (h / 2 ^ 15 ≡ num (part at 8 b)) × (h % 8192 ≡ num (part (at + 10) 13 b))
head_parts b at h within e =
    let x = part at 23 b in
    let size : length x ≡ 23 = length-part at 23 b within in
    let small : num x < 2 ^ 23 = num-part_below b at 23 within in
    let front : num x / 2 ^ 15 % 2 ^ 8 ≡ num (part 0 8 x) = num-part x 0 8 15 (omega (arith, size)) in
    let back : num x / 2 ^ 0 % 2 ^ 13 ≡ num (part 10 13 x) = num-part x 10 13 0 (omega (arith, size)) in
    let here : at + 0 ≡ at = omega arith in
    let number : num (part 0 8 x) ≡ num (part at 8 b) = ap num (part-part 0 8 at 23 b (omega arith)) ∙ ap (λ (k : ℕ). num (part k 8 b)) here in
    let long : num (part 10 13 x) ≡ num (part (at + 10) 13 b) = ap num (part-part 10 13 at 23 b (omega arith)) in
    (omega (arith, e, small, front, number), omega (arith, e, back, long))

-- a field that stands in it
pub record FieldLies (b : List Bool) (v : Var) (k : ℕ) (p : Packet) (place end : ℕ) : Type 0 where
  pub within : place + width_of v ≤ end
  pub is : field_of v k p.fields ≡ Some (num (part place (width_of v) b))

pub field_lies : (next : ℕ → Form) (b : List Bool) (at end : ℕ) (p : Packet) (v : Var) (k d : ℕ) → Lies next b at end p → before (v, k) p.fields ≡ Some d → FieldLies b v k p (at + d) end
field_lies next b at end p v k d l e =
    let inside = stands_within next _ p v k d l.holds e in
    let long = part_long at end b l.ordered l.within in
    let fits : d + width_of v ≤ end - at = omega (arith, inside, long) in
    record {
      within = omega (arith, fits, l.ordered);
      is = stands_value next _ p v k d l.holds e ∙ ap (λ (x : List Bool). Some (num x)) (part-part d (width_of v) at (end - at) b fits);
    }

-- the first two fields
pub number_lies : (next : ℕ → Form) (b : List Bool) (at end : ℕ) (p : Packet) → Lies next b at end p → num (part at 8 b) ≡ value NidPacket 0 p.fields
unfolding width_of
number_lies next b at end p l =
    let f = field_lies next b at end p NidPacket 0 0 l (number_stands next _ p l.holds) in
    ap (λ (k : ℕ). num (part k 8 b)) (let e : at ≡ at + 0 = omega arith in e) ∙ sym (value_is NidPacket 0 _ p.fields f.is)

pub dir_lies : (next : ℕ → Form) (b : List Bool) (at end : ℕ) (p : Packet) → Lies next b at end p → num (part (at + 8) 2 b) ≡ value QDir 0 p.fields
unfolding width_of
dir_lies next b at end p l = sym (value_is QDir 0 _ p.fields (field_lies next b at end p QDir 0 8 l (dir_stands next _ p l.holds)).is)

-- ---- a packet that is read from a place on

-- it has the form of the layout by which the version reads its number
pub record Read (version at : ℕ) (b : List Bool) (p : Packet) : Type 0 where
  pub within : at + width p ≤ length b
  pub least : 23 ≤ width p
  pub said : num (part (at + 10) 13 b) ≡ width p
  pub part_is : part at (width p) b ≡ bits_of p
  pub holds : Holds (next_of (layout_in version (num (part at 8 b)))) (bits_of p) p

pub read_there : (version at : ℕ) (b : List Bool) (p : Packet) (after : List Bool) → read_first version (drop at b) ≡ Ok (p, after) → Read version at b p
read_there version at b p after e =
    let f = reads_begins version (drop at b) p after e in
    let s = spells_holds version (bits_of p) p f.spelt in
    let h = head_of (body version) p.fields p.rest s.form s.numbered in
    let n = num (part at 8 b) in
    let next = next_of (layout_in version n) in
    let long = least (body version) (bits_of p) p s in
    let number : n ≡ h.number = ap (λ (x : List Bool). num (take 8 x)) f.parts ∙ (front_of (body version) p.fields p.rest after h).has_number in
    let same : next h.number ≡ body version h.number = ap (λ (k : ℕ). next_of (layout_in version k) h.number) number ∙ layout_reads version h.number in
    let m = subst (λ (x : Fields). Matches (headed (body version)) x p.rest) h.is s.form in
    let more = subst (λ (x : Form). Matches x h.more p.rest) (sym same) h.matches in
    record {
      within = omega (arith, ap length f.parts, length-append (bits_of p) after, length-drop at b, long);
      least = long;
      said = ap (λ (x : List Bool). num (take 13 x)) (sym (drop-drop 10 at b)) ∙ ap length_said f.parts ∙ said_again version p after f.spelt;
      part_is = ap (take (width p)) f.parts ∙ take_at (bits_of p) after (width p) refl;
      holds = record {
        spelt = refl;
        form = subst (λ (x : Fields). Matches (headed next) x p.rest) (sym h.is) (refl, m.1, (refl, m.2.1, (refl, m.2.2.1, more)));
        numbered = s.numbered;
        said = s.said;
      };
    }

-- so it lies from there on, as far as it says
pub read_lies_there : (version at size : ℕ) (own : Option ℕ) (b : List Bool) (p : Packet) → Read version at b p → own ≡ layout_in version (num (part at 8 b)) → size ≡ num (part (at + 10) 13 b) → Lies (next_of own) b at (at + size) p
read_lies_there version at size own b p r kind is =
    let wide : size ≡ width p = is ∙ r.said in
    let bits : part at (at + size - at) b ≡ bits_of p = ap (λ (k : ℕ). part at k b) (let k : at + size - at ≡ width p = omega (arith, wide) in k) ∙ r.part_is in
    record {
      ordered = omega arith;
      within = omega (arith, r.within, wide);
      holds = subst (λ (o : Option ℕ). Holds (next_of o) (part at (at + size - at) b) p) (sym kind) (subst (λ (x : List Bool). Holds (next_of (layout_in version (num (part at 8 b)))) x p) (sym bits) r.holds);
    }
