-- A telegram that is read is one, and shows the bits that were read, padding included.
-- From what reading a header, a packet and the list of packets finds.
use Rattle.std.proofs.Common.{◌≡◌, ℕ, zero, suc, ◌-◌, ◌≤◌, Bool, false, ltb, eqb, List, [], ◌∷◌, ◌++◌, length, take, drop, Some, Result, Ok, Err, refl, sym, ap, subst, ◌∙◌, append_assoc, arith}
use Rattle.std.specs.Prelude.{All}
use Rattle.std.proofs.lemmas.Bool.{ltb-false, le-ltb, eqb-true}
use Rattle.std.proofs.lemmas.List.{take-append-drop, length-take, length-drop, append-nil}
use Rattle.std.proofs.lemmas.List.Elements.{All-cons, All-nil}
use Rattle.balise_rules.specs.declared.refusal.Refusal.{Refusal}
use Rattle.balise_rules.specs.declared.tag.Tag.{Tag}
use Rattle.balise_rules.specs.declared.tag.Tag.TheVariants.{Base}
use Rattle.balise_rules.specs.Variables.{width_of}
use Rattle.balise_rules.specs.Bits.{num, ones}
use Rattle.balise_rules.specs.Forms.{Form, done, shut, never, valued, Fields, Matches, Numbered, count_of, spelling, read_form}
use Rattle.balise_rules.specs.Packet.{Packet, bits_of, IsSpelt, read_body}
use Rattle.balise_rules.specs.Telegram.{header, packets_bits, TaggedFrom, with_more, and_more, read_packets, fields_or_none, read_header}
use Rattle.balise_rules.proofs.Numbers.{num_injective}
use Rattle.balise_rules.proofs.Spelt.{read_found}
use Rattle.balise_rules.proofs.PacketRead.{PacketFound, body_found}
use Rattle.balise_rules.proofs.Cases.{unok, unless}
use Rattle.balise_rules.proofs.Tests.{split_on}

-- eight bits of value 255 are ones
eight_ones : (b : List Bool) → 8 ≤ length b → num (take 8 b) ≡ 255 → take 8 b ≡ ones 8
unfolding num
eight_ones b h e = num_injective (take 8 b) (ones 8) (omega (arith, length-take 8 b)) e

-- What reading the packets finds: them, packet 255, and the bits after it.
pub record PacketsFound (version n : ℕ) (b : List Bool) (r : List (Tag × Packet) × List Bool) : Type 0 where
  pub tags : TaggedFrom n r.0
  pub packets : All (λ p. IsSpelt version p.1) r.0
  pub parts : b ≡ packets_bits r.0 ++ (ones 8 ++ r.1)

abbrev Packets : Type 0
Packets = List (Tag × Packet) × List Bool

with_more_found : (version n : ℕ) (b : List Bool) (p : Packet × List Bool) → PacketFound version b p → (m : Result Packets Refusal) → ((x : Packets) → m ≡ Ok x → PacketsFound version (suc n) p.1 x) → (r : Packets) → with_more (Base n) p.0 m ≡ Ok r → PacketsFound version n b r
with_more_found version n b p f (Err e) k r h = absurd cc
with_more_found version n b p f (Ok x) k r h =
    let more = k x refl in
    let is : ((Base n, p.0) ∷ x.0, x.1) ≡ r = unok h in
    subst (λ (y : Packets). PacketsFound version n b y) is (record {
      tags = (refl, more.tags);
      packets = All-cons (λ (q : Tag × Packet). IsSpelt version q.1) (Base n, p.0) x.0 f.spelt more.packets;
      parts = f.parts ∙ ap (λ (y : List Bool). bits_of p.0 ++ y) more.parts ∙ sym (append_assoc (bits_of p.0) (packets_bits x.0) (ones 8 ++ x.1));
    })

and_more_found : (version n : ℕ) (b : List Bool) (p : Result (Packet × List Bool) Refusal) → read_body version b ≡ p → (rest : List Bool → Result Packets Refusal) → ((c : List Bool) (x : Packets) → rest c ≡ Ok x → PacketsFound version (suc n) c x) → (r : Packets) → and_more (Base n) p rest ≡ Ok r → PacketsFound version n b r
and_more_found version n b (Err e) is rest k r h = absurd cc
and_more_found version n b (Ok p) is rest k r h = with_more_found version n b p (body_found version b p is) (rest p.1) (k p.1) r h

pub packets_found : (most version n : ℕ) (b : List Bool) (r : Packets) → read_packets most version n b ≡ Ok r → PacketsFound version n b r
unfolding read_packets
packets_found zero version n b r h = absurd cc
packets_found (suc most) version n b r h =
    let long = unless (ltb (length b) 8) _ _ r h in
    split_on (eqb (num (take 8 b)) 255)
    (λ e. let k = simp e at long.1 in
    let is : ([], drop 8 b) ≡ r = unok k in
    let eight = eight_ones b (ltb-false (length b) 8 long.0) (eqb-true (num (take 8 b)) 255 e) in
    subst (λ (y : Packets). PacketsFound version n b y) is (record { tags = tt; packets = All-nil (λ (q : Tag × Packet). IsSpelt version q.1); parts = sym (take-append-drop 8 b) ∙ ap (λ (x : List Bool). x ++ drop 8 b) eight }))
    (λ e. let k = simp e at long.1 in
    let more = unless (eqb (num (take 8 b)) 0) _ _ r k in
    and_more_found version n b (read_body version b) refl (λ rest. read_packets most version (suc n) rest) (λ c y i. packets_found most version (suc n) c y i) r more.1)

-- The header: each variable in turn, so that it is read from any 50 bits.

-- A form of variables alone, of n bits.
abbrev pub Fixed : Form → ℕ → Type 0
Fixed done n = n ≡ 0
Fixed shut n = n ≡ 0
Fixed never n = ⊥
Fixed (valued v next) n = (width_of v ≤ n) × ((x : ℕ) → Fixed (next x) (n - width_of v))

-- what is read of such a form, where just its bits stand
record FixedRead (form : Form) (seen : Fields) (b : List Bool) : Type 0 where
  fields : Fields
  is : read_form form seen b ≡ Some (fields, [])

fixed_read : (form : Form) (seen : Fields) (b : List Bool) → Fixed form (length b) → FixedRead form seen b
unfolding read_form
fixed_read done seen [] h = record { fields = seen; is = refl }
fixed_read done seen (x ∷ b) h = absurd cc
fixed_read shut seen [] h = record { fields = seen; is = refl }
fixed_read shut seen (x ∷ b) h = absurd cc
fixed_read never seen b h = absurd h
fixed_read (valued v next) seen b h =
    let w = width_of v in
    let n = num (take w b) in
    let e : length b - w ≡ length (drop w b) = sym (length-drop w b) in
    let more = fixed_read (next n) (seen ++ ((v, count_of v seen), n) ∷ []) (drop w b) (subst (λ (k : ℕ). Fixed (next n) k) e (h.1 n)) in
    let long : ltb (length b) w ≡ false = le-ltb _ _ h.0 in
    record { fields = more.fields; is = rw long more.is }

pub header_fixed : Fixed header 50
unfolding header width_of
header_fixed = (omega arith, λ _. (omega arith, λ _. (omega arith, λ _. (omega arith, λ _. (omega arith, λ _. (omega arith, λ _. (omega arith, λ _. (omega arith, λ _. (omega arith, λ _. (omega arith, λ _. refl))))))))))

-- what stands at the front of the bits
pub record HeaderFound (b : List Bool) : Type 0 where
  pub form : Matches header (read_header b) []
  pub numbered : Numbered (read_header b)
  pub spelt : take 50 b ≡ spelling (read_header b)

pub header_found : (b : List Bool) → 50 ≤ length b → HeaderFound b
unfolding read_header
header_found b h =
    let size : 50 ≡ length (take 50 b) = omega (arith, length-take 50 b) in
    let r = fixed_read header [] (take 50 b) (subst (λ (k : ℕ). Fixed header k) size header_fixed) in
    let f = read_found header [] (take 50 b) (r.fields, []) r.is in
    let e : fields_or_none (read_form header [] (take 50 b)) ≡ f.fields = ap fields_or_none r.is ∙ f.all in
    record {
      form = subst (λ (x : Fields). Matches header x []) (sym e) f.matched;
      numbered = subst (λ (x : Fields). Numbered x) (sym e) f.numbered;
      spelt = f.spelt ∙ append-nil (spelling f.fields) ∙ ap spelling (sym e);
    }
