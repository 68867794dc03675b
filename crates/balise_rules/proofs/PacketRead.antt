-- A packet's bits have one spelling, and the packet that is read is spelt by the bits before those that are left.
-- From what reading by a form finds; L_PACKET stands 10 bits after the begin of any packet.
use Rattle.std.proofs.Common.{◌≡◌, ℕ, ◌+◌, ◌-◌, ◌^◌, ◌≤◌, Bool, false, ltb, List, [], ◌∷◌, ◌++◌, length, take, drop, Option, Some, None, Ok, refl, sym, ap, subst, ◌∙◌, append_assoc, arith, length-append, eqb}
use Rattle.std.specs.Prelude.{IsTrue}
use Rattle.std.proofs.lemmas.Bool.{ltb-false, ltb-true, or_parts}
use Rattle.std.proofs.lemmas.List.{take_at, drop_at, take-append-drop, length-take, drop-take, take-take}
use Rattle.balise_rules.specs.declared.variable.Var.{Var}
use Rattle.balise_rules.specs.declared.variable.Var.TheVariants.{NidPacket, QDir, LPacket}
use Rattle.balise_rules.specs.Variables.{width_of}
use Rattle.balise_rules.specs.Bits.{num, bits, fits}
use Rattle.balise_rules.specs.Tags.{Key}
use Rattle.balise_rules.specs.Forms.{Fields, Matches, Numbered, count_of, spelling, read_form}
use Rattle.balise_rules.specs.Packets.{packet, body}
use Rattle.balise_rules.specs.Packet.{Packet, bits_of, value, Spells, IsSpelt, length_said, is_cut, read_packet, read_body, read_first}
use Rattle.balise_rules.proofs.Numbers.{length-bits, num-bits_fit}
use Rattle.balise_rules.proofs.Spelt.{read_found, read_again}
use Rattle.balise_rules.proofs.Cases.{unsome, unok, unless}

-- the bits of one packet have one spelling
pub one_packet : (version : ℕ) (b : List Bool) (p q : Packet) → Spells version b p → Spells version b q → p ≡ q
one_packet version b p q s t =
    let again = sym (read_again (packet version) [] p.fields p.rest s.form s.numbered) ∙ ap (read_form (packet version) []) (sym s.spelt ∙ t.spelt) ∙ read_again (packet version) [] q.fields q.rest t.form t.numbered in
    ap (λ (r : Fields × List Bool). record { fields = r.0; rest = r.1 }) (unsome again)

-- the first three fields of a packet
abbrev pub three : ℕ → ℕ → ℕ → Fields → Fields
three n d l more = ((NidPacket, 0), n) ∷ ((QDir, 0), d) ∷ ((LPacket, 0), l) ∷ more

-- A packet's fields begin with these three.
pub record Begins (version : ℕ) (fs : Fields) (rest : List Bool) : Type 0 where
  pub number : ℕ
  pub direction : ℕ
  pub said : ℕ
  pub more : Fields
  pub is : fs ≡ three number direction said more
  pub number_fits : IsTrue (fits 8 number)
  pub direction_fits : IsTrue (fits 2 direction)
  pub said_fits : IsTrue (fits 13 said)
  pub body : Matches (body version number) more rest

key_of : (v w : Var) (k n : ℕ) (seen : Fields) → v ≡ w → k ≡ count_of v seen → ◌≡◌ {A = Key × ℕ} ((v, k), n) ((w, count_of w seen), n)
key_of v w k n seen e u = ap (λ (i : ℕ). ((v, i), n)) u ∙ ap (λ (x : Var). ((x, count_of x seen), n)) e

pub begins : (version : ℕ) (fs : Fields) (rest : List Bool) → Matches (packet version) fs rest → Numbered fs → Begins version fs rest
unfolding packet width_of
begins version [] rest m u = absurd m
begins version (f ∷ []) rest m u = absurd m.2
begins version (f ∷ g ∷ []) rest m u = absurd m.2.2
begins version (((a, i), n) ∷ ((b, j), d) ∷ ((c, k), l) ∷ more) rest m u =
    let e1 = key_of a NidPacket i n [] m.0 u.0 in
    let s1 = (λ (x : Key × ℕ). x ∷ []) in
    let u2 : j ≡ count_of b (((NidPacket, 0), n) ∷ []) = u.1.0 ∙ ap (λ (x : Key × ℕ). count_of b (x ∷ [])) e1 in
    let e2 = key_of b QDir j d (((NidPacket, 0), n) ∷ []) m.2.0 u2 in
    let u3 : k ≡ count_of c (((NidPacket, 0), n) ∷ ((QDir, 0), d) ∷ []) = u.1.1.0 ∙ ap (λ (x : Key × ℕ). count_of c (x ∷ ((b, j), d) ∷ [])) e1 ∙ ap (λ (x : Key × ℕ). count_of c (((NidPacket, 0), n) ∷ x ∷ [])) e2 in
    let e3 = key_of c LPacket k l (((NidPacket, 0), n) ∷ ((QDir, 0), d) ∷ []) m.2.2.0 u3 in
    record {
      number = n;
      direction = d;
      said = l;
      more = more;
      is = ap (λ (x : Key × ℕ). x ∷ ((b, j), d) ∷ ((c, k), l) ∷ more) e1 ∙ ap (λ (x : Key × ℕ). ((NidPacket, 0), n) ∷ x ∷ ((c, k), l) ∷ more) e2 ∙ ap (λ (x : Key × ℕ). ((NidPacket, 0), n) ∷ ((QDir, 0), d) ∷ x ∷ more) e3;
      number_fits = m.1;
      direction_fits = m.2.1;
      said_fits = m.2.2.1;
      body = m.2.2.2;
    }

pub three_spelt : (n d l : ℕ) (more : Fields) (rest : List Bool) → spelling (three n d l more) ++ rest ≡ (bits 8 n ++ bits 2 d) ++ (bits 13 l ++ (spelling more ++ rest))
unfolding spelling width_of
three_spelt n d l more rest =
    append_assoc (bits 8 n) (bits 2 d ++ (bits 13 l ++ spelling more)) rest
    ∙ ap (λ (x : List Bool). bits 8 n ++ x) (append_assoc (bits 2 d) (bits 13 l ++ spelling more) rest ∙ ap (λ (x : List Bool). bits 2 d ++ x) (append_assoc (bits 13 l) (spelling more) rest))
    ∙ sym (append_assoc (bits 8 n) (bits 2 d) (bits 13 l ++ (spelling more ++ rest)))

said_three : (n d l : ℕ) (more : Fields) (rest : List Bool) → IsTrue (fits 13 l) → length_said (spelling (three n d l more) ++ rest) ≡ l
said_three n d l more rest h =
    let before : length (bits 8 n ++ bits 2 d) ≡ 10 = omega (arith, length-append (bits 8 n) (bits 2 d), length-bits 8 n, length-bits 2 d) in
    ap (λ (x : List Bool). num (take 13 (drop 10 x))) (three_spelt n d l more rest)
    ∙ ap (λ (x : List Bool). num (take 13 x)) (drop_at (bits 8 n ++ bits 2 d) (bits 13 l ++ (spelling more ++ rest)) 10 before)
    ∙ ap num (take_at (bits 13 l) (spelling more ++ rest) 13 (length-bits 13 l))
    ∙ num-bits_fit 13 l (ltb-true l (2 ^ 13) h)

-- L_PACKET is read where it stands
pub said_is : (version : ℕ) (fs : Fields) (rest : List Bool) → Matches (packet version) fs rest → Numbered fs → value LPacket 0 fs ≡ length_said (spelling fs ++ rest)
said_is version fs rest m u =
    let b = begins version fs rest m u in
    ap (value LPacket 0) b.is ∙ sym (said_three b.number b.direction b.said b.more rest b.said_fits) ∙ ap (λ (x : Fields). length_said (spelling x ++ rest)) (sym b.is)

-- L_PACKET lies within the first 23 bits
pub said_within : (n : ℕ) (b : List Bool) → 23 ≤ n → length_said (take n b) ≡ length_said b
said_within n b h =
    let e : n ≡ 10 + (n - 10) = omega arith in
    let cut : drop 10 (take n b) ≡ take (n - 10) (drop 10 b) = ap (λ (k : ℕ). drop 10 (take k b)) e ∙ drop-take 10 (n - 10) b in
    ap (λ (x : List Bool). num (take 13 x)) cut ∙ ap num (take-take 13 (n - 10) (drop 10 b) (omega arith))

-- The bits that aren't cut.
record Whole (b : List Bool) : Type 0 where
  least : 23 ≤ length_said b
  within : length_said b ≤ length b

whole : (b : List Bool) → is_cut b ≡ false → Whole b
whole b h = let tests = or_parts _ _ h in record { least = ltb-false _ _ (or_parts _ _ tests.0).1; within = ltb-false _ _ tests.1 }

-- What reading a packet finds.
pub record PacketFound (version : ℕ) (b : List Bool) (r : Packet × List Bool) : Type 0 where
  pub spelt : IsSpelt version r.0
  pub parts : b ≡ bits_of r.0 ++ r.1

found_in : (version : ℕ) (b : List Bool) (r : Packet × List Bool) → Whole b → (o : Option (Fields × List Bool)) → read_form (packet version) [] (take (length_said b) b) ≡ o → read_packet (drop (length_said b) b) o ≡ Ok r → PacketFound version b r
found_in version b r w None e h = absurd cc
found_in version b r w (Some q) e h =
    let f = read_found (packet version) [] (take (length_said b) b) q e in
    let is : (record { fields = q.0; rest = q.1 }, drop (length_said b) b) ≡ r = unok h in
    let size : length (take (length_said b) b) ≡ length_said b = omega (arith, length-take (length_said b) b, w.within) in
    let own : take (length_said b) b ≡ spelling q.0 ++ q.1 = f.spelt ∙ ap (λ (x : Fields). spelling x ++ q.1) (sym f.all) in
    let matched = subst (λ (x : Fields). Matches (packet version) x q.1) (sym f.all) f.matched in
    let numbered = subst (λ (x : Fields). Numbered x) (sym f.all) f.numbered in
    let said : value LPacket 0 q.0 ≡ length (spelling q.0 ++ q.1) =
    said_is version q.0 q.1 matched numbered ∙ ap length_said (sym own) ∙ said_within (length_said b) b w.least ∙ sym size ∙ ap length own in
    subst (λ (x : Packet × List Bool). PacketFound version b x) is (record {
      spelt = record { spelt = refl; form = matched; numbered = numbered; said = said };
      parts = sym (take-append-drop (length_said b) b) ∙ ap (λ (x : List Bool). x ++ drop (length_said b) b) own;
    })

pub body_found : (version : ℕ) (b : List Bool) (r : Packet × List Bool) → read_body version b ≡ Ok r → PacketFound version b r
unfolding read_body
body_found version b r e = let read = unless (is_cut b) _ _ r e in found_in version b r (whole b read.0) _ refl read.1

pub first_found : (version : ℕ) (b : List Bool) (r : Packet × List Bool) → read_first version b ≡ Ok r → PacketFound version b r
unfolding read_first
first_found version b r e =
    let long = unless (ltb (length b) 8) _ _ r e in
    let some = unless (eqb (num (take 8 b)) 0) _ _ r long.1 in
    let no_end = unless (eqb (num (take 8 b)) 255) _ _ r some.1 in
    body_found version b r no_end.1
