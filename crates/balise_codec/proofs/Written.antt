-- A packet with these values is spelt by the bits that are written of them, and what is read of such bits is one with these values.
-- From where L_PACKET stands, and the spelling of the fields.
use Rattle.std.proofs.Common.{◌≡◌, ◌≢◌, ℕ, ◌+◌, ◌*◌, ◌^◌, ◌/◌, ◌<◌, ◌≤◌, List, [], ◌∷◌, ◌++◌, Bool, Ok, length, map, take, drop, get_or, refl, sym, ap, subst, ◌∙◌, append_assoc, arith, length-append}
use Rattle.std.proofs.lemmas.List.{take_at, drop_at, append-nil, take_more}
use Rattle.std.proofs.lemmas.List.Elements.{All-more, All-cons}
use Rattle.std.proofs.lemmas.Nat.{pow_pos}
use Rattle.std.proofs.Math.Nat.{div-eq_of_lt, lt-mul-div-succ}
use Rattle.std.proofs.lemmas.Grind.{flat_map-append}
use Rattle.std.proofs.lemmas.Bool.{ltb-true}
use Rattle.balise_rules.specs.declared.variable.Var.{Var}
use Rattle.balise_rules.specs.declared.variable.Var.TheVariants.{NidPacket, QDir, LPacket}
use Rattle.balise_rules.specs.Variables.{width_of}
use Rattle.balise_rules.specs.Bits.{num, bits, put_at}
use Rattle.balise_rules.specs.Forms.{Form, done, shut, never, valued, Fields, Matches, spelling}
use Rattle.balise_rules.specs.Packet.{Packet, value, bits_of, IsSpelt, length_said, read_first}
use Rattle.balise_rules.proofs.Numbers.{length-bits, num-bits_fit}
use Rattle.balise_rules.proofs.PacketRead.{begins, three, three_spelt, first_found}
use Rattle.balise_rules.proofs.PacketAgain.{said_again, first_again}
use Rattle.balise_codec.specs.Spelling.{Values, said, given, laid, written, size_of, AllFit, IsWritable, SpeltBy}

-- ---- values, one more or the rest

pub laid_more : (vs : Values) (i : ℕ) (d : Var × ℕ) → i < length vs → laid (take (i + 1) vs) ≡ laid (take i vs) ++ bits (width_of (get_or vs i d).0) (get_or vs i d).1
laid_more vs i d h =
    let one : Values → List Bool = laid in
    ap laid (take_more vs i d h) ∙ flat_map-append (λ v. bits (width_of v.0) v.1) (take i vs) (get_or vs i d ∷ []) ∙ ap (λ (x : List Bool). laid (take i vs) ++ x) (append-nil (bits (width_of (get_or vs i d).0) (get_or vs i d).1))

pub fit_more : (vs : Values) (i : ℕ) (d : Var × ℕ) → i < length vs → AllFit (take i vs) → (get_or vs i d).1 < 2 ^ width_of (get_or vs i d).0 → AllFit (take (i + 1) vs)
fit_more vs i d h a f = All-more (λ v. v.1 < 2 ^ width_of v.0) vs i d h a f

pub small : (n w : ℕ) → n / 2 ^ w ≡ 0 → n < 2 ^ w
small n w h =
    let below : n < 2 ^ w * (n / 2 ^ w + 1) = lt-mul-div-succ n (pow_pos w) in
    let one : 2 ^ w * (n / 2 ^ w + 1) ≡ 2 ^ w * 1 = ap (λ (q : ℕ). 2 ^ w * (q + 1)) h in
    omega (arith, below, one)

pub large : (n w : ℕ) → n / 2 ^ w ≢ 0 → n < 2 ^ w → ⊥
large n w h l = h (div-eq_of_lt l)

pub fit_cons : (v : Var × ℕ) (vs : Values) → v.1 < 2 ^ width_of v.0 → AllFit vs → AllFit (v ∷ vs)
fit_cons v vs f a = All-cons (λ x. x.1 < 2 ^ width_of x.0) v vs f a

-- the bits of fields are those of their values
spelling-laid : (fs : Fields) → spelling fs ≡ laid (map said fs)
unfolding spelling
spelling-laid [] = refl
spelling-laid (f ∷ fs) = ap (λ (x : List Bool). bits (width_of f.0.0) f.1 ++ x) (spelling-laid fs)

pub fit_all : (form : Form) (fs : Fields) (raw : List Bool) → Matches form fs raw → AllFit (map said fs)
fit_all form [] raw m = λ k d h. absurd (omega arith)
fit_all done (f ∷ fs) raw m = absurd m
fit_all shut (f ∷ fs) raw m = absurd m
fit_all never (f ∷ fs) raw m = absurd m
fit_all (valued v next) (f ∷ fs) raw m =
    let w : width_of v ≡ width_of f.0.0 = ap width_of (sym m.0) in
    fit_cons (said f) (map said fs) (subst (λ (k : ℕ). f.1 < 2 ^ k) w (ltb-true f.1 (2 ^ width_of v) m.1)) (fit_all (next f.1) fs raw m.2)

-- ---- what is written

front : Values → ℕ → List Bool
front vs n = laid (take 2 vs) ++ (bits 13 n ++ laid (drop 2 vs))

written-front : (vs : Values) (raw : List Bool) (n : ℕ) → written vs raw n ≡ front vs n ++ raw
unfolding front
written-front vs raw n =
    ap (λ (x : List Bool). laid (take 2 vs) ++ x) (sym (append_assoc (bits 13 n) (laid (drop 2 vs)) raw)) ∙ sym (append_assoc (laid (take 2 vs)) (bits 13 n ++ laid (drop 2 vs)) raw)

front-long : (vs : Values) (raw : List Bool) (n : ℕ) → length (front vs n) + length raw ≡ size_of vs raw
unfolding front
front-long vs raw n = omega (arith, length-append (laid (take 2 vs)) (bits 13 n ++ laid (drop 2 vs)), length-append (bits 13 n) (laid (drop 2 vs)), length-bits 13 n)

pub written-long : (vs : Values) (raw : List Bool) (n : ℕ) → length (written vs raw n) ≡ size_of vs raw
written-long vs raw n = ap length (written-front vs raw n) ∙ length-append (front vs n) raw ∙ front-long vs raw n

-- the same values and length leave the same rest
same_rest : (vs : Values) (a b : List Bool) (m n : ℕ) → m ≡ n → written vs a m ≡ written vs b n → a ≡ b
same_rest vs a b m n e h =
    let whole : front vs n ++ a ≡ front vs n ++ b = ap (λ (k : ℕ). front vs k ++ a) (sym e) ∙ sym (written-front vs a m) ∙ h ∙ written-front vs b n in
    sym (drop_at (front vs n) a (length (front vs n)) refl) ∙ ap (drop (length (front vs n))) whole ∙ drop_at (front vs n) b (length (front vs n)) refl

-- the bits of fields that begin with the first three
pub three_written : (n d l : ℕ) (more : Fields) (raw : List Bool) → spelling (three n d l more) ++ raw ≡ written (given (three n d l more)) raw l
unfolding width_of
three_written n d l more raw =
    let two : bits 8 n ++ (bits 2 d ++ []) ≡ bits 8 n ++ bits 2 d = ap (λ (x : List Bool). bits 8 n ++ x) (append-nil (bits 2 d)) in
    three_spelt n d l more raw ∙ ap (λ (x : List Bool). x ++ (bits 13 l ++ (spelling more ++ raw))) (sym two) ∙ ap (λ (x : List Bool). (bits 8 n ++ (bits 2 d ++ [])) ++ (bits 13 l ++ (x ++ raw))) (spelling-laid more)

-- a packet that is spelt, from its values
pub record Laid (p : Packet) : Type 0 where
  pub writable : IsWritable (given p.fields) p.rest
  pub bits : bits_of p ≡ written (given p.fields) p.rest (size_of (given p.fields) p.rest)
  pub ten : length (laid (take 2 (given p.fields))) ≡ 10

pub laid_of : (version : ℕ) (p : Packet) → IsSpelt version p → Laid p
unfolding width_of
laid_of version p s =
    let b = begins version p.fields p.rest s.form s.numbered in
    let fs = three b.number b.direction b.said b.more in
    let vs = given fs in
    let two : laid (take 2 vs) ≡ bits 8 b.number ++ bits 2 b.direction = ap (λ (x : List Bool). bits 8 b.number ++ x) (append-nil (bits 2 b.direction)) in
    let parts : bits_of p ≡ (bits 8 b.number ++ bits 2 b.direction) ++ (bits 13 b.said ++ (spelling b.more ++ p.rest)) = ap (λ (x : Fields). spelling x ++ p.rest) b.is ∙ three_spelt b.number b.direction b.said b.more p.rest in
    let is : bits_of p ≡ written vs p.rest b.said = parts ∙ ap (λ (x : List Bool). x ++ (bits 13 b.said ++ (spelling b.more ++ p.rest))) (sym two) ∙ ap (λ (x : List Bool). laid (take 2 vs) ++ (bits 13 b.said ++ (x ++ p.rest))) (spelling-laid b.more) in
    let size : b.said ≡ size_of vs p.rest = sym (ap (value LPacket 0) b.is) ∙ s.said ∙ ap length is ∙ written-long vs p.rest b.said in
    let fit : AllFit vs = fit_cons (NidPacket, b.number) ((QDir, b.direction) ∷ map said b.more) (ltb-true b.number (2 ^ 8) b.number_fits) (fit_cons (QDir, b.direction) (map said b.more) (ltb-true b.direction (2 ^ 2) b.direction_fits) (fit_all _ b.more p.rest b.body)) in
    let few : size_of vs p.rest < 8192 = subst (λ (k : ℕ). k < 8192) size (ltb-true b.said (2 ^ 13) b.said_fits) in
    let all = subst (λ (x : Fields). IsWritable (given x) p.rest × (bits_of p ≡ written (given x) p.rest (size_of (given x) p.rest)) × (length (laid (take 2 (given x))) ≡ 10)) (sym b.is)
    (record { fit = fit; two = omega arith; short = few }, is ∙ ap (written vs p.rest) size, ap length two ∙ length-append (bits 8 b.number) (bits 2 b.direction) ∙ omega (arith, length-bits 8 b.number, length-bits 2 b.direction)) in
    record { writable = all.0; bits = all.1; ten = all.2 }

-- ---- reading what is written

-- a packet with these values is what is read of what is written
pub reads_written : (version : ℕ) (vs : Values) (raw : List Bool) (p : Packet) → SpeltBy version vs raw p → IsWritable vs raw × (read_first version (written vs raw (size_of vs raw)) ≡ Ok (p, []))
reads_written version vs raw p s =
    let l = laid_of version p s.spelt in
    subst (λ (x : Values). IsWritable x raw × (read_first version (written x raw (size_of x raw)) ≡ Ok (p, []))) s.values
    (subst (λ (y : List Bool). IsWritable (given p.fields) y × (read_first version (written (given p.fields) y (size_of (given p.fields) y)) ≡ Ok (p, []))) s.rest
    (l.writable, ap (read_first version) (sym l.bits ∙ sym (append-nil (bits_of p))) ∙ first_again version p [] s.spelt))

said_written : (vs : Values) (raw : List Bool) (n : ℕ) → length (laid (take 2 vs)) ≡ 10 → n < 8192 → length_said (written vs raw n) ≡ n
said_written vs raw n ten h =
    ap (λ (x : List Bool). num (take 13 x)) (drop_at (laid (take 2 vs)) (bits 13 n ++ (laid (drop 2 vs) ++ raw)) 10 ten)
    ∙ ap num (take_at (bits 13 n) (laid (drop 2 vs) ++ raw) 13 (length-bits 13 n))
    ∙ num-bits_fit 13 n h

-- what is read of what is written, with these values, is of them
pub spells_written : (version : ℕ) (vs : Values) (raw : List Bool) (p : Packet) (after : List Bool) → IsWritable vs raw → read_first version (written vs raw (size_of vs raw)) ≡ Ok (p, after) → given p.fields ≡ vs → SpeltBy version vs raw p
spells_written version vs raw p after w e g =
    let n = size_of vs raw in
    let f = first_found version (written vs raw n) (p, after) e in
    let l = laid_of version p f.spelt in
    let ten : length (laid (take 2 vs)) ≡ 10 = ap (λ (x : Values). length (laid (take 2 x))) (sym g) ∙ l.ten in
    let own : bits_of p ≡ written vs p.rest (size_of vs p.rest) = l.bits ∙ ap (λ (x : Values). written x p.rest (size_of x p.rest)) g in
    let long : n ≡ length (bits_of p) = sym (said_written vs raw n ten w.short) ∙ ap length_said f.parts ∙ said_again version p after f.spelt in
    let size : n ≡ size_of vs p.rest = long ∙ ap length own ∙ written-long vs p.rest (size_of vs p.rest) in
    let none : length after ≡ 0 = omega (arith, written-long vs raw n, ap length f.parts, length-append (bits_of p) after, long) in
    let whole : written vs raw n ≡ written vs p.rest (size_of vs p.rest) = f.parts ∙ ap (λ (x : List Bool). bits_of p ++ x) (nothing after none) ∙ append-nil (bits_of p) ∙ own in
    record { spelt = f.spelt; values = g; rest = sym (same_rest vs raw p.rest n (size_of vs p.rest) size whole) }
  where
    nothing : (b : List Bool) → length b ≡ 0 → b ≡ []
    nothing [] h = refl
    nothing (x ∷ b) h = absurd (omega arith)

-- the fields of a packet are three at least
pub three_fields : (version : ℕ) (p : Packet) → IsSpelt version p → 3 ≤ length p.fields
three_fields version p s =
    let b = begins version p.fields p.rest s.form s.numbered in
    let e : length p.fields ≡ length (three b.number b.direction b.said b.more) = ap length b.is in
    omega (arith, e)

-- the length put in its place
pub placed : (a c raw old : List Bool) (at n : ℕ) → old ≡ ((a ++ bits 13 0) ++ c) ++ raw → at ≡ length a → put_at at (bits 13 n) old ≡ a ++ (bits 13 n ++ (c ++ raw))
placed a c raw old at n e h =
    let zero = bits 13 0 in
    let parts : old ≡ a ++ (zero ++ (c ++ raw)) = e ∙ append_assoc (a ++ zero) c raw ∙ append_assoc a zero (c ++ raw) in
    let longer : length (a ++ zero) ≡ at + length (bits 13 n) = omega (arith, length-append a zero, length-bits 13 0, length-bits 13 n, h) in
    let before : take at old ≡ a = ap (take at) parts ∙ take_at a (zero ++ (c ++ raw)) at (sym h) in
    let after : drop (at + length (bits 13 n)) old ≡ c ++ raw = ap (drop (at + length (bits 13 n))) (parts ∙ sym (append_assoc a zero (c ++ raw))) ∙ drop_at (a ++ zero) (c ++ raw) (at + length (bits 13 n)) longer in
    rw (before, after) refl

pub placed-long : (a c raw old : List Bool) → old ≡ ((a ++ bits 13 0) ++ c) ++ raw → length old ≡ length a + (13 + (length c + length raw))
placed-long a c raw old e =
    omega (arith, ap length e, length-append ((a ++ bits 13 0) ++ c) raw, length-append (a ++ bits 13 0) c, length-append a (bits 13 0), length-bits 13 0)

-- the same of a width by another name
pub small_in : (n v w : ℕ) → v ≡ w → n / 2 ^ v ≡ 0 → n < 2 ^ w
small_in n v w e h = subst (λ (k : ℕ). n < 2 ^ k) e (small n v h)

pub large_in : (n v w : ℕ) → v ≡ w → n / 2 ^ v ≢ 0 → n < 2 ^ w → ⊥
large_in n v w e h l = large n v h (subst (λ (k : ℕ). n < 2 ^ k) (sym e) l)
