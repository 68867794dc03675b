-- The packet that a section's values are, or the fault where they are none's, as the section's bits or the reason why there are none.
use Rattle.std.proofs.Common.{◌≡◌, ◌≢◌, ◌∙◌, ◌+◌, ◌≤◌, ◌&&◌, ◌⊎◌, inl, inr, ℕ, nat_lt, Bool, true, false, cond, List, [], ◌∷◌, length, Option, Some, None, Ok, Err, refl, sym, ap, subst, arith, eq-eqb}
use Rattle.std.proofs.lemmas.Bool.{lt-ltb, ltb-true}
use Rattle.std.proofs.lemmas.Bool.Decides.{nat_tests}
use Rattle.balise_rules.specs.declared.variable.Var.TheVariants.{LPacket}
use Rattle.balise_rules.specs.Tags.{same_var}
use Rattle.balise_rules.specs.Packets.{is_known}
use Rattle.balise_rules.specs.Packet.{Packet, bits_of, width}
use Rattle.balise_codec.specs.declared.misfit.Misfit.{Misfit}
use Rattle.balise_codec.specs.declared.fault.SpellFault.{SpellFault}
use Rattle.balise_codec.specs.declared.fault.SpellFault.TheVariants as spell
use Rattle.balise_codec.specs.Faults.{fault_of}
use Rattle.balise_codec.specs.Given.{but_length, length_given, placed_fault, GivenFails, IsGivenBy, LengthIs}
use Rattle.balise_codec.specs.Misfits.{first_misfit, front_value}
use Rattle.balise_codec.specs.Spelling.{Values, size_of, written, SpeltBy}
use Rattle.balise_codec.proofs.Fitting.{spelt_fits}
use Rattle.balise_codec.proofs.Made.{fitting_is_spelt}
use Rattle.balise_codec.proofs.MisfitPlaces.{fault_within}
use Rattle.balise_codec.proofs.Written.{laid_of, reads_written, written-long}
use Rattle.balise_items.specs.declared.reason.Reason.TheVariants.{TooLong, BitsLeft, OtherLength}
use Rattle.balise_items.specs.declared.reason.Stop.{Stop}
use Rattle.balise_items.specs.declared.reason.Stop.TheVariants as stop
use Rattle.balise_items.specs.Packets.{are_left, are_some, bits_fitting, bits_sized, given_place, is_length, packet_of, IsBadPacket}
use Rattle.balise_items.specs.Reasons.{bad, line_of, reason_of, Stops}
use Rattle.balise_items.specs.Sections.{Given}
use Rattle.balise_items.proofs.PacketEnds.{none_left}

-- ---- what its tests say

sized_long : (version : ℕ) (s : Given) (vs : Values) (n : ℕ) → nat_lt n 8192 ≡ false → bits_sized version s vs n ≡ Err (bad s.line TooLong)
sized_long version s vs n l = rw l refl

sized_left : (version : ℕ) (s : Given) (vs : Values) (n : ℕ) → nat_lt n 8192 ≡ true → are_left version vs s.rest ≡ true → bits_sized version s vs n ≡ Err (bad (line_of s (length s.values)) BitsLeft)
sized_left version s vs n l a = rw (l, a) refl

sized_so : (version : ℕ) (s : Given) (vs : Values) (n : ℕ) → nat_lt n 8192 ≡ true → are_left version vs s.rest ≡ false → is_length (length_given s.values) n ≡ true → bits_sized version s vs n ≡ Ok (written vs s.rest n)
sized_so version s vs n l a i = rw (l, a, i) refl

sized_other : (version : ℕ) (s : Given) (vs : Values) (n : ℕ) → nat_lt n 8192 ≡ true → are_left version vs s.rest ≡ false → is_length (length_given s.values) n ≡ false → bits_sized version s vs n ≡ Err (bad s.line (OtherLength n))
sized_other version s vs n l a i = rw (l, a, i) refl

is_its_length : (o : Option ℕ) (p : Packet) (n : ℕ) → width p ≡ n → LengthIs o p → is_length o n ≡ true
is_its_length None p n w i = refl
is_its_length (Some l) p n w i = eq-eqb l n (i ∙ w)

is_another : (o : Option ℕ) (p : Packet) (n : ℕ) → width p ≡ n → (LengthIs o p → ⊥) → is_length o n ≡ false
is_another None p n w i = absurd (i tt)
is_another (Some l) p n w i = let k : l ≢ n = (λ e. i (e ∙ sym w)) in grind (arith, nat_tests)

-- ---- a packet that is spelt

-- its values fit, and have its number of bits
pub record Fitting (version : ℕ) (s : Given) (vs : Values) (p : Packet) : Type 0 where
  pub fit : first_misfit version vs ≡ None
  pub bits : bits_of p ≡ written vs s.rest (size_of vs s.rest)
  pub size : width p ≡ size_of vs s.rest
  pub short : nat_lt (size_of vs s.rest) 8192 ≡ true
  pub left : are_left version vs s.rest ≡ false

pub fitting : (version : ℕ) (s : Given) (vs : Values) (p : Packet) → SpeltBy version vs s.rest p → Fitting version s vs p
fitting version s vs p q =
    let l = laid_of version p q.spelt in
    let bits : bits_of p ≡ written vs s.rest (size_of vs s.rest) = l.bits ∙ ap (λ (x : Values). written x p.rest (size_of x p.rest)) q.values ∙ ap (λ (r : List Bool). written vs r (size_of vs r)) q.rest in
    record {
      fit = spelt_fits version vs s.rest p q;
      bits = bits;
      size = ap length bits ∙ written-long vs s.rest (size_of vs s.rest);
      short = lt-ltb (size_of vs s.rest) 8192 (reads_written version vs s.rest p q).0.short;
      left = none_left version vs s.rest p q;
    }

by_fit : (version : ℕ) (s : Given) (o : Option (ℕ × Misfit)) → first_misfit version (but_length s.values) ≡ o → packet_of version s ≡ bits_fitting version s (but_length s.values) o
by_fit version s o e = ap (bits_fitting version s (but_length s.values)) e

pub given_bits : (version : ℕ) (s : Given) (p : Packet) → IsGivenBy version s.values s.rest p → packet_of version s ≡ Ok (bits_of p)
given_bits version s p g =
    let vs = but_length s.values in
    let f = fitting version s vs p g.0 in
    by_fit version s None f.fit ∙ sized_so version s vs (size_of vs s.rest) f.short f.left (is_its_length (length_given s.values) p (size_of vs s.rest) f.size g.1) ∙ ap Ok (sym f.bits)

other_length : (version : ℕ) (s : Given) (p : Packet) → SpeltBy version (but_length s.values) s.rest p → (LengthIs (length_given s.values) p → ⊥) → packet_of version s ≡ Err (bad s.line (OtherLength (width p)))
other_length version s p g n =
    let vs = but_length s.values in
    let f = fitting version s vs p g in
    by_fit version s None f.fit ∙ sized_other version s vs (size_of vs s.rest) f.short f.left (is_another (length_given s.values) p (size_of vs s.rest) f.size n) ∙ ap (λ (k : ℕ). Err (bad s.line (OtherLength k))) (sym f.size)

-- ---- values that are no packet's

placed_misfit : (o : Option ℕ) (i : ℕ) (m : Misfit) → placed_fault o (spell.Misfit i m) ≡ spell.Misfit (given_place o i) m
placed_misfit None i m = refl
placed_misfit (Some l) i m = refl

placed_long : (o : Option ℕ) → placed_fault o spell.TooLong ≡ spell.TooLong
placed_long None = refl
placed_long (Some l) = refl

placed_left : (o : Option ℕ) → placed_fault o spell.BitsLeft ≡ spell.BitsLeft
placed_left None = refl
placed_left (Some l) = refl

is_left : (version : ℕ) (s : Given) → first_misfit version (but_length s.values) ≡ None → nat_lt (size_of (but_length s.values) s.rest) 8192 ≡ true → ((p : Packet) → SpeltBy version (but_length s.values) s.rest p → ⊥) → are_left version (but_length s.values) s.rest ≡ true
is_left version s f l none = by (is_known version (front_value vs)) refl s.rest refl
  where
    vs : Values
    vs = but_length s.values

    made : (s.rest ≡ []) ⊎ (is_known version (front_value vs) ≡ false) → ⊥
    made e = let p = fitting_is_spelt version vs s.rest f (ltb-true (size_of vs s.rest) 8192 l) e in none p.0 p.1

    by : (k : Bool) → is_known version (front_value vs) ≡ k → (r : List Bool) → s.rest ≡ r → (k && are_some r) ≡ true
    by true e [] h = absurd (made (inl h))
    by true e (b ∷ r) h = refl
    by false e r h = absurd (made (inr e))

-- the reason for which there are none
stops_real : (version : ℕ) (s : Given) (e : SpellFault) (x : Stop) → GivenFails version s.values s.rest e → IsBadPacket s e x → Stops (packet_of version s) x
stops_real version s e x f b = elim f [
  | inl g ↦ (let k : x ≡ stop.Bad (bad s.line (OtherLength (width g.0))) = subst (λ (y : SpellFault). IsBadPacket s y x) g.3 b in subst (Stops (packet_of version s)) (sym k) (other_length version s g.0 g.1 g.2))
  | inr g ↦ by (first_misfit version (but_length s.values)) refl g.0 g.1
]
  where
    size : ℕ
    size = size_of (but_length s.values) s.rest

    lg : Option ℕ
    lg = length_given s.values

    short : (c : Bool) → nat_lt size 8192 ≡ c → first_misfit version (but_length s.values) ≡ None → ((p : Packet) → SpeltBy version (but_length s.values) s.rest p → ⊥) → e ≡ placed_fault lg (cond c spell.BitsLeft spell.TooLong) → Stops (packet_of version s) x
    short true l fit none is =
        let k : x ≡ stop.Bad (bad (line_of s (length s.values)) BitsLeft) = subst (λ (y : SpellFault). IsBadPacket s y x) (is ∙ placed_left lg) b in
        subst (Stops (packet_of version s)) (sym k) (by_fit version s None fit ∙ sized_left version s (but_length s.values) size l (is_left version s fit l none))
    short false l fit none is =
        let k : x ≡ stop.Bad (bad s.line TooLong) = subst (λ (y : SpellFault). IsBadPacket s y x) (is ∙ placed_long lg) b in
        subst (Stops (packet_of version s)) (sym k) (by_fit version s None fit ∙ sized_long version s (but_length s.values) size l)

    by : (o : Option (ℕ × Misfit)) → first_misfit version (but_length s.values) ≡ o → ((p : Packet) → SpeltBy version (but_length s.values) s.rest p → ⊥) → e ≡ placed_fault lg (fault_of (first_misfit version (but_length s.values)) size) → Stops (packet_of version s) x
    by (Some y) fit none is =
        let k : x ≡ stop.Bad (bad (line_of s (given_place lg y.0)) (reason_of y.1)) = subst (λ (z : SpellFault). IsBadPacket s z x) (is ∙ ap (λ (o : Option (ℕ × Misfit)). placed_fault lg (fault_of o size)) fit ∙ placed_misfit lg y.0 y.1) b in
        subst (Stops (packet_of version s)) (sym k) (by_fit version s (Some y) fit)
    by None fit none is = short (nat_lt size 8192) refl fit none (is ∙ ap (λ (o : Option (ℕ × Misfit)). placed_fault lg (fault_of o size)) fit)

-- the fault, and what it is for the section
pub stops_for : (version : ℕ) (s : Given) (e : SpellFault) (x : Stop) → (e ≢ spell.OutOfMemory → GivenFails version s.values s.rest e) → IsBadPacket s e x → Stops (packet_of version s) x
stops_for version s spell.OutOfMemory x f b = subst (Stops (packet_of version s)) (sym b) tt
stops_for version s (spell.Misfit i m) x f b = stops_real version s (spell.Misfit i m) x (f (λ h. absurd (let k = h in cc))) b
stops_for version s spell.TooLong x f b = stops_real version s spell.TooLong x (f (λ h. absurd (let k = h in cc))) b
stops_for version s spell.BitsLeft x f b = stops_real version s spell.BitsLeft x (f (λ h. absurd (let k = h in cc))) b
stops_for version s (spell.OtherLength n) x f b = stops_real version s (spell.OtherLength n) x (f (λ h. absurd (let k = h in cc))) b

-- ---- the place of a misfit

without_length : (version size at : ℕ) (m : Misfit) (vs : Values) → spell.Misfit at m ≡ placed_fault None (fault_of (first_misfit version vs) size) → at ≤ length vs
without_length version size at m vs h = fault_within version size at m vs h

with_length : (version size at : ℕ) (m : Misfit) (l : ℕ) (vs : Values) → spell.Misfit at m ≡ placed_fault (Some l) (fault_of (first_misfit version vs) size) → at ≤ length vs + 1
with_length version size at m l vs h = by (fault_of (first_misfit version vs) size) refl h
  where
    place_of : SpellFault → ℕ
    place_of (spell.Misfit i n) = i
    place_of e = at

    next : (i : ℕ) (c : Bool) → i ≤ length vs → cond c i (i + 1) ≤ length vs + 1
    next i true h = omega (arith, h)
    next i false h = omega (arith, h)

    by : (e : SpellFault) → fault_of (first_misfit version vs) size ≡ e → spell.Misfit at m ≡ placed_fault (Some l) e → at ≤ length vs + 1
    by (spell.Misfit i n) f h =
        let is : at ≡ cond (nat_lt i 2) i (i + 1) = ap place_of h in
        let within = next i (nat_lt i 2) (fault_within version size i n vs (sym f)) in
        omega (arith, is, within)
    by spell.TooLong f h = absurd (let k = h in cc)
    by spell.BitsLeft f h = absurd (let k = h in cc)
    by (spell.OtherLength n) f h = absurd (let k = h in cc)
    by spell.OutOfMemory f h = absurd (let k = h in cc)

given_within : (version size at : ℕ) (m : Misfit) (vs : Values) → spell.Misfit at m ≡ placed_fault (length_given vs) (fault_of (first_misfit version (but_length vs)) size) → at ≤ length vs
given_within version size at m [] h = without_length version size at m [] h
given_within version size at m (a ∷ []) h = without_length version size at m (a ∷ []) h
given_within version size at m (a ∷ b ∷ []) h = without_length version size at m (a ∷ b ∷ []) h
given_within version size at m (a ∷ b ∷ c ∷ vs) h = by (same_var c.0 LPacket) h
  where
    by : (t : Bool) → spell.Misfit at m ≡ placed_fault (cond t (Some c.1) None) (fault_of (first_misfit version (cond t (a ∷ b ∷ vs) (a ∷ b ∷ c ∷ vs))) size) → at ≤ length (a ∷ b ∷ c ∷ vs)
    by true h = let w = with_length version size at m c.1 (a ∷ b ∷ vs) h in omega (arith, w)
    by false h = without_length version size at m (a ∷ b ∷ c ∷ vs) h

pub misfit_within : (version : ℕ) (vs : Values) (raw : List Bool) (e : SpellFault) (at : ℕ) (m : Misfit) → (e ≢ spell.OutOfMemory → GivenFails version vs raw e) → e ≡ spell.Misfit at m → at ≤ length vs
misfit_within version vs raw e at m f is = elim (f (λ h. let k = sym is ∙ h in absurd cc)) [
  | inl g ↦ absurd (let k = sym is ∙ g.3 in cc)
  | inr g ↦ given_within version (size_of (but_length vs) raw) at m vs (sym is ∙ g.1)
]
