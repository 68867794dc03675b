-- Values that fit are those of a packet, where their bits aren't too many and nothing stands after the fields of a known one.
use Rattle.std.proofs.Common.{◌≡◌, ◌∙◌, ◌≤◌, nat_lt, arith, ◌⊎◌, inl, inr, ◌||◌, ℕ, ◌+◌, ◌-◌, ◌^◌, ◌<◌, Bool, true, false, cond, eqb, List, [], ◌∷◌, ◌++◌, length, map, Option, Some, None, IsTrue, refl, ap, sym, subst}
use Rattle.std.proofs.lemmas.Bool.{lt-ltb, ltb-true}
use Rattle.balise_rules.specs.declared.variable.Var.{Var}
use Rattle.balise_rules.specs.declared.variable.Var.TheVariants.{NidPacket, QDir, LPacket}
use Rattle.balise_rules.specs.Variables.{width_of}
use Rattle.balise_rules.specs.Bits.{fits}
use Rattle.balise_rules.specs.Tags.{Key, same_var}
use Rattle.balise_rules.specs.Forms.{Form, done, shut, never, valued, plain, Fields, Matches, NumberedFrom, count_of}
use Rattle.balise_rules.specs.Packets.{packet, is_known, body}
use Rattle.balise_rules.specs.Packet.{Packet, bits_of}
use Rattle.balise_rules.proofs.Tests.{var_test}
use Rattle.balise_rules.proofs.PacketRead.{three}
use Rattle.balise_codec.specs.declared.misfit.Misfit.{Misfit}
use Rattle.balise_codec.specs.declared.misfit.Misfit.TheVariants.{TooWide, NotDue, TooMany, Spare, NoFields}
use Rattle.balise_codec.specs.Spelling.{Values, said, given, size_of, AllFit, IsWritable}
use Rattle.balise_codec.specs.Laws.{FittingIsSpelt}
use Rattle.balise_codec.specs.Misfits.{misfit_along, first_misfit, has_no_fields, misfit_of, front_value, others, unless_misfit}
use Rattle.balise_codec.proofs.Fitting.{Lengthless, body_lengthless}
use Rattle.balise_codec.proofs.Written.{written-long, three_written, fit_cons, fit_all}

-- bits that may stand after the fields of the form
abbrev pub MayFollow : Form → List Bool → Type 0
MayFollow done raw = Unit {0}
MayFollow shut raw = raw ≡ []
MayFollow never raw = Unit {0}
MayFollow (valued v next) raw = (n : ℕ) → MayFollow (next n) raw

nothing_follows : (form : Form) → MayFollow form []
nothing_follows done = tt
nothing_follows shut = refl
nothing_follows never = tt
nothing_follows (valued v next) = λ n. nothing_follows (next n)

-- fields with these values
record Made (form : Form) (seen : Fields) (vs : Values) (raw : List Bool) : Type 0 where
  fields : Fields
  matches : Matches form fields raw
  numbered : NumberedFrom seen fields
  are : map said fields ≡ vs

no_misfit : (m : Misfit) → ◌≡◌ {A = Option Misfit} (Some m) None → ⊥
no_misfit m h = cc

no_place : (x : ℕ × Misfit) → ◌≡◌ {A = Option (ℕ × Misfit)} (Some x) None → ⊥
no_place x h = cc

more_than_done : (i : ℕ) (x : Var × ℕ) (xs : Values) → misfit_along done i (x ∷ xs) ≡ None → ⊥
unfolding misfit_along
more_than_done i x xs h = no_place (i, TooMany) h

more_than_shut : (i : ℕ) (x : Var × ℕ) (xs : Values) → misfit_along shut i (x ∷ xs) ≡ None → ⊥
unfolding misfit_along
more_than_shut i x xs h = no_place (i, TooMany) h

never_fits : (i : ℕ) (vs : Values) → misfit_along never i vs ≡ None → ⊥
unfolding misfit_along
never_fits i vs h = no_place (i - 1, Spare) h

-- the first value is one of the variable
record Fits (v : Var) (vs : Values) : Type 0 where
  number : ℕ
  more : Values
  is : vs ≡ (v, number) ∷ more
  fit : IsTrue (fits (width_of v) number)

fits_of : (v : Var) (vs : Values) → misfit_of v vs ≡ None → Fits v vs
fits_of v [] e = absurd cc
fits_of v ((u, n) ∷ xs) e = by (same_var u v) refl (fits (width_of v) n) refl
  where
    by : (a : Bool) → same_var u v ≡ a → (b : Bool) → fits (width_of v) n ≡ b → Fits v ((u, n) ∷ xs)
    by true p true q = record { number = n; more = xs; is = ap (λ (x : Var). (x, n) ∷ xs) (var_test.one u v p); fit = q }
    by true p false q = absurd (no_misfit _ (sym (let h : misfit_of v ((u, n) ∷ xs) ≡ Some TooWide = rw (p, q) refl in h) ∙ e))
    by false p b q = absurd (no_misfit _ (sym (let h : misfit_of v ((u, n) ∷ xs) ≡ Some (NotDue v) = rw p refl in h) ∙ e))

fits_on : (v : Var) (next : ℕ → Form) (i : ℕ) (vs : Values) → same_var v LPacket ≡ false → misfit_along (valued v next) i vs ≡ None → (misfit_of v vs ≡ None) × (misfit_along (next (front_value vs)) (i + 1) (others vs) ≡ None)
unfolding misfit_along
fits_on v next i vs e h = by (misfit_of v vs) refl (sym (let k : misfit_along (valued v next) i vs ≡ unless_misfit (misfit_of v vs) (misfit_along (next (front_value vs)) (i + 1) (others vs)) (λ m. Some (i, m)) = rw e refl in k) ∙ h)
  where
    by : (o : Option Misfit) → misfit_of v vs ≡ o → unless_misfit o (misfit_along (next (front_value vs)) (i + 1) (others vs)) (λ m. Some (i, m)) ≡ None → (misfit_of v vs ≡ None) × (misfit_along (next (front_value vs)) (i + 1) (others vs) ≡ None)
    by None p q = (p, q)
    by (Some m) p q = absurd cc

made : (form : Form) (i : ℕ) (seen : Fields) (vs : Values) (raw : List Bool) → Lengthless (Unit {0}) form → MayFollow form raw → misfit_along form i vs ≡ None → Made form seen vs raw
made done i seen [] raw l f h = record { fields = []; matches = tt; numbered = tt; are = refl }
made done i seen (x ∷ xs) raw l f h = absurd (more_than_done i x xs h)
made shut i seen [] raw l f h = record { fields = []; matches = f; numbered = tt; are = refl }
made shut i seen (x ∷ xs) raw l f h = absurd (more_than_shut i x xs h)
made never i seen vs raw l f h = absurd (never_fits i vs h)
made (valued v next) i seen vs raw l f h =
    let both = fits_on v next i vs l.0 h in
    let one = fits_of v vs both.0 in
    let field : Key × ℕ = ((v, count_of v seen), one.number) in
    let rest : misfit_along (next one.number) (i + 1) one.more ≡ None = ap (λ (x : Values). misfit_along (next (front_value x)) (i + 1) (others x)) (sym one.is) ∙ both.1 in
    let more = made (next one.number) (i + 1) (seen ++ field ∷ []) one.more raw (l.1 one.number) (f one.number) rest in
    record { fields = field ∷ more.fields; matches = (refl, one.fit, more.matches); numbered = (refl, more.numbered); are = ap (λ (x : Values). (v, one.number) ∷ x) more.are ∙ sym one.is }

length_skipped : (form : Form) (i : ℕ) (vs : Values) → misfit_along (plain LPacket form) i vs ≡ misfit_along form i vs
unfolding misfit_along
length_skipped form i vs = refl

follows_if : (b : Bool) (x y : Form) (raw : List Bool) → MayFollow x raw → MayFollow y raw → MayFollow (cond b x y) raw
follows_if true x y raw f g = f
follows_if false x y raw f g = g

may_follow : (version n : ℕ) (raw : List Bool) → (raw ≡ []) ⊎ (is_known version n ≡ false) → MayFollow (body version n) raw
unfolding body
may_follow version n raw (inl e) = subst (MayFollow (body version n)) (sym e) (nothing_follows (body version n))
may_follow version n raw (inr k) = rw k (follows_if (eqb n 0 || eqb n 255) never done raw tt tt)

fits_13 : (l : ℕ) → l < 8192 → IsTrue (fits (width_of LPacket) l)
unfolding width_of
fits_13 l h = lt-ltb l (2 ^ 13) h

-- a packet's fields with these values, whatever L_PACKET says
record Parts (version : ℕ) (vs : Values) (raw : List Bool) (l : ℕ) : Type 0 where
  number : ℕ
  direction : ℕ
  more : Fields
  are : given (three number direction l more) ≡ vs
  number_fits : IsTrue (fits (width_of NidPacket) number)
  direction_fits : IsTrue (fits (width_of QDir) direction)
  body : Matches (body version number) more raw
  numbered : NumberedFrom (((NidPacket, 0), number) ∷ ((QDir, 0), direction) ∷ ((LPacket, 0), l) ∷ []) more

parts_of : (version : ℕ) (vs : Values) (raw : List Bool) (l : ℕ) → misfit_along (packet version) 0 vs ≡ None → (raw ≡ []) ⊎ (is_known version (front_value vs) ≡ false) → Parts version vs raw l
unfolding packet
parts_of version vs raw l h end =
    let a = fits_on NidPacket (λ n. plain QDir (plain LPacket (body version n))) 0 vs refl h in
    let f = fits_of NidPacket vs a.0 in
    let n = f.number in
    let after : misfit_along (plain QDir (plain LPacket (body version n))) (0 + 1) f.more ≡ None = ap (λ (x : Values). misfit_along (plain QDir (plain LPacket (body version (front_value x)))) (0 + 1) (others x)) (sym f.is) ∙ a.1 in
    let b = fits_on QDir (λ _. plain LPacket (body version n)) (0 + 1) f.more refl after in
    let g = fits_of QDir f.more b.0 in
    let d = g.number in
    let rest : misfit_along (body version n) (0 + 1 + 1) g.more ≡ None = sym (length_skipped (body version n) (0 + 1 + 1) g.more) ∙ ap (λ (x : Values). misfit_along (plain LPacket (body version n)) (0 + 1 + 1) (others x)) (sym g.is) ∙ b.1 in
    let known : (raw ≡ []) ⊎ (is_known version n ≡ false) = subst (λ (x : Values). (raw ≡ []) ⊎ (is_known version (front_value x) ≡ false)) f.is end in
    let c = made (body version n) (0 + 1 + 1) (((NidPacket, 0), n) ∷ ((QDir, 0), d) ∷ ((LPacket, 0), l) ∷ []) g.more raw (body_lengthless version n) (may_follow version n raw known) rest in
    record {
      number = n;
      direction = d;
      more = c.fields;
      are = ap (λ (x : Values). (NidPacket, n) ∷ (QDir, d) ∷ x) c.are ∙ ap (λ (x : Values). (NidPacket, n) ∷ x) (sym g.is) ∙ sym f.is;
      number_fits = f.fit;
      direction_fits = g.fit;
      body = c.matches;
      numbered = c.numbered;
    }

along_fits : (version : ℕ) (vs : Values) → first_misfit version vs ≡ None → misfit_along (packet version) 0 vs ≡ None
along_fits version vs h = by (has_no_fields vs) h
  where
    by : (b : Bool) → cond b (Some (0, NoFields)) (misfit_along (packet version) 0 vs) ≡ None → misfit_along (packet version) 0 vs ≡ None
    by true h = absurd (no_place (0, NoFields) h)
    by false h = h

pub fitting_is_spelt : FittingIsSpelt
unfolding packet
fitting_is_spelt version vs raw fit few end =
    let h = along_fits version vs fit in
    let l = size_of vs raw in
    let q = parts_of version vs raw l h end in
    let fields : Fields = three q.number q.direction l q.more in
    let p : Packet = record { fields = fields; rest = raw } in
    let long : l ≡ length (bits_of p) = ap (λ (x : Values). size_of x raw) (sym q.are) ∙ sym (written-long (given fields) raw l) ∙ ap length (sym (three_written q.number q.direction l q.more raw)) in
    let fit : IsTrue (fits (width_of LPacket) l) = fits_13 l few in
    (p, record { spelt = record { spelt = refl; form = (refl, q.number_fits, (refl, q.direction_fits, (refl, fit, q.body))); numbered = (refl, (refl, (refl, q.numbered))); said = long }; values = q.are; rest = refl })

-- values that fit are two at least, each in its width
pub fitting_values : (version : ℕ) (vs : Values) → first_misfit version vs ≡ None → AllFit vs × (2 ≤ length vs)
fitting_values version vs h =
    let q = parts_of version vs [] 0 (along_fits version vs h) (inl refl) in
    subst (λ (x : Values). AllFit x × (2 ≤ length x)) q.are
    (fit_cons (NidPacket, q.number) ((QDir, q.direction) ∷ map said q.more) (ltb-true q.number _ q.number_fits) (fit_cons (QDir, q.direction) (map said q.more) (ltb-true q.direction _ q.direction_fits) (fit_all (body version q.number) q.more [] q.body)), omega arith)

-- what isn't written though it fits is too long, or is followed by bits
pub not_short : (vs : Values) (raw : List Bool) → AllFit vs × (2 ≤ length vs) → (IsWritable vs raw → ⊥) → nat_lt (size_of vs raw) 8192 ≡ false
not_short vs raw f n = by (nat_lt (size_of vs raw) 8192) refl
  where
    by : (b : Bool) → nat_lt (size_of vs raw) 8192 ≡ b → nat_lt (size_of vs raw) 8192 ≡ false
    by true e = absurd (n (record { fit = f.0; two = f.1; short = ltb-true (size_of vs raw) 8192 e }))
    by false e = e
