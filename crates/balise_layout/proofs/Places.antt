-- Where a field of a packet stands among its bits, and what another value put there spells.
use Rattle.std.proofs.Common.{◌≡◌, ℕ, ◌+◌, ◌^◌, ◌<◌, ◌≤◌, Bool, true, false, cond, List, [], ◌∷◌, ◌++◌, length, take, drop, Option, Some, None, refl, sym, ap, ◌∙◌, append_assoc, arith, length-append}
use Rattle.std.proofs.lemmas.List.{take_at, drop_at}
use Rattle.std.proofs.Math.Seq.{drop-append-add}
use Rattle.balise_bits.proofs.Putting.{put_at-append_right}
use Rattle.balise_rules.specs.declared.variable.Var.{Var}
use Rattle.balise_rules.specs.Variables.{width_of}
use Rattle.balise_rules.specs.Bits.{bits, put_at}
use Rattle.balise_rules.specs.Tags.{Key, same_key}
use Rattle.balise_rules.specs.Tagged.{find, Distinct}
use Rattle.balise_rules.specs.Forms.{Form, Fields, Matches, spelling}
use Rattle.balise_rules.specs.Packet.{field_of, with_value}
use Rattle.balise_rules.proofs.Numbers.{length-bits}
use Rattle.balise_rules.proofs.Tests.{key_test}
use Rattle.balise_rules.proofs.Cases.{unsome}
use Rattle.balise_rules.proofs.Each.{each-absent}
use Rattle.balise_layout.specs.Held.{before, further}
use Rattle.balise_layout.proofs.Walks.{fits_is}
use Rattle.balise_rules.proofs.Found as rules

-- a field that stands after d bits
pub record Standing (v : Var) (k : ℕ) (fs : Fields) (raw : List Bool) (d : ℕ) : Type 0 where
  pub value : ℕ
  pub is : field_of v k fs ≡ Some value
  pub within : d + width_of v ≤ length (spelling fs ++ raw)
  pub reads : take (width_of v) (drop d (spelling fs ++ raw)) ≡ bits (width_of v) value

-- further on by a field
pub record Further (w : ℕ) (p : Option ℕ) (d : ℕ) : Type 0 where
  pub from : ℕ
  pub is : p ≡ Some from
  pub sum : d ≡ w + from

pub further_is : (w : ℕ) (p : Option ℕ) (d : ℕ) → further w p ≡ Some d → Further w p d
further_is w None d e = absurd cc
further_is w (Some n) d e = record { from = n; is = refl; sum = sym (unsome e) }

-- bits put after others
pub put_further : (a b new : List Bool) (d : ℕ) → put_at (length a + d) new (a ++ b) ≡ a ++ put_at d new b
put_further a b new d = put_at-append_right (length a + d) d new a b refl

pub standing : (v : Var) (k : ℕ) (fs : Fields) (raw : List Bool) (d : ℕ) → before (v, k) fs ≡ Some d → Standing v k fs raw d
unfolding spelling
standing v k [] raw d e = absurd cc
standing v k (f ∷ fs) raw d e = at (same_key (v, k) f.0) refl e (λ c i. standing v k fs raw c i)
  where
    size : length (bits (width_of f.0.0) f.1) ≡ width_of f.0.0
    size = length-bits (width_of f.0.0) f.1

    whole : (bits (width_of f.0.0) f.1 ++ spelling fs) ++ raw ≡ bits (width_of f.0.0) f.1 ++ (spelling fs ++ raw)
    whole = append_assoc (bits (width_of f.0.0) f.1) (spelling fs) raw

    at : (b : Bool) → same_key (v, k) f.0 ≡ b → cond b (Some 0) (further (width_of f.0.0) (before (v, k) fs)) ≡ Some d → ((c : ℕ) → before (v, k) fs ≡ Some c → Standing v k fs raw c) → Standing v k (f ∷ fs) raw d
    at true is h later =
        let key : (v, k) ≡ f.0 = key_test.one (v, k) f.0 is in
        let w : width_of f.0.0 ≡ width_of v = ap (λ (x : Key). width_of x.0) (sym key) in
        let zero_is : 0 ≡ d = unsome h in
        record {
          value = f.1;
          is = ap (λ (b : Bool). cond b (Some f.1) (find same_key (v, k) fs)) is;
          within = omega (arith, ap length whole, length-append (bits (width_of f.0.0) f.1) (spelling fs ++ raw), size, w, zero_is);
          reads = ap (λ (n : ℕ). take (width_of v) (drop n ((bits (width_of f.0.0) f.1 ++ spelling fs) ++ raw))) (sym zero_is) ∙ ap (take (width_of v)) whole ∙ take_at (bits (width_of f.0.0) f.1) (spelling fs ++ raw) (width_of v) (size ∙ w) ∙ ap (λ (n : ℕ). bits n f.1) w;
        }
    at false is h later =
        let more = further_is (width_of f.0.0) (before (v, k) fs) d h in
        let s = later more.from more.is in
        let place : d ≡ length (bits (width_of f.0.0) f.1) + more.from = more.sum ∙ ap (λ (n : ℕ). n + more.from) (sym size) in
        record {
          value = s.value;
          is = ap (λ (b : Bool). cond b (Some f.1) (find same_key (v, k) fs)) is ∙ s.is;
          within = omega (arith, ap length whole, length-append (bits (width_of f.0.0) f.1) (spelling fs ++ raw), size, s.within, more.sum);
          reads = ap (λ (x : List Bool). take (width_of v) (drop d x)) whole ∙ ap (λ (n : ℕ). take (width_of v) (drop n (bits (width_of f.0.0) f.1 ++ (spelling fs ++ raw)))) place ∙ ap (take (width_of v)) (drop-append-add (bits (width_of f.0.0) f.1) (spelling fs ++ raw) more.from) ∙ s.reads;
        }

-- a field that isn't there
pub missing : (v : Var) (k : ℕ) (fs : Fields) → before (v, k) fs ≡ None → field_of v k fs ≡ None
missing v k [] e = refl
missing v k (f ∷ fs) e = at (same_key (v, k) f.0) e (missing v k fs)
  where
    rest : (p : Option ℕ) → further (width_of f.0.0) p ≡ None → p ≡ None
    rest None h = refl
    rest (Some n) h = absurd cc

    at : (b : Bool) → cond b (Some 0) (further (width_of f.0.0) (before (v, k) fs)) ≡ None → (before (v, k) fs ≡ None → field_of v k fs ≡ None) → cond b (Some f.1) (find same_key (v, k) fs) ≡ None
    at true h later = absurd cc
    at false h later = later (rest (before (v, k) fs) h)

-- what isn't there isn't changed
pub with_value-missing : (v : Var) (k n : ℕ) (fs : Fields) → field_of v k fs ≡ None → with_value v k n fs ≡ fs
with_value-missing v k n fs e = each-absent same_key (v, k) (λ old. n) fs e

-- another value put where a field stands spells the fields with that value
pub put_spelling : (v : Var) (k n : ℕ) (fs : Fields) (raw : List Bool) (d : ℕ) → Distinct same_key fs → before (v, k) fs ≡ Some d → put_at d (bits (width_of v) n) (spelling fs ++ raw) ≡ spelling (with_value v k n fs) ++ raw
unfolding spelling
put_spelling v k n [] raw d dist e = absurd cc
put_spelling v k n (f ∷ fs) raw d dist e = at (same_key (v, k) f.0) refl e (λ c i. put_spelling v k n fs raw c dist.1 i)
  where
    size : length (bits (width_of f.0.0) f.1) ≡ width_of f.0.0
    size = length-bits (width_of f.0.0) f.1

    whole : (bits (width_of f.0.0) f.1 ++ spelling fs) ++ raw ≡ bits (width_of f.0.0) f.1 ++ (spelling fs ++ raw)
    whole = append_assoc (bits (width_of f.0.0) f.1) (spelling fs) raw

    at : (b : Bool) → same_key (v, k) f.0 ≡ b → cond b (Some 0) (further (width_of f.0.0) (before (v, k) fs)) ≡ Some d → ((c : ℕ) → before (v, k) fs ≡ Some c → put_at c (bits (width_of v) n) (spelling fs ++ raw) ≡ spelling (with_value v k n fs) ++ raw) → put_at d (bits (width_of v) n) ((bits (width_of f.0.0) f.1 ++ spelling fs) ++ raw) ≡ (bits (width_of f.0.0) (cond b n f.1) ++ spelling (with_value v k n fs)) ++ raw
    at true is h later =
        let key : (v, k) ≡ f.0 = key_test.one (v, k) f.0 is in
        let w : width_of v ≡ width_of f.0.0 = ap (λ (x : Key). width_of x.0) key in
        let zero_is : d ≡ 0 = sym (unsome h) in
        let gone : field_of v k fs ≡ None = ap (λ (x : Key). find same_key x fs) key ∙ dist.0 in
        let behind : drop (0 + length (bits (width_of f.0.0) n)) (bits (width_of f.0.0) f.1 ++ (spelling fs ++ raw)) ≡ spelling fs ++ raw = drop_at (bits (width_of f.0.0) f.1) (spelling fs ++ raw) (0 + length (bits (width_of f.0.0) n)) (omega (arith, size, length-bits (width_of f.0.0) n)) in
        rw (zero_is, w, whole, behind, with_value-missing v k n fs gone) (sym (append_assoc (bits (width_of f.0.0) n) (spelling fs) raw))
    at false is h later =
        let more = further_is (width_of f.0.0) (before (v, k) fs) d h in
        let place : d ≡ length (bits (width_of f.0.0) f.1) + more.from = more.sum ∙ ap (λ (m : ℕ). m + more.from) (sym size) in
        ap (λ (m : ℕ). put_at m (bits (width_of v) n) ((bits (width_of f.0.0) f.1 ++ spelling fs) ++ raw)) place ∙ ap (put_at (length (bits (width_of f.0.0) f.1) + more.from) (bits (width_of v) n)) whole ∙ put_further (bits (width_of f.0.0) f.1) (spelling fs ++ raw) (bits (width_of v) n) more.from ∙ ap (λ (x : List Bool). bits (width_of f.0.0) f.1 ++ x) (later more.from more.is) ∙ sym (append_assoc (bits (width_of f.0.0) f.1) (spelling (with_value v k n fs)) raw)

-- each field fits its width
pub field_fits : (form : Form) (fs : Fields) (raw : List Bool) (v : Var) (k n : ℕ) → Matches form fs raw → field_of v k fs ≡ Some n → n < 2 ^ width_of v
field_fits form fs raw v k n m e = fits_is (width_of v) n (rules.field_fits form fs raw m (v, k) n e)
