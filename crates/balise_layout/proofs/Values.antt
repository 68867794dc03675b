-- The value of a field of a packet read from its bits, and what setting it gives.
use Rattle.std.proofs.Common.{◌≡◌, ◌≢◌, ℕ, zero, suc, ◌+◌, ◌-◌, ◌*◌, ◌/◌, ◌^◌, ◌<◌, ◌≤◌, Bool, true, false, cond, eqb, ltb, List, [], ◌∷◌, length, take, drop, Option, Some, None, unwrap_or, refl, sym, ap, subst, ◌∙◌, arith}
use Rattle.std.proofs.lemmas.Bool.{lt-ltb, le-ltb, ltb-true, ltb-false, ne_eqb}
use Rattle.std.proofs.lemmas.Nat.{pow_pos}
use Rattle.std.proofs.Math.Nat.{div-eq_of_lt}
use Rattle.balise_rules.specs.declared.variable.Var.{Var}
use Rattle.balise_rules.specs.declared.variable.Var.TheVariants.{NidPacket, QDir}
use Rattle.balise_rules.specs.declared.refusal.Refusal.TheVariants.{NoSuchVariable, Steering, ValueTooWide}
use Rattle.balise_rules.specs.Variables.{width_of, steers}
use Rattle.balise_rules.specs.Bits.{num}
use Rattle.balise_rules.specs.Tags.{Key, same_key}
use Rattle.balise_rules.specs.Tagged.{find, Distinct}
use Rattle.balise_rules.specs.Forms.{Form, Fields}
use Rattle.balise_rules.specs.Packet.{Packet, field_of, value, with_value, IsSpelt}
use Rattle.balise_rules.specs.Edits.{exchanged}
use Rattle.balise_rules.proofs.Numbers.{num-bits_fit}
use Rattle.balise_rules.proofs.Tests.{key_test, split_keys, split_on}
use Rattle.balise_rules.proofs.Keys.{numbered_distinct}
use Rattle.balise_rules.proofs.Cases.{unsome}
use Rattle.balise_rules.proofs.Each.{each-found}
use Rattle.balise_layout.specs.Held.{headed, Holds, before, with_field}
use Rattle.balise_layout.specs.Setting.{set_refusal}
use Rattle.balise_layout.proofs.Spelt.{head_of}
use Rattle.balise_layout.proofs.Places.{standing, missing, with_value-missing, field_fits}
use Rattle.balise_layout.proofs.Setting.{IsSpelt-with_field}

pub stands_within : (next : ℕ → Form) (b : List Bool) (p : Packet) (v : Var) (k d : ℕ) → Holds next b p → before (v, k) p.fields ≡ Some d → d + width_of v ≤ length b
stands_within next b p v k d h e = omega (arith, (standing v k p.fields p.rest d e).within, ap length h.spelt)

pub stands_value : (next : ℕ → Form) (b : List Bool) (p : Packet) (v : Var) (k d : ℕ) → Holds next b p → before (v, k) p.fields ≡ Some d → field_of v k p.fields ≡ Some (num (take (width_of v) (drop d b)))
stands_value next b p v k d h e =
    let s = standing v k p.fields p.rest d e in
    let fit : s.value < 2 ^ width_of v = field_fits (headed next) p.fields p.rest v k s.value h.form s.is in
    let read : num (take (width_of v) (drop d b)) ≡ s.value = ap (λ (x : List Bool). num (take (width_of v) (drop d x))) h.spelt ∙ ap num s.reads ∙ num-bits_fit (width_of v) s.value fit in
    s.is ∙ ap Some (sym read)

pub value_is : (v : Var) (k n : ℕ) (fs : Fields) → field_of v k fs ≡ Some n → value v k fs ≡ n
value_is v k n fs e = ap (λ (o : Option ℕ). unwrap_or o 0) e

-- where the first two fields stand
pub number_stands : (next : ℕ → Form) (b : List Bool) (p : Packet) → Holds next b p → before (NidPacket, 0) p.fields ≡ Some 0
number_stands next b p h = ap (before (NidPacket, 0)) (head_of next p.fields p.rest h.form h.numbered).is

pub dir_stands : (next : ℕ → Form) (b : List Bool) (p : Packet) → Holds next b p → before (QDir, 0) p.fields ≡ Some 8
unfolding width_of
dir_stands next b p h = ap (before (QDir, 0)) (head_of next p.fields p.rest h.form h.numbered).is

pub dir_within : (next : ℕ → Form) (b : List Bool) (p : Packet) → Holds next b p → 8 + 2 ≤ length b
unfolding width_of
dir_within next b p h = stands_within next b p QDir 0 8 h (dir_stands next b p h)

pub dir_value : (next : ℕ → Form) (b : List Bool) (p : Packet) → Holds next b p → num (take 2 (drop 8 b)) ≡ value QDir 0 p.fields
unfolding width_of
dir_value next b p h = sym (value_is QDir 0 _ p.fields (stands_value next b p QDir 0 8 h (dir_stands next b p h)))

pub dir_found : (next : ℕ → Form) (b : List Bool) (p : Packet) → Holds next b p → field_of QDir 0 p.fields ≡ Some (value QDir 0 p.fields)
dir_found next b p h =
    let e = stands_value next b p QDir 0 8 h (dir_stands next b p h) in
    e ∙ ap Some (sym (value_is QDir 0 _ p.fields e))

-- ---- refusals

pub refused_missing : (v : Var) (k n : ℕ) (p : Packet) → before (v, k) p.fields ≡ None → set_refusal v k n p ≡ Some NoSuchVariable
unfolding set_refusal
refused_missing v k n p e = let gone : field_of v k p.fields ≡ None = missing v k p.fields e in rw gone refl

pub refused_steering : (v : Var) (k n d : ℕ) (p : Packet) → before (v, k) p.fields ≡ Some d → steers v ≡ true → set_refusal v k n p ≡ Some Steering
unfolding set_refusal
refused_steering v k n d p e s = let there = (standing v k p.fields p.rest d e).is in rw (there, s) refl

pub refused_wide : (v : Var) (k n d : ℕ) (p : Packet) → before (v, k) p.fields ≡ Some d → steers v ≡ false → 2 ^ width_of v ≤ n → set_refusal v k n p ≡ Some ValueTooWide
unfolding set_refusal
refused_wide v k n d p e s wide =
    let there = (standing v k p.fields p.rest d e).is in
    let big : ltb n (2 ^ width_of v) ≡ false = le-ltb _ _ wide in
    rw (there, s, big) refl

pub accepted : (v : Var) (k n d : ℕ) (p : Packet) → before (v, k) p.fields ≡ Some d → steers v ≡ false → n < 2 ^ width_of v → set_refusal v k n p ≡ None
unfolding set_refusal
accepted v k n d p e s fit =
    let there = (standing v k p.fields p.rest d e).is in
    let small : ltb n (2 ^ width_of v) ≡ true = lt-ltb _ _ fit in
    rw (there, s, small) refl

-- a value that is too wide leaves something when its width is shifted out
pub shifted_out : (n w : ℕ) → n / 2 ^ w ≢ 0 → 2 ^ w ≤ n
shifted_out n w h = split_on (ltb n (2 ^ w)) (λ e. absurd (h (div-eq_of_lt (ltb-true n (2 ^ w) e)))) (λ e. ltb-false n (2 ^ w) e)

pub nothing_left : (n w : ℕ) → n / 2 ^ w ≡ 0 → n < 2 ^ w
nothing_left n w e =
    let none : 2 ^ w * (n / 2 ^ w) ≡ 2 ^ w * 0 = ap (λ (q : ℕ). 2 ^ w * q) e in
    let positive : 0 < 2 ^ w = pow_pos w in
    omega (arith, none, positive)

-- ---- flips

pub with_value-same : (v : Var) (k n : ℕ) (fs : Fields) → Distinct same_key fs → field_of v k fs ≡ Some n → with_value v k n fs ≡ fs
with_value-same v k n fs d e =
    each-found key_test (λ key old. cond (same_key (v, k) key) n old) fs d
    (λ key old h. split_keys key_test (v, k) key (λ s q. simp s (unsome (sym e ∙ ap (λ (x : Key). find same_key x fs) q ∙ h))) (λ s. simp s))

pub with_field-same : (next : ℕ → Form) (b : List Bool) (p : Packet) (v : Var) (k n : ℕ) → Holds next b p → field_of v k p.fields ≡ Some n → with_field v k n p ≡ p
with_field-same next b p v k n h e = ap (λ (x : Fields). record { fields = x; rest = p.rest }) (with_value-same v k n p.fields (numbered_distinct [] p.fields h.numbered) e)

pub with_field-missing : (p : Packet) (v : Var) (k n : ℕ) → before (v, k) p.fields ≡ None → with_field v k n p ≡ p
with_field-missing p v k n e = ap (λ (x : Fields). record { fields = x; rest = p.rest }) (with_value-missing v k n p.fields (missing v k p.fields e))

pub exchanged_low : (n : ℕ) → n < 2 → exchanged 0 1 n ≡ 1 - n
exchanged_low zero h = refl
exchanged_low (suc zero) h = refl
exchanged_low (suc (suc n)) h = absurd (omega arith)

pub exchanged_high : (n : ℕ) → 2 ≤ n → exchanged 0 1 n ≡ n
exchanged_high n h =
    let not_zero : eqb n 0 ≡ false = ne_eqb n 0 (λ e. absurd (omega (arith, h, e))) in
    let not_one : eqb n 1 ≡ false = ne_eqb n 1 (λ e. absurd (omega (arith, h, e))) in
    rw (not_zero, not_one) refl

-- a version spells the packet still
pub spelt_still : (version : ℕ) (p q : Packet) (v : Var) (k n : ℕ) → steers v ≡ false → n < 2 ^ width_of v → q ≡ with_field v k n p → IsSpelt version p → IsSpelt version q
spelt_still version p q v k n free fit e s = subst (IsSpelt version) (sym e) (IsSpelt-with_field version p v k n free fit s)

pub small_bit : (b : List Bool) → num (take 1 b) ≤ 1
unfolding num
small_bit [] = omega arith
small_bit (true ∷ b) = omega arith
small_bit (false ∷ b) = omega arith
