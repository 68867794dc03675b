-- Headers: two changes of the fields of one header commute where they are apart.
-- Proves that an edit keeps the country and N_TOTAL, and that the new value of a header's field is the same in both orders.
-- From what may be set in a header at all: neither country, number, N_PIG nor N_TOTAL.
use Rattle.std.proofs.Common.{◌≡◌, ℕ, ◌-◌, Bool, true, false, cond, ◌&&◌, eqb, refl, sym, ap}
use Rattle.std.proofs.lemmas.Bool.{both_ways, and_parts}
use Rattle.balise_rules.specs.declared.tag.Tag.{Tag}
use Rattle.balise_rules.specs.declared.variable.Var.{Var}
use Rattle.balise_rules.specs.declared.variable.Var.TheVariants.{NidC, NidBg, NPig, NTotal, MDup}
use Rattle.balise_rules.specs.Tagged.{each}
use Rattle.balise_rules.specs.Tags.{same_tag, same_var, same_key, Key, is_of}
use Rattle.balise_rules.specs.Forms.{Fields}
use Rattle.balise_rules.specs.Packet.{value}
use Rattle.balise_rules.specs.Edits.{Edit, exchanged, head_after}
use Rattle.balise_rules.specs.declared.tagged_edit.TaggedEdit.TheVariants.{SetHead, Renumber, TurnGroup}
use Rattle.balise_rules.proofs.Tests.{split_on, flip_no, tag_test, nat_test, var_test, key_test, both_one}
use Rattle.balise_rules.proofs.Cases.{parts3}
use Rattle.balise_rules.proofs.Each.{each-id}
use Rattle.balise_rules.proofs.Keys.{other_key, not_other}
use Rattle.balise_rules.proofs.Untouched.{KeepsHead, value_untouched}
use Rattle.balise_strike_laws.proofs.Cases.{both_set, twice}

-- a field of a header that an edit may set
abbrev pub SteadyHead : Edit → Type 0
SteadyHead (SetHead g t v x) = (same_var NidC v ≡ false) × (same_var NidBg v ≡ false) × (same_var NPig v ≡ false) × (same_var NTotal v ≡ false)
SteadyHead e = Unit {0}

-- what has to be apart for two changes of one header
abbrev pub HeadApart : Edit → Edit → Type 0
HeadApart (SetHead g0 t0 v0 x) (SetHead g1 t1 v1 y) = (same_tag g1 g0 && (eqb t1 t0 && same_key (v1, 0) (v0, 0))) ≡ false
HeadApart (SetHead g0 t0 v0 x) (TurnGroup g1) = same_var MDup v0 ≡ true → same_tag g1 g0 ≡ false
HeadApart (TurnGroup g1) (SetHead g0 t0 v0 x) = same_var MDup v0 ≡ true → same_tag g1 g0 ≡ false
HeadApart (Renumber g0 x) (Renumber g1 y) = same_tag g1 g0 ≡ false
HeadApart e f = Unit {0}

-- it is none of these, so they stay
untouched : (e : Edit) → SteadyHead e → KeepsHead e NTotal × KeepsHead e NidC
untouched (SetHead g t v x) s = (flip_no var_test NTotal v s.3, flip_no var_test NidC v s.0)
untouched (Renumber g x) s = (refl, refl)
untouched (TurnGroup g) s = ((refl, refl), (refl, refl))
untouched e s = (tt, tt)

pub total-kept : (e : Edit) → SteadyHead e → (g : Tag) → (t : ℕ) → (hs : Fields) → value NTotal 0 (each (head_after e g t hs) hs) ≡ value NTotal 0 hs
total-kept e s g t hs = value_untouched e NTotal (untouched e s).0 g t hs

pub country-kept : (e : Edit) → SteadyHead e → (g : Tag) → (t : ℕ) → (hs : Fields) → value NidC 0 (each (head_after e g t hs) hs) ≡ value NidC 0 hs
country-kept e s g t hs = value_untouched e NidC (untouched e s).1 g t hs

pub turns_head : (d n : Bool) → (a b : Bool) → (F G : ℕ → ℕ) → (v : ℕ) → (d ≡ true → n ≡ false) →
    cond (d && a) (F (cond (d && b) (F v) (cond (n && b) (G v) v))) (cond (n && a) (G (cond (d && b) (F v) (cond (n && b) (G v) v))) (cond (d && b) (F v) (cond (n && b) (G v) v))) ≡
    cond (d && b) (F (cond (d && a) (F v) (cond (n && a) (G v) v))) (cond (n && b) (G (cond (d && a) (F v) (cond (n && a) (G v) v))) (cond (d && a) (F v) (cond (n && a) (G v) v)))
turns_head true n a b F G v h = let e = h refl in simp e (twice F a b v)
turns_head false true a b F G v h = twice G a b v
turns_head false false a b F G v h = refl

pub set-turn-head : (g0 : Tag) → (t0 : ℕ) → (v0 : Var) → (x : ℕ) → SteadyHead (SetHead g0 t0 v0 x) → (g1 : Tag) → (g : Tag) → (t : ℕ) → (hs : Fields) →
    (same_var MDup v0 ≡ true → same_tag g1 g0 ≡ false) → (key : Key) → (v : ℕ) →
    head_after (SetHead g0 t0 v0 x) g t (each (head_after (TurnGroup g1) g t hs) hs) key (head_after (TurnGroup g1) g t hs key v) ≡
    head_after (TurnGroup g1) g t (each (head_after (SetHead g0 t0 v0 x) g t hs) hs) key (head_after (SetHead g0 t0 v0 x) g t hs key v)
set-turn-head g0 t0 v0 x s g1 g t hs n key v =
    rw (total-kept (SetHead g0 t0 v0 x) s g t hs)
    (split_on (same_key (v0, 0) key && (same_tag g0 g && eqb t0 t))
    (λ a. let d = parts3 (same_key (v0, 0) key) (same_tag g0 g) (eqb t0 t) a in let q = key_test.one (v0, 0) key d.0 in
    let z = s.2 in simp a (sym (rw (← q) (split_on (same_var MDup v0)
    (λ e. split_on (same_tag g1 g) (λ w. absurd (both_ways (same_tag g1 g0) (n e) (both_one tag_test g g0 g1 d.1 w))) (λ w. simp (e, w, z)))
    (λ e. simp (e, z))))))
    (λ a. simp a))

pub head-commute : (e f : Edit) → SteadyHead e → SteadyHead f → (g : Tag) → (t : ℕ) → (hs : Fields) → HeadApart e f → (key : Key) → (v : ℕ) →
    head_after e g t (each (head_after f g t hs) hs) key (head_after f g t hs key v) ≡ head_after f g t (each (head_after e g t hs) hs) key (head_after e g t hs key v)
head-commute (SetHead g0 t0 v0 x) (SetHead g1 t1 v1 y) s r g t hs n key v =
    both_set (same_key (v0, 0) key && (same_tag g0 g && eqb t0 t)) (same_key (v1, 0) key && (same_tag g1 g && eqb t1 t)) x y v
    (λ a b. let d = parts3 (same_key (v0, 0) key) (same_tag g0 g) (eqb t0 t) a in let w = parts3 (same_key (v1, 0) key) (same_tag g1 g) (eqb t1 t) b in
    let k0 = both_one tag_test g g0 g1 d.1 w.1 in let k1 = both_one nat_test t t0 t1 d.2 w.2 in let k2 = both_one key_test key (v0, 0) (v1, 0) d.0 w.0 in
    both_ways (same_tag g1 g0 && (eqb t1 t0 && same_key (v1, 0) (v0, 0))) n (simp (k0, k1, k2)))
head-commute (SetHead g0 t0 v0 x) (Renumber g1 y) s r g t hs n key v =
    both_set (same_key (v0, 0) key && (same_tag g0 g && eqb t0 t)) (is_of NidBg key && same_tag g1 g) x y v
    (λ a b. let d = parts3 (same_key (v0, 0) key) (same_tag g0 g) (eqb t0 t) a in let w = and_parts (is_of NidBg key) (same_tag g1 g) b in
    both_ways (same_key (v0, 0) key) (other_key NidBg v0 0 key s.1 w.0) d.0)
head-commute (Renumber g1 y) (SetHead g0 t0 v0 x) r s g t hs n key v =
    both_set (is_of NidBg key && same_tag g1 g) (same_key (v0, 0) key && (same_tag g0 g && eqb t0 t)) y x v
    (λ b a. let d = parts3 (same_key (v0, 0) key) (same_tag g0 g) (eqb t0 t) a in let w = and_parts (is_of NidBg key) (same_tag g1 g) b in
    both_ways (same_key (v0, 0) key) (other_key NidBg v0 0 key s.1 w.0) d.0)
head-commute (SetHead g0 t0 v0 x) (TurnGroup g1) s r g t hs n key v = set-turn-head g0 t0 v0 x s g1 g t hs n key v
head-commute (TurnGroup g1) (SetHead g0 t0 v0 x) r s g t hs n key v = sym (set-turn-head g0 t0 v0 x s g1 g t hs n key v)
head-commute (Renumber g0 x) (Renumber g1 y) s r g t hs n key v =
    both_set (is_of NidBg key && same_tag g0 g) (is_of NidBg key && same_tag g1 g) x y v
    (λ a b. both_ways (same_tag g1 g0) n (both_one tag_test g g0 g1 (and_parts (is_of NidBg key) (same_tag g0 g) a).1 (and_parts (is_of NidBg key) (same_tag g1 g) b).1))
head-commute (Renumber g0 x) (TurnGroup g1) s r g t hs n key v =
    rw (total-kept (Renumber g0 x) s g t hs)
    (split_on (is_of NidBg key) (λ e. let d = not_other NidBg MDup key refl e in let u = not_other NidBg NPig key refl e in simp (e, d, u)) (λ e. simp e))
head-commute (TurnGroup g1) (Renumber g0 x) r s g t hs n key v =
    sym (rw (total-kept (Renumber g0 x) s g t hs)
    (split_on (is_of NidBg key) (λ e. let d = not_other NidBg MDup key refl e in let u = not_other NidBg NPig key refl e in simp (e, d, u)) (λ e. simp e)))
head-commute (TurnGroup g0) (TurnGroup g1) s r g t hs n key v =
    rw (total-kept (TurnGroup g0) s g t hs, total-kept (TurnGroup g1) s g t hs)
    (turns_head (is_of MDup key) (is_of NPig key) (same_tag g0 g) (same_tag g1 g) (exchanged 1 2) (λ x. value NTotal 0 hs - x) v (λ e. not_other MDup NPig key refl e))
head-commute (SetHead g0 t0 v0 x) f s r g t hs n key v = refl
head-commute (Renumber g0 x) f s r g t hs n key v = refl
head-commute (TurnGroup g0) f s r g t hs n key v = ap (λ l. head_after (TurnGroup g0) g t l key v) (each-id hs)
head-commute e f s r g t hs n key v = ap (λ l. head_after f g t l key v) (sym (each-id hs))
