-- Going over bits by a form finds fields of that form and their spelling, and finds again what is spelt.
use Rattle.std.proofs.Common.{◌≡◌, ℕ, suc, ◌+◌, ◌-◌, ◌^◌, ◌<◌, ◌≤◌, Bool, true, false, IsTrue, cond, ltb, List, [], ◌∷◌, ◌++◌, length, take, drop, Option, Some, None, Result, Ok, Err, refl, sym, ap, subst, ◌∙◌, append_assoc, arith, length-append}
use Rattle.std.proofs.lemmas.Bool.{ltb-true, ltb-false, lt-ltb, le-ltb}
use Rattle.std.proofs.lemmas.List.{take_at, drop_at, take-append-drop, length-take, length-drop, drop-take, take-take, drop-drop, append-nil}
use Rattle.balise_rules.specs.declared.variable.Var.{Var}
use Rattle.balise_rules.specs.Variables.{width_of}
use Rattle.balise_rules.specs.Bits.{num, bits, fits}
use Rattle.balise_rules.specs.Tags.{Key}
use Rattle.balise_rules.specs.Forms.{Form, done, shut, never, valued, repeat, Fields, Matches, NumberedFrom, spelling, read_form, count_of}
use Rattle.balise_rules.proofs.Numbers.{length-bits, num-bits_fit, bits-num, num_below}
use Rattle.balise_rules.proofs.Cases.{unok, unless}
use Rattle.balise_layout.specs.declared.fault.LayoutFault.{LayoutFault}
use Rattle.balise_layout.specs.declared.fault.LayoutFault.TheVariants.{LayoutMismatch}
use Rattle.balise_layout.specs.Walks.{walk, kept, collect}

abbrev pub good : {X : Type 0} → X → Result X (LayoutFault × X)
good s = Ok s

-- a value fits as a number and as a test
pub fits_is : (w n : ℕ) → IsTrue (fits w n) → n < 2 ^ w
fits_is w n h = ltb-true n (2 ^ w) h

pub is_fit : (w n : ℕ) → n < 2 ^ w → IsTrue (fits w n)
is_fit w n h = lt-ltb n (2 ^ w) h

-- what is spelt is found again, whatever follows
pub walk_again : {A : Type 0} (step : A → ℕ → Var → ℕ → A) (form : Form) (fs : Fields) (a : A) (raw : List Bool) → Matches form fs raw → walk step form (a, spelling fs ++ raw) ≡ Ok (kept step a (length (spelling fs ++ raw)) fs, raw)
unfolding walk spelling
walk_again step done [] a raw m = refl
walk_again step done (f ∷ fs) a raw m = absurd m
walk_again step shut [] a raw m = rw m refl
walk_again step shut (f ∷ fs) a raw m = absurd m
walk_again step never fs a raw m = absurd m
walk_again step (valued v next) [] a raw m = absurd m
walk_again step (valued v next) (f ∷ fs) a raw m =
    let own = bits (width_of f.0.0) f.1 in
    let more = spelling fs ++ raw in
    let w : width_of f.0.0 ≡ width_of v = ap width_of m.0 in
    let len : length own ≡ width_of v = length-bits (width_of f.0.0) f.1 ∙ w in
    let whole : (own ++ spelling fs) ++ raw ≡ own ++ more = append_assoc own (spelling fs) raw in
    let long : ltb (length (own ++ more)) (width_of v) ≡ false = le-ltb _ _ (omega (arith, length-append own more)) in
    let front : take (width_of v) (own ++ more) ≡ own = take_at own more (width_of v) len in
    let back : drop (width_of v) (own ++ more) ≡ more = drop_at own more (width_of v) len in
    let value : num own ≡ f.1 = num-bits_fit (width_of f.0.0) f.1 (subst (λ (k : ℕ). f.1 < 2 ^ k) (sym w) (fits_is (width_of v) f.1 m.1)) in
    let left : length (own ++ more) - width_of f.0.0 ≡ length more = omega (arith, length-append own more) in
    rw (whole, long, front, back, value, left, m.0, walk_again step (next f.1) fs (step a (length (bits (width_of v) f.1 ++ more)) v f.1) raw m.2) refl

-- what going over some bits found, where other fields stood before
pub record Found {A : Type 0} (before : Fields) (step : A → ℕ → Var → ℕ → A) (form : Form) (a : A) (b : List Bool) (after : A × List Bool) : Type 0 where
  pub fields : Fields
  pub is : after.0 ≡ kept step a (length b) fields
  pub parts : b ≡ spelling fields ++ after.1
  pub matches : Matches form fields after.1
  pub numbered : NumberedFrom before fields

pub walk_found : {A : Type 0} (before : Fields) (step : A → ℕ → Var → ℕ → A) (form : Form) (a : A) (b : List Bool) (after : A × List Bool) → walk step form (a, b) ≡ Ok after → Found before step form a b after
unfolding walk spelling
walk_found {A = A} before step done a b after e =
    let is : (a, b) ≡ after = unok e in
    record { fields = []; is = ap (λ (x : A × List Bool). x.0) (sym is); parts = ap (λ (x : A × List Bool). x.1) is; matches = tt; numbered = tt }
walk_found {A = A} before step shut a [] after e =
    let is : (a, []) ≡ after = unok e in
    record { fields = []; is = ap (λ (x : A × List Bool). x.0) (sym is); parts = ap (λ (x : A × List Bool). x.1) is; matches = ap (λ (x : A × List Bool). x.1) (sym is); numbered = tt }
walk_found {A = A} before step shut a (b ∷ bs) after e = absurd cc
walk_found {A = A} before step never a b after e = absurd cc
walk_found {A = A} before step (valued v next) a b after e =
    let w = width_of v in
    let n = num (take w b) in
    let f : Key × ℕ = ((v, count_of v before), n) in
    let g = unless (ltb (length b) w) _ (walk step (next n) (step a (length b) v n, drop w b)) after e in
    let long : w ≤ length b = ltb-false _ _ g.0 in
    let len : length (take w b) ≡ w = omega (arith, length-take w b) in
    let more = walk_found (before ++ f ∷ []) step (next n) (step a (length b) v n) (drop w b) after g.1 in
    let own : bits w n ≡ take w b = subst (λ (k : ℕ). bits k n ≡ take w b) len (bits-num (take w b)) in
    let small : n < 2 ^ w = subst (λ (k : ℕ). n < 2 ^ k) len (num_below (take w b)) in
    record {
      fields = f ∷ more.fields;
      is = more.is ∙ ap (λ (k : ℕ). kept step (step a (length b) v n) k more.fields) (length-drop w b);
      parts = sym (take-append-drop w b) ∙ ap (λ (x : List Bool). take w b ++ x) more.parts ∙ sym (append_assoc (take w b) (spelling more.fields) after.1) ∙ ap (λ (x : List Bool). (x ++ spelling more.fields) ++ after.1) (sym own);
      matches = (refl, is_fit w n small, more.matches);
      numbered = (refl, more.numbered);
    }

failed : {S T : Type 0} (e : LayoutFault) (s y : S) (z : T) → ◌≡◌ {A = Result S (LayoutFault × S)} (Err (LayoutMismatch, s)) (Err (e, y)) → (e ≡ LayoutMismatch) × (w : T) × (◌≡◌ {A = Result T (LayoutFault × T)} (Err (LayoutMismatch, z)) (Err (e, w)))
failed {S = S} {T = T} e s y z h = (sym is, z, ap (λ (f : LayoutFault). Err (f, z)) is)
  where
    fault_of : Result S (LayoutFault × S) → LayoutFault
    fault_of (Ok r) = LayoutMismatch
    fault_of (Err r) = r.0

    is : LayoutMismatch ≡ e
    is = ap fault_of h

-- a walk has one fault, which doesn't depend on what is kept
both_fail : {A B : Type 0} (s : A → ℕ → Var → ℕ → A) (t : B → ℕ → Var → ℕ → B) (form : Form) (a : A) (x : B) (b : List Bool) (e : LayoutFault) (y : A × List Bool) → walk s form (a, b) ≡ Err (e, y) → (e ≡ LayoutMismatch) × (z : B × List Bool) × (walk t form (x, b) ≡ Err (e, z))
unfolding walk
both_fail s t done a x b e y h = absurd cc
both_fail s t shut a x [] e y h = absurd cc
both_fail s t shut a x (b ∷ bs) e y h = failed e (a, b ∷ bs) y (x, b ∷ bs) h
both_fail s t never a x b e y h = failed e (a, b) y (x, b) h
both_fail {A = A} {B = B} s t (valued v next) a x b e y h =
    let n = num (take (width_of v) b) in
    both (ltb (length b) (width_of v)) _ _ h (both_fail s t (next n) (s a (length b) v n) (t x (length b) v n) (drop (width_of v) b) e y)
  where
    both : (g : Bool) (r : Result (A × List Bool) (LayoutFault × (A × List Bool))) (q : Result (B × List Bool) (LayoutFault × (B × List Bool))) → cond g (Err (LayoutMismatch, (a, b))) r ≡ Err (e, y) → (r ≡ Err (e, y) → (e ≡ LayoutMismatch) × (z : B × List Bool) × (q ≡ Err (e, z)))
        → (e ≡ LayoutMismatch) × (z : B × List Bool) × (cond g (Err (LayoutMismatch, (x, b))) q ≡ Err (e, z))
    both true r q h k = failed e (a, b) y (x, b) h
    both false r q h k = k h

pub walk_fails : {A B : Type 0} (s : A → ℕ → Var → ℕ → A) (t : B → ℕ → Var → ℕ → B) (form : Form) (a : A) (x : B) (b : List Bool) (e : LayoutFault) (y : A × List Bool) → walk s form (a, b) ≡ Err (e, y) → (z : B × List Bool) × (walk t form (x, b) ≡ Err (e, z))
walk_fails s t form a x b e y h = let f = both_fail s t form a x b e y h in (f.1, f.2)

pub walk_fault : {A : Type 0} (step : A → ℕ → Var → ℕ → A) (form : Form) (a : A) (b : List Bool) (e : LayoutFault) (y : A × List Bool) → walk step form (a, b) ≡ Err (e, y) → e ≡ LayoutMismatch
walk_fault step form a b e y h = (both_fail step step form a a b e y h).0

-- what was collected is the fields
pub kept_collect : (fs gs : Fields) (n : ℕ) → NumberedFrom fs gs → kept collect fs n gs ≡ fs ++ gs
kept_collect fs [] n m = sym (append-nil fs)
kept_collect fs (g ∷ gs) n m =
    let same : ((g.0.0, count_of g.0.0 fs), g.1) ≡ g = ap (λ (k : ℕ). ((g.0.0, k), g.1)) (sym m.0) in
    rw same (kept_collect (fs ++ g ∷ []) gs (n - width_of g.0.0) m.1 ∙ append_assoc fs (g ∷ []) gs)

-- ---- reading, as the definitions say it

abbrev pub found_or_none : Result (Fields × List Bool) (LayoutFault × (Fields × List Bool)) → Option (Fields × List Bool)
found_or_none (Ok r) = Some r
found_or_none (Err e) = None

pub read_form_is : (form : Form) (fs : Fields) (b : List Bool) → read_form form fs b ≡ found_or_none (walk collect form (fs, b))
unfolding walk read_form
read_form_is done fs b = refl
read_form_is shut fs [] = refl
read_form_is shut fs (b ∷ bs) = refl
read_form_is never fs b = refl
read_form_is (valued v next) fs b =
    let n = num (take (width_of v) b) in
    same (ltb (length b) (width_of v)) _ _ (read_form_is (next n) (fs ++ ((v, count_of v fs), n) ∷ []) (drop (width_of v) b))
  where
    same : (g : Bool) (x : Option (Fields × List Bool)) (y : Result (Fields × List Bool) (LayoutFault × (Fields × List Bool))) → x ≡ found_or_none y → cond g None x ≡ found_or_none (cond g (Err (LayoutMismatch, (fs, b))) y)
    same true x y e = refl
    same false x y e = e

-- ---- single steps

-- one field of a part of some bits gone over
pub walk_step : {A : Type 0} (step : A → ℕ → Var → ℕ → A) (v : Var) (next : ℕ → Form) (a b : A) (bs : List Bool) (at end w n : ℕ) → w ≡ width_of v → end ≤ length bs → at + w ≤ end → n ≡ num (take w (drop at bs)) → b ≡ step a (end - at) v n → walk step (valued v next) (a, take (end - at) (drop at bs)) ≡ walk step (next n) (b, take (end - (at + w)) (drop (at + w) bs))
unfolding walk
walk_step step v next a b bs at end w n wide within long value new =
    let whole = take (end - at) (drop at bs) in
    let size : length whole ≡ end - at = omega (arith, length-take (end - at) (drop at bs), length-drop at bs) in
    let enough : ltb (end - at) (width_of v) ≡ false = le-ltb _ _ (omega (arith, wide)) in
    let parts : end - at ≡ w + (end - (at + w)) = omega arith in
    let front : take w whole ≡ take w (drop at bs) = take-take w (end - at) (drop at bs) (omega arith) in
    let back : drop w whole ≡ take (end - (at + w)) (drop (at + w) bs) = ap (λ (k : ℕ). drop w (take k (drop at bs))) parts ∙ drop-take w (end - (at + w)) (drop at bs) ∙ ap (λ (l : List Bool). take (end - (at + w)) l) (drop-drop w at bs) in
    rw (size, enough, ← wide, front, back, ← value, ← new) refl

pub walk_short : {A : Type 0} (step : A → ℕ → Var → ℕ → A) (v : Var) (next : ℕ → Form) (s : A × List Bool) → length s.1 < width_of v → walk step (valued v next) s ≡ Err (LayoutMismatch, s)
unfolding walk
walk_short step v next s h = let short : ltb (length s.1) (width_of v) ≡ true = grind (arith) in rw short refl

pub walk_never : {A : Type 0} (step : A → ℕ → Var → ℕ → A) (s : A × List Bool) → walk step never s ≡ Err (LayoutMismatch, s)
unfolding walk
walk_never step s = refl

pub walk_shut : {A : Type 0} (step : A → ℕ → Var → ℕ → A) (a : A) (b : List Bool) → length b ≡ 0 → walk step shut (a, b) ≡ Ok (a, b)
unfolding walk
walk_shut step a [] e = refl
walk_shut step a (b ∷ bs) e = absurd cc

pub walk_open : {A : Type 0} (step : A → ℕ → Var → ℕ → A) (a : A) (b : List Bool) → 0 < length b → walk step shut (a, b) ≡ Err (LayoutMismatch, (a, b))
unfolding walk
walk_open step a [] e = absurd (omega arith)
walk_open step a (b ∷ bs) e = refl

pub walk_done : {A : Type 0} (step : A → ℕ → Var → ℕ → A) (s : A × List Bool) → walk step done s ≡ Ok s
unfolding walk
walk_done step s = refl

-- one more of a part that is repeated
pub repeat_next : (part : Form → Form) (rest : Form) (n k : ℕ) → k < n → repeat (n - k) part rest ≡ part (repeat (n - (k + 1)) part rest)
repeat_next part rest n k h = ap (λ (m : ℕ). repeat m part rest) (let e : n - k ≡ suc (n - (k + 1)) = omega arith in e)

-- all of them
pub repeat_last : (part : Form → Form) (rest : Form) (n k : ℕ) → n ≤ k → repeat (n - k) part rest ≡ rest
repeat_last part rest n k h = ap (λ (m : ℕ). repeat m part rest) (let e : n - k ≡ 0 = omega arith in e)
