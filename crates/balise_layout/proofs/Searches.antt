-- What a search over a packet's fields finds is where the field stands.
use Rattle.std.proofs.Common.{◌≡◌, ℕ, zero, suc, ◌+◌, ◌-◌, ◌≤◌, Bool, true, false, cond, eqb, List, [], ◌∷◌, ◌++◌, length, Option, Some, None, refl, sym, ap, ◌∙◌, arith}
use Rattle.std.proofs.Math.Dec.{eqb-suc-zero}
use Rattle.std.proofs.lemmas.Bool.{eq-eqb, ne_eqb}
use Rattle.balise_rules.specs.declared.variable.Var.{Var}
use Rattle.balise_rules.specs.Variables.{width_of}
use Rattle.balise_rules.specs.Tags.{Key, same_var, same_key}
use Rattle.balise_rules.specs.Forms.{Fields, Numbered, NumberedFrom, count_of, spelling}
use Rattle.balise_rules.proofs.Tests.{test-sym, var_test, equal_yes}
use Rattle.balise_rules.proofs.Keys.{count-more, count-other}
use Rattle.balise_rules.proofs.Cases.{unsome}
use Rattle.balise_layout.specs.declared.search.Search.{Search}
use Rattle.balise_layout.specs.Walks.{kept}
use Rattle.balise_layout.specs.Held.{before, further}
use Rattle.balise_layout.specs.Search.{look, searching}
use Rattle.balise_layout.proofs.Places.{standing}

abbrev pub found_at : Var → ℕ → ℕ → Search
found_at v k at = record { var = v; skip = k; found = Some at }

-- how many bits there are from a place on
abbrev pub left_from : ℕ → Option ℕ → Option ℕ
left_from total None = None
left_from total (Some d) = Some (total - d)

left_further : (total w : ℕ) (p : Option ℕ) → left_from (total - w) p ≡ left_from total (further w p)
left_further total w None = refl
left_further total w (Some d) = ap Some (let e : (total - w) - d ≡ total - (w + d) = omega arith in e)

-- a search that has found stays as it is
found_stays : (v : Var) (k at total : ℕ) (fs : Fields) → (kept look (found_at v k at) total fs).found ≡ Some at
found_stays v k at total [] = refl
found_stays v k at total (f ∷ fs) = found_stays v k at (total - width_of f.0.0) fs

look_later : (v : Var) (k left : ℕ) (w : Var) (n : ℕ) → look (searching v (suc k)) left w n ≡ cond (same_var w v) (searching v k) (searching v (suc k))
look_later v k left w n = let one : suc k - 1 ≡ k = omega arith in rw (eqb-suc-zero k, one) refl

-- the test of a field's key, where the variable is the one sought
key_same : (v : Var) (k : ℕ) (f : Key × ℕ) (b : Bool) → v ≡ f.0.0 → eqb k f.0.1 ≡ b → same_key (v, k) f.0 ≡ b
key_same v k f b e h = rw (equal_yes var_test v f.0.0 e) h

key_other : (v : Var) (k : ℕ) (f : Key × ℕ) → same_var f.0.0 v ≡ false → same_key (v, k) f.0 ≡ false
key_other v k f h = rw (test-sym var_test v f.0.0 ∙ h) refl

-- a field of another variable isn't counted
count-same : (v : Var) (seen : Fields) (f : Key × ℕ) → same_var f.0.0 v ≡ false → count_of v (seen ++ f ∷ []) ≡ count_of v seen
count-same v seen f h = count-other v seen f (test-sym var_test v f.0.0 ∙ h)

-- a search that skips some fields goes on after those that were counted
pub search_from : (v : Var) (skip total : ℕ) (seen fs : Fields) → NumberedFrom seen fs → (kept look (searching v skip) total fs).found ≡ left_from total (before (v, count_of v seen + skip) fs)
search_from v skip total seen [] m = refl
search_from v zero total seen (f ∷ fs) m = here (same_var f.0.0 v) refl (λ h. search_from v zero (total - width_of f.0.0) (seen ++ f ∷ []) fs m.1)
  where
    here : (b : Bool) → same_var f.0.0 v ≡ b → (same_var f.0.0 v ≡ false → (kept look (searching v 0) (total - width_of f.0.0) fs).found ≡ left_from (total - width_of f.0.0) (before (v, count_of v (seen ++ f ∷ []) + 0) fs)) → (kept look (cond b (found_at v 0 total) (searching v 0)) (total - width_of f.0.0) fs).found ≡ left_from total (cond (same_key (v, count_of v seen + 0) f.0) (Some 0) (further (width_of f.0.0) (before (v, count_of v seen + 0) fs)))
    here true is later =
        let v_is : v ≡ f.0.0 = sym (var_test.one f.0.0 v is) in
        let k_is : count_of v seen + 0 ≡ f.0.1 = omega (arith, m.0, ap (λ (x : Var). count_of x seen) v_is) in
        rw (key_same v (count_of v seen + 0) f true v_is (eq-eqb _ _ k_is)) (found_stays v 0 total (total - width_of f.0.0) fs ∙ ap Some (let e : total ≡ total - 0 = omega arith in e))
    here false is later =
        let gone : same_key (v, count_of v seen + 0) f.0 ≡ false = key_other v (count_of v seen + 0) f is in
        rw gone (later is ∙ ap (λ (n : ℕ). left_from (total - width_of f.0.0) (before (v, n + 0) fs)) (count-same v seen f is) ∙ left_further total (width_of f.0.0) (before (v, count_of v seen + 0) fs))
search_from v (suc skip) total seen (f ∷ fs) m =
    ap (λ (s : Search). (kept look s (total - width_of f.0.0) fs).found) (look_later v skip total f.0.0 f.1)
    ∙ here (same_var f.0.0 v) refl (λ k. search_from v k (total - width_of f.0.0) (seen ++ f ∷ []) fs m.1)
  where
    here : (b : Bool) → same_var f.0.0 v ≡ b → ((k : ℕ) → (kept look (searching v k) (total - width_of f.0.0) fs).found ≡ left_from (total - width_of f.0.0) (before (v, count_of v (seen ++ f ∷ []) + k) fs)) → (kept look (cond b (searching v skip) (searching v (suc skip))) (total - width_of f.0.0) fs).found ≡ left_from total (cond (same_key (v, count_of v seen + suc skip) f.0) (Some 0) (further (width_of f.0.0) (before (v, count_of v seen + suc skip) fs)))
    here true is later =
        let v_is : v ≡ f.0.0 = sym (var_test.one f.0.0 v is) in
        let k_is : count_of v seen ≡ f.0.1 = ap (λ (x : Var). count_of x seen) v_is ∙ sym m.0 in
        let gone : same_key (v, count_of v seen + suc skip) f.0 ≡ false = key_same v (count_of v seen + suc skip) f false v_is (ne_eqb _ _ (λ e. absurd (omega (arith, e, k_is)))) in
        let next : count_of v (seen ++ f ∷ []) + skip ≡ count_of v seen + suc skip = omega (arith, count-more v seen f (equal_yes var_test v f.0.0 v_is)) in
        rw gone (later skip ∙ ap (λ (n : ℕ). left_from (total - width_of f.0.0) (before (v, n) fs)) next ∙ left_further total (width_of f.0.0) (before (v, count_of v seen + suc skip) fs))
    here false is later =
        let gone : same_key (v, count_of v seen + suc skip) f.0 ≡ false = key_other v (count_of v seen + suc skip) f is in
        rw gone (later (suc skip) ∙ ap (λ (n : ℕ). left_from (total - width_of f.0.0) (before (v, n + suc skip) fs)) (count-same v seen f is) ∙ left_further total (width_of f.0.0) (before (v, count_of v seen + suc skip) fs))

-- a search over a whole packet
pub search_is : (v : Var) (k total : ℕ) (fs : Fields) → Numbered fs → (kept look (searching v k) total fs).found ≡ left_from total (before (v, k) fs)
search_is v k total fs m = search_from v k total [] fs m ∙ ap (λ (n : ℕ). left_from total (before (v, n) fs)) (let e : 0 + k ≡ k = omega arith in e)

pub search_found : (v : Var) (k : ℕ) (fs : Fields) (raw : List Bool) (s : Search) (left : ℕ) → Numbered fs → s ≡ kept look (searching v k) (length (spelling fs ++ raw)) fs → s.found ≡ Some left → (left ≤ length (spelling fs ++ raw)) × (Some (length (spelling fs ++ raw) - left) ≡ before (v, k) fs)
search_found v k fs raw s left m is some = at (before (v, k) fs) refl (sym some ∙ ap (λ (x : Search). x.found) is ∙ search_is v k (length (spelling fs ++ raw)) fs m)
  where
    at : (p : Option ℕ) → before (v, k) fs ≡ p → Some left ≡ left_from (length (spelling fs ++ raw)) p → (left ≤ length (spelling fs ++ raw)) × (Some (length (spelling fs ++ raw) - left) ≡ p)
    at None e h = absurd cc
    at (Some d) e h =
        let l = unsome h in
        let w = (standing v k fs raw d e).within in
        (omega (arith, l), ap Some (omega (arith, l, w)))

pub search_none : (v : Var) (k n : ℕ) (fs : Fields) (s : Search) → Numbered fs → s ≡ kept look (searching v k) n fs → s.found ≡ None → None ≡ before (v, k) fs
search_none v k n fs s m is none = at (before (v, k) fs) (sym none ∙ ap (λ (x : Search). x.found) is ∙ search_is v k n fs m)
  where
    at : (p : Option ℕ) → None ≡ left_from n p → None ≡ p
    at None h = refl
    at (Some d) h = absurd cc
