-- Later entries tested up to a place, by the numbers of their homes or one by one.
use Rattle.std.proofs.Common.{◌≡◌, ◌∙◌, ◌+◌, ◌-◌, ◌≤◌, ℕ, Bool, true, false, ◌||◌, cond, List, [], ◌∷◌, ◌++◌, length, map, take, drop, slice_get, Some, None, refl, sym, ap, subst, append_assoc}
use Rattle.std.proofs.Math.Seq.{drop-length, take-add, take-length}
use Rattle.std.proofs.lemmas.List.{drop-drop, drop_all}
use Rattle.balise_rules.specs.Behind.{independent, serials_behind, stands_behind}
use Rattle.balise_rules.specs.Paths.{Entry, apart}
use Rattle.balise_rules.specs.Session.{first_dependent}
use Rattle.balise_edits.specs.Homes.{number_at, AllApart}
use Rattle.balise_edits.proofs.Steps.{take-more}
use Rattle.balise_plan.proofs.GroupLists.{drop_found}
use Rattle.balise_history.specs.Tests.{RunsOutAmong}
use Rattle.balise_history.proofs.FoundTo.{FoundTo, found-all, found-next, found-skipped, skip, told}
use Rattle.balise_history.proofs.Tested.{behind-apart, behind-next, dependent-next, independent-apart, independent-behind, independent-more, none-more, some-behind}

pub record TestedTo (e : Entry) (fs : List Entry) (behind : List ℕ) (n : ℕ) : Type 0 where
  pub tested : first_dependent e fs ≡ first_dependent e (drop n fs)
  pub before : first_dependent e (take n fs) ≡ None
  pub found : FoundTo (serials_behind e) fs behind n

-- ---- entries that are apart

dependent-apart : (e : Entry) (f : Entry) (fs : List Entry) → apart e f ≡ true → first_dependent e (f ∷ fs) ≡ first_dependent e fs
dependent-apart e f fs a = dependent-next e f fs (independent-apart e f a)

none-dependent : (e : Entry) (fs : List Entry) → AllApart e fs → first_dependent e fs ≡ None
none-dependent e fs all = skip (first_dependent e) e (dependent-apart e) (length fs) fs (subst (AllApart e) (sym (take-length fs)) all) ∙ ap (first_dependent e) (drop-length fs)

-- those that the numbers of their homes tell
pub counted : {e : Entry} {fs : List Entry} {b : List ℕ} {p : ℕ} (hs : List ℕ) (n : ℕ) → TestedTo e fs b p → hs ≡ map number_at fs → n ≤ length (take (length hs - p) (drop p hs))
    → ((gs : List Entry) → take (length hs - p) (drop p hs) ≡ map number_at gs → AllApart e (take n gs)) → TestedTo e fs b (p + n)
counted {e = e} {fs = fs} {b = b} {p = p} hs n t is w all =
    let here = told e fs hs p n t.found.within is w all in
    record {
      tested = t.tested ∙ skip (first_dependent e) e (dependent-apart e) n (drop p fs) here.1 ∙ ap (first_dependent e) (drop-drop n p fs);
      before = ap (first_dependent e) (take-add p n fs) ∙ none-more e (take p fs) (take n (drop p fs)) t.before (none-dependent e (take n (drop p fs)) here.1);
      found = found-skipped (serials_behind e) e fs b p n (behind-apart e) t.found here.0 here.1;
    }

-- ---- the next one is independent

stepped : (e : Entry) (fs : List Entry) (b c : List ℕ) (p : ℕ) (f : Entry) → TestedTo e fs b p → slice_get fs p ≡ Some f → independent e f ≡ true → b ++ serials_behind e (f ∷ drop (p + 1) fs) ≡ c ++ serials_behind e (drop (p + 1) fs) → TestedTo e fs c (p + 1)
stepped e fs b c p f t g n s = record {
  tested = t.tested ∙ ap (first_dependent e) (drop_found fs p f g) ∙ dependent-next e f (drop (p + 1) fs) n;
  before = ap (first_dependent e) (take-more fs p f g) ∙ independent-more e (take p fs) f t.before n;
  found = found-next (serials_behind e) fs b c p f t.found g s;
}

pub next-apart : {e : Entry} {fs : List Entry} {b : List ℕ} {p : ℕ} {f : Entry} → TestedTo e fs b p → slice_get fs p ≡ Some f → apart e f ≡ true → TestedTo e fs b (p + 1)
next-apart {e = e} {fs = fs} {b = b} {p = p} {f = f} t g a = stepped e fs b b p f t g (independent-apart e f a) (ap (λ (l : List ℕ). b ++ l) (behind-apart e f (drop (p + 1) fs) a))

pub next-behind : {e : Entry} {fs : List Entry} {b : List ℕ} {p : ℕ} {f : Entry} → TestedTo e fs b p → slice_get fs p ≡ Some f → apart e f ≡ false → stands_behind e f ≡ true → TestedTo e fs (b ++ f.0.0 ∷ []) (p + 1)
next-behind {e = e} {fs = fs} {b = b} {p = p} {f = f} t g a s =
    stepped e fs b (b ++ f.0.0 ∷ []) p f t g (independent-behind e f a s)
    (ap (λ (l : List ℕ). b ++ l) (behind-next e f (drop (p + 1) fs) a) ∙ sym (append_assoc b (f.0.0 ∷ []) (serials_behind e (drop (p + 1) fs))))

-- ---- how it ends

pub tested-all : {e : Entry} {fs : List Entry} {b : List ℕ} {p : ℕ} → TestedTo e fs b p → length fs ≤ p → (first_dependent e fs ≡ None) × (b ≡ serials_behind e fs)
tested-all {e = e} {fs = fs} {b = b} {p = p} t h = (t.tested ∙ ap (first_dependent e) (drop_all p fs h), found-all (serials_behind e) fs b p refl t.found h)

depends : (e f : Entry) (fs : List Entry) → independent e f ≡ false → first_dependent e (f ∷ fs) ≡ Some f.0.0
depends e f fs i = ap (λ (b : Bool). cond b (first_dependent e fs) (Some f.0.0)) i

pub first-dependent : {e : Entry} {fs : List Entry} {b : List ℕ} {p : ℕ} {f : Entry} → TestedTo e fs b p → slice_get fs p ≡ Some f → apart e f ≡ false → stands_behind e f ≡ false → first_dependent e fs ≡ Some f.0.0
first-dependent {e = e} {fs = fs} {b = b} {p = p} {f = f} t g a s =
    t.tested ∙ ap (first_dependent e) (drop_found fs p f g) ∙ depends e f (drop (p + 1) fs) (ap (λ (x : Bool). x || stands_behind e f) a ∙ s)

pub runs-out : {e : Entry} {fs : List Entry} {b : List ℕ} {p : ℕ} {f : Entry} → TestedTo e fs b p → slice_get fs p ≡ Some f → apart e f ≡ false → stands_behind e f ≡ true → RunsOutAmong e fs
runs-out {e = e} {fs = fs} {b = b} {p = p} {f = f} t g a s = record {
  tested = p + 1;
  independent = (next-behind t g a s).before;
  some_behind = λ h. some-behind e (take p fs) f a (ap (serials_behind e) (sym (take-more fs p f g)) ∙ h);
}
