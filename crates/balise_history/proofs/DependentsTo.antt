-- The entries that depend on one, found up to a place.
use Rattle.std.proofs.Common.{◌≡◌, ◌∙◌, ◌+◌, ◌-◌, ◌≤◌, ℕ, suc, true, false, eqb, List, [], ◌∷◌, ◌++◌, length, map, take, drop, find, option_map, ok_or, slice_get, Some, None, Ok, Err, sym, ap, append_assoc}
use Rattle.balise_rules.specs.declared.refusal.Refusal.TheVariants.{NoSuchEdit}
use Rattle.balise_rules.specs.Behind.{independent}
use Rattle.balise_rules.specs.Paths.{Entry}
use Rattle.balise_rules.specs.Session.{later}
use Rattle.balise_edits.specs.Homes.{number_at, AllApart}
use Rattle.balise_strike_laws.specs.InSession.{Rising}
use Rattle.balise_history.specs.Dependents.{dependents, dependents_of}
use Rattle.balise_history.specs.Lists.{items_of}
use Rattle.balise_history.proofs.Entries.{cut}
use Rattle.balise_history.proofs.FoundTo.{FoundTo, found-next, found-skipped, told}
use Rattle.balise_history.proofs.Tested.{independent-apart}

abbrev pub DependentsTo : Entry → List Entry → List ℕ → ℕ → Type 0
DependentsTo e = FoundTo (dependents e)

independent-left : (e f : Entry) (fs : List Entry) → independent e f ≡ true → dependents e (f ∷ fs) ≡ dependents e fs
independent-left e f fs i = simp i

dependent-next : (e f : Entry) (fs : List Entry) → independent e f ≡ false → dependents e (f ∷ fs) ≡ f.0.0 ∷ dependents e fs
dependent-next e f fs i = simp i

-- those that the numbers of their homes tell
pub passed : (e : Entry) {fs : List Entry} {found : List ℕ} {p : ℕ} (hs : List ℕ) (n : ℕ) → DependentsTo e fs found p → hs ≡ map number_at fs → n ≤ length (take (length hs - p) (drop p hs))
    → ((gs : List Entry) → take (length hs - p) (drop p hs) ≡ map number_at gs → AllApart e (take n gs)) → DependentsTo e fs found (p + n)
passed e {fs = fs} {found = found} {p = p} hs n t is w all =
    let here = told e fs hs p n t.within is w all in
    found-skipped (dependents e) e fs found p n (λ f gs a. independent-left e f gs (independent-apart e f a)) t here.0 here.1

-- the next one is independent
pub next-independent : (e : Entry) {fs : List Entry} {found : List ℕ} {p : ℕ} {f : Entry} → DependentsTo e fs found p → slice_get fs p ≡ Some f → independent e f ≡ true → DependentsTo e fs found (p + 1)
next-independent e {fs = fs} {found = found} {p = p} {f = f} t g i = found-next (dependents e) fs found found p f t g (ap (λ (l : List ℕ). found ++ l) (independent-left e f (drop (p + 1) fs) i))

-- the next one depends on it
pub next-dependent : (e : Entry) {fs : List Entry} {found : List ℕ} {p : ℕ} {f : Entry} → DependentsTo e fs found p → slice_get fs p ≡ Some f → independent e f ≡ false → DependentsTo e fs (found ++ f.0.0 ∷ []) (p + 1)
next-dependent e {fs = fs} {found = found} {p = p} {f = f} t g i =
    found-next (dependents e) fs found (found ++ f.0.0 ∷ []) p f t g
    (ap (λ (l : List ℕ). found ++ l) (dependent-next e f (drop (p + 1) fs) i) ∙ sym (append_assoc found (f.0.0 ∷ []) (dependents e (drop (p + 1) fs))))

-- the entry at the place of its serial is the one that is asked for
pub asked : (serial n : ℕ) (es : List Entry) (e : Entry) → Rising (items_of es) → slice_get es n ≡ Some e → e.0.0 ≡ serial → dependents_of serial es ≡ Ok (dependents e (drop (suc n) es))
asked serial n es e up g s =
    let c = cut es n e up g in
    ap (λ (m : ℕ). dependents_of m es) (sym s)
    ∙ ap (λ o. ok_or (option_map (λ (x : Entry). dependents x (later e.0.0 es)) o) NoSuchEdit) c.found
    ∙ ap (λ (l : List Entry). Ok (dependents e l)) c.behind

pub none-asked : (serial : ℕ) (es : List Entry) → find (λ (e : Entry). eqb serial e.0.0) es ≡ None → dependents_of serial es ≡ Err NoSuchEdit
none-asked serial es n = ap (λ o. ok_or (option_map (λ (e : Entry). dependents e (later serial es)) o) NoSuchEdit) n
