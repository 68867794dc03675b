-- What a list of entries gives, found up to a place: what was found, and what those from that place on give, is all of it.
use Rattle.std.proofs.Common.{◌≡◌, ◌∙◌, ◌+◌, ◌-◌, ◌≤◌, ℕ, zero, suc, true, List, [], ◌∷◌, ◌++◌, length, ltb, get_or, map, take, drop, slice_get, Some, refl, sym, ap, arith}
use Rattle.std.proofs.lemmas.Bool.{ltb-true}
use Rattle.std.proofs.lemmas.List.{append-nil, drop-drop, drop-map, drop_all, length-drop, length-map, length-take, take_rest}
use Rattle.std.proofs.lemmas.List.Elements.{All-head, All-tail}
use Rattle.std.proofs.lemmas.Option.{slice_get_read, slice_get_within}
use Rattle.balise_rules.specs.Paths.{Entry, apart}
use Rattle.balise_edits.specs.Homes.{number_at, AllApart}
use Rattle.balise_plan.proofs.GroupLists.{drop_found}

pub record FoundTo (gives : List Entry → List ℕ) (fs : List Entry) (found : List ℕ) (n : ℕ) : Type 0 where
  pub within : n ≤ length fs
  pub whole : gives fs ≡ found ++ gives (drop n fs)

-- where each entry that is apart leaves what a list gives, so do the first ones together
pub skip : {X : Type 0} (F : List Entry → X) (e : Entry) → ((f : Entry) (fs : List Entry) → apart e f ≡ true → F (f ∷ fs) ≡ F fs) → (n : ℕ) (fs : List Entry) → AllApart e (take n fs) → F fs ≡ F (drop n fs)
skip F e leaves zero fs all = refl
skip F e leaves (suc n) [] all = refl
skip F e leaves (suc n) (f ∷ fs) all = leaves f fs (All-head (λ g. apart e g ≡ true) f (take n fs) all) ∙ skip F e leaves n fs (All-tail (λ g. apart e g ≡ true) f (take n fs) all)

pub found-skipped : (gives : List Entry → List ℕ) (e : Entry) (fs : List Entry) (found : List ℕ) (p n : ℕ) → ((f : Entry) (fs : List Entry) → apart e f ≡ true → gives (f ∷ fs) ≡ gives fs)
    → FoundTo gives fs found p → p + n ≤ length fs → AllApart e (take n (drop p fs)) → FoundTo gives fs found (p + n)
found-skipped gives e fs found p n leaves t w all = record {
  within = w;
  whole = t.whole ∙ ap (λ (l : List ℕ). found ++ l) (skip gives e leaves n (drop p fs) all ∙ ap gives (drop-drop n p fs));
}

-- the entries that the numbers of their homes tell
pub told : (e : Entry) (fs : List Entry) (hs : List ℕ) (p n : ℕ) → p ≤ length fs → hs ≡ map number_at fs → n ≤ length (take (length hs - p) (drop p hs))
    → ((gs : List Entry) → take (length hs - p) (drop p hs) ≡ map number_at gs → AllApart e (take n gs)) → (p + n ≤ length fs) × AllApart e (take n (drop p fs))
told e fs hs p n l is w all =
    let long : length hs ≡ length fs = ap (λ (ns : List ℕ). length ns) is ∙ length-map fs number_at in
    let here : take (length hs - p) (drop p hs) ≡ map number_at (drop p fs) = take_rest hs p ∙ ap (drop p) is ∙ drop-map number_at p fs in
    (omega (arith, long, w, l, length-take (length hs - p) (drop p hs), length-drop p hs), all (drop p fs) here)

-- the one that a look-up finds
pub found-at : (fs : List Entry) (n : ℕ) (f : Entry) → true ≡ ltb n (length fs) → f ≡ get_or fs n f → slice_get fs n ≡ Some f
found-at fs n f l is = slice_get_read fs (length fs) n f refl (ltb-true n (length fs) (sym l)) is

pub found-next : (gives : List Entry → List ℕ) (fs : List Entry) (found more : List ℕ) (p : ℕ) (f : Entry) → FoundTo gives fs found p → slice_get fs p ≡ Some f
    → found ++ gives (f ∷ drop (p + 1) fs) ≡ more ++ gives (drop (p + 1) fs) → FoundTo gives fs more (p + 1)
found-next gives fs found more p f t g s = record {
  within = omega (arith, slice_get_within fs p f g);
  whole = t.whole ∙ ap (λ (l : List Entry). found ++ gives l) (drop_found fs p f g) ∙ s;
}

pub found-all : (gives : List Entry → List ℕ) (fs : List Entry) (found : List ℕ) (p : ℕ) → gives [] ≡ [] → FoundTo gives fs found p → length fs ≤ p → found ≡ gives fs
found-all gives fs found p none t h = sym (t.whole ∙ ap (λ (l : List ℕ). found ++ l) (ap gives (drop_all p fs h) ∙ none) ∙ append-nil found)
