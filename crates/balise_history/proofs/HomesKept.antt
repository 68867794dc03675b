-- The numbers of the homes of entries, beside them as they are taken out, put in and anchored anew.
use Rattle.std.proofs.Common.{◌≡◌, ◌∙◌, ℕ, suc, List, ◌∷◌, ◌++◌, map, take, drop, Option, sym, ap}
use Rattle.std.proofs.lemmas.List.{drop-map, map-append, take-append-drop, take-map}
use Rattle.balise_rules.specs.declared.tag.Tag.{Tag}
use Rattle.balise_rules.specs.Paths.{Entry}
use Rattle.balise_edits.specs.Anchors.{hung_on}
use Rattle.balise_edits.specs.Homes.{home_number, number_at}
use Rattle.balise_edits.proofs.Elsewhere.{home_anchored}
use Rattle.balise_history.specs.Lists.{entries_re_anchored}
use Rattle.balise_history.proofs.Hanging.{kept-hung}

number-hung : (a : Option Tag) (e : Entry) → number_at (hung_on a e) ≡ number_at e
number-hung a e = ap home_number (home_anchored e.0.0 a e.0.1 e.1.names)

-- those from a place on with another anchor
pub numbers-cut : (a : Option Tag) (ss : List ℕ) (n : ℕ) (xs : List Entry) → map number_at (take n xs ++ entries_re_anchored a ss (drop n xs)) ≡ map number_at xs
numbers-cut a ss n xs =
    map-append number_at (take n xs) (entries_re_anchored a ss (drop n xs)) ∙ ap (λ (ns : List ℕ). map number_at (take n xs) ++ ns) (kept-hung number_at number-hung a ss (drop n xs))
    ∙ sym (map-append number_at (take n xs) (drop n xs)) ∙ ap (map number_at) (take-append-drop n xs)

-- without the one at a place
pub numbers-without : (n : ℕ) (xs : List Entry) → map number_at (take n xs ++ drop (suc n) xs) ≡ take n (map number_at xs) ++ drop (suc n) (map number_at xs)
numbers-without n xs =
    map-append number_at (take n xs) (drop (suc n) xs) ∙ ap (λ (ns : List ℕ). ns ++ map number_at (drop (suc n) xs)) (sym (take-map number_at n xs)) ∙ ap (λ (ns : List ℕ). take n (map number_at xs) ++ ns) (sym (drop-map number_at (suc n) xs))

-- with one more at a place
pub numbers-with : (n : ℕ) (e : Entry) (xs : List Entry) → map number_at (take n xs ++ e ∷ drop n xs) ≡ take n (map number_at xs) ++ number_at e ∷ drop n (map number_at xs)
numbers-with n e xs =
    map-append number_at (take n xs) (e ∷ drop n xs) ∙ ap (λ (ns : List ℕ). ns ++ number_at e ∷ map number_at (drop n xs)) (sym (take-map number_at n xs)) ∙ ap (λ (ns : List ℕ). take n (map number_at xs) ++ number_at e ∷ ns) (sym (drop-map number_at n xs))
