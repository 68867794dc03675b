-- Entries that get another anchor.
use Rattle.std.proofs.Common.{◌≡◌, ◌∙◌, List, [], ◌∷◌, ℕ, Bool, true, false, cond, map, Option, refl, ap}
use Rattle.balise_rules.specs.declared.tag.Tag.{Tag}
use Rattle.balise_rules.specs.Paths.{Entry}
use Rattle.balise_edits.specs.Anchors.{hung_on}
use Rattle.balise_history.specs.Lists.{is_among, entries_re_anchored}

-- one entry, where its serial is among these
abbrev pub hung_in : Option Tag → List ℕ → Entry → Entry
hung_in a serials e = cond (is_among e.0.0 serials) (hung_on a e) e

pub hung-none : (a : Option Tag) (es : List Entry) → entries_re_anchored a [] es ≡ es
hung-none a [] = refl
hung-none a (e ∷ es) = ap (λ fs. e ∷ fs) (hung-none a es)

-- what a new anchor leaves of an entry it leaves of all of them
pub kept-hung : {X : Type 0} (f : Entry → X) → ((a : Option Tag) (e : Entry) → f (hung_on a e) ≡ f e) → (a : Option Tag) (B : List ℕ) (es : List Entry) → map f (entries_re_anchored a B es) ≡ map f es
kept-hung f same a B [] = refl
kept-hung f same a B (e ∷ es) = ap (λ x. x ∷ map f (entries_re_anchored a B es)) (one (is_among e.0.0 B)) ∙ ap (λ xs. f e ∷ xs) (kept-hung f same a B es)
  where
    one : (c : Bool) → f (cond c (hung_on a e) e) ≡ f e
    one true = same a e
    one false = refl
