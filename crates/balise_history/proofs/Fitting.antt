-- The lines of a journal that fit, one after another.
use Rattle.std.proofs.Common.{◌≡◌, ◌∙◌, ℕ, zero, suc, List, [], ◌∷◌, ◌++◌, drop, take, Option, Some, None, Result, Ok, ap}
use Rattle.balise_rules.specs.Journal.{Line}
use Rattle.balise_rules.specs.Opening.{from_entries, opened_at, or_place, with_entries, with_entry}
use Rattle.balise_rules.specs.Plan.{Plan}
use Rattle.balise_rules.specs.Session.{State}
use Rattle.balise_rules.proofs.Cases.{unok}

abbrev Read : Type 0
Read = Result State (Option ℕ)

-- one line more
with-more : (k : ℕ) (ls : List Line) (l : Line) (s t u : State) → ◌≡◌ {A = Read} (with_entries k ls s) (Ok t) → with_entry t l ≡ Some u → ◌≡◌ {A = Read} (with_entries k (ls ++ l ∷ []) s) (Ok u)
with-more k [] l s t u h e =
    ap (λ (x : State). or_place (Some k) (with_entry x l) (with_entries (suc k) [])) (unok h) ∙ ap (λ (o : Option State). or_place (Some k) o (with_entries (suc k) [])) e
with-more k (x ∷ xs) l s t u h e = by (with_entry s x) (λ v w. with-more (suc k) xs l v t u w e) h
  where
    by : (o : Option State) → ((v : State) → ◌≡◌ {A = Read} (with_entries (suc k) xs v) (Ok t) → ◌≡◌ {A = Read} (with_entries (suc k) (xs ++ l ∷ []) v) (Ok u)) →
        ◌≡◌ {A = Read} (or_place (Some k) o (with_entries (suc k) xs)) (Ok t) → ◌≡◌ {A = Read} (or_place (Some k) o (with_entries (suc k) (xs ++ l ∷ []))) (Ok u)
    by None r h = absurd cc
    by (Some v) r h = r v h

pub one-line-more : (plan : Plan) (next : ℕ) (ls : List Line) (l : Line) (t u : State) → ◌≡◌ {A = Read} (from_entries plan next ls) (Ok t) → with_entry t l ≡ Some u → ◌≡◌ {A = Read} (from_entries plan next (ls ++ l ∷ [])) (Ok u)
one-line-more plan next ls l t u h e = by (opened_at plan next) h
  where
    by : (o : Option State) → ◌≡◌ {A = Read} (or_place None o (with_entries 0 ls)) (Ok t) → ◌≡◌ {A = Read} (or_place None o (with_entries 0 (ls ++ l ∷ []))) (Ok u)
    by None h = absurd cc
    by (Some v) h = with-more 0 ls l v t u h e

-- what is taken and left where one thing more is taken
pub take-next : {A : Type 0} (n : ℕ) (xs : List A) (y : A) (ys : List A) → drop n xs ≡ y ∷ ys → take (suc n) xs ≡ take n xs ++ y ∷ []
take-next zero (x ∷ xs) y ys h = cc
take-next (suc n) (x ∷ xs) y ys h = ap (λ l. x ∷ l) (take-next n xs y ys h)
take-next n xs y ys h = absurd cc

pub drop-next : {A : Type 0} (n : ℕ) (xs : List A) (y : A) (ys : List A) → drop n xs ≡ y ∷ ys → drop (suc n) xs ≡ ys
drop-next zero (x ∷ xs) y ys h = cc
drop-next (suc n) (x ∷ xs) y ys h = drop-next n xs y ys h
drop-next n xs y ys h = absurd cc
