-- What acceptance says: an anchor and a telegram stand, and the telegram has what the edit asks of it.
-- From whether something is found.
use Rattle.std.proofs.Common.{◌≡◌, false, not, List, Option, Some, None, is_some, is_none, refl, sym, ap, subst}
use Rattle.std.proofs.lemmas.Bool.{true≢false}
use Rattle.balise_rules.specs.declared.tag.Tag.{Tag}
use Rattle.balise_rules.specs.Tagged.{find, stands}
use Rattle.balise_rules.specs.Tags.{same_tag}
use Rattle.balise_rules.specs.Telegram.{Telegram}
use Rattle.balise_rules.specs.Edits.{Edit}
use Rattle.balise_rules.specs.Accepting.{Stands, AcceptedIn, AcceptedAt}
use Rattle.balise_rules.proofs.Cases.{found}

pub there : {A : Type 0} → (o : Option A) → is_none o ≡ false → (a : A) × (o ≡ Some a)
there None e = absurd (true≢false e)
there (Some a) e = (a, refl)

pub is_there : {A : Type 0} → (o : Option A) → (a : A) → o ≡ Some a → is_none o ≡ false
is_there o a e = ap is_none e

pub isnt : {A : Type 0} → (o : Option A) → is_some o ≡ false → o ≡ None
isnt None e = refl
isnt (Some a) e = absurd (true≢false e)

-- an anchor stands
pub stands_to : {A : Type 0} → (a : Option Tag) → (xs : List (Tag × A)) → not (stands same_tag a xs) ≡ false → Stands a xs
stands_to None xs e = tt
stands_to (Some t) xs e = found (find same_tag t xs) (λ n. absurd (let w = simp n at e in true≢false w)) (λ x q. (x, q))

pub stands_from : {A : Type 0} → (a : Option Tag) → (xs : List (Tag × A)) → Stands a xs → not (stands same_tag a xs) ≡ false
stands_from None xs s = refl
stands_from (Some t) xs s = ap (λ o. not (is_some o)) s.1

pub accepted_here : (e : Edit) → (o : Option Telegram) → AcceptedAt e o → (y : Telegram) × (o ≡ Some y) × AcceptedIn e y
accepted_here e None h = absurd h
accepted_here e (Some y) h = (y, refl, h)

pub accepted_at : (e : Edit) → (o : Option Telegram) → (y : Telegram) → o ≡ Some y → AcceptedIn e y → AcceptedAt e o
accepted_at e o y q h = subst (AcceptedAt e) (sym q) h
