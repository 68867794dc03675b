-- What the code learns of a place beside another, and what a set of a few places holds once it is made.
use Rattle.std.proofs.Common.{◌≡◌, ◌∙◌, Bool, true, List, ℕ, Option, insert, sym, ap, subst}
use Rattle.std.specs.Option.{IfSome}
use Rattle.std.proofs.lemmas.Option.{IfSome_then}
use Rattle.std.specs.BTreeSet.{IsOrdered}
use Rattle.std.specs.List.Sorted.{IsStrictlySortedBy}
use Rattle.std.specs.declared.cmp.Ordering.{Ordering}
use Rattle.std.specs.Ordering.{is_eq}
use Rattle.balise_index.specs.declared.link_place.LinkPlace.{LinkPlace}
use Rattle.balise_index.specs.declared.links.Held.{Held}
use Rattle.balise_index.specs.LinkSet.{places_held, PutsIn}
use Rattle.balise_index.specs.Places.{Links, compare_place, is_place}
use Rattle.balise_index.proofs.places.Ranked.{puts-in}

-- two places compare as those that were read of them
pub compared : {v w x y : LinkPlace} {o p : Ordering} → v ≡ w → x ≡ y → o ≡ compare_place v x → o ≡ p → compare_place w y ≡ p
compared {v} {w} {x} {y} d e f g = ap (compare_place w) (sym e) ∙ ap (λ u. compare_place u x) (sym d) ∙ sym f ∙ g

-- a place is another if it is the one that was read of it
pub told : (w : LinkPlace) {x y : LinkPlace} {o : Ordering} {b : Bool} → x ≡ y → o ≡ compare_place w x → is_eq o ≡ b → is_place w y ≡ b
told w e f g = ap is_eq (ap (compare_place w) (sym e) ∙ sym f) ∙ g

-- a set that was made of places in order, if it could be, is in order
pub made-ordered : (r : Option Held) (ks : List LinkPlace) → IfSome r (λ h. places_held h ≡ record { keys = ks }) → IsStrictlySortedBy compare_place ks → IfSome r (λ h. IsOrdered compare_place (places_held h))
made-ordered r ks made s = IfSome_then r made (λ h e. subst (IsOrdered compare_place) (sym e) s)

-- a set that was made of places and one more, if it could be, has that one too
pub made-put : (r : Option Held) (vs : List LinkPlace) (i : ℕ) {u w : LinkPlace} → u ≡ w → IfSome r (λ h. places_held h ≡ record { keys = insert vs i u }) → IfSome r (λ h. PutsIn vs (places_held h).keys w true)
made-put r vs i {u} same made = IfSome_then r made
    (λ h e. subst (λ x. PutsIn vs (places_held h).keys x true) same (subst (λ (s : Links). PutsIn vs s.keys u true) (sym e) (puts-in u vs i)))
