-- An anchor that stands: what is put in after it, or moved there, is found and has the anchor's next neighbour.
-- From the laws of tagged lists.
-- Packets and groups are put in, and packets are moved, after such an anchor.
use Rattle.std.proofs.Common.{◌≡◌, false, List, [], ◌∷◌, Option, Some, None, refl, sym, ap, ◌∙◌}
use Rattle.balise_rules.specs.declared.tag.Tag.{Tag}
use Rattle.balise_rules.specs.Tagged.{find, behind, next, same_spot, put, without, move}
use Rattle.balise_rules.specs.Tags.{same_tag}
use Rattle.balise_rules.specs.Accepting.{Stands}
use Rattle.balise_rules.proofs.Tests.{split_on, split_keys, flip_no, tag_test}
use Rattle.balise_rules.proofs.Lists.{find-put, find-without, find-without_same}
use Rattle.balise_rules.proofs.Moved.{move_is, find-move}

-- what is put in is found
pub find-put_same : {A : Type 0} → (a : Option Tag) → (z : Tag × A) → (xs : List (Tag × A)) → Stands a xs → find same_tag z.0 xs ≡ None → find same_tag z.0 (put same_tag a z xs) ≡ Some z.1
find-put_same None z xs s n = let r = tag_test.itself z.0 in simp r
find-put_same (Some a) z [] s n = let k = s.1 in absurd cc
find-put_same (Some a) z (y ∷ ys) s n =
    let r = tag_test.itself z.0 in
    split_on (same_tag z.0 y.0) (λ d. absurd (let k = simp d at n in cc))
    (λ d. let k : find same_tag z.0 ys ≡ None = simp d at n in
    split_on (same_tag a y.0) (λ e. simp (e, d, r)) (λ e. let w : find same_tag a ys ≡ Some s.0 = simp e at s.1 in simp (e, d) (find-put_same (Some a) z ys (s.0, w) k)))

-- an anchor other than what is taken out stands without it
pub stands-without : {A : Type 0} → (a : Option Tag) → (p : Tag) → (xs : List (Tag × A)) → same_spot same_tag a (Some p) ≡ false → Stands a xs → Stands a (without same_tag p xs)
stands-without None p xs n s = tt
stands-without (Some a) p xs n s = (s.0, find-without tag_test a p n xs ∙ s.1)

pub stands-put : {A : Type 0} → (a : Option Tag) → (w : Tag × A) → (xs : List (Tag × A)) → same_spot same_tag (Some w.0) a ≡ false → Stands a xs →
    Stands a (put same_tag a w xs)
stands-put None w xs n s = tt
stands-put (Some t) w xs n s = (s.0, find-put same_tag t (Some t) w (flip_no tag_test w.0 t n) xs ∙ s.1)

pub stands-move : {A : Type 0} → (a : Option Tag) → (p : Tag) → (xs : List (Tag × A)) → same_spot same_tag a (Some p) ≡ false → Stands a xs → Stands a (move same_tag p a xs)
stands-move None p xs n s = tt
stands-move (Some t) p xs n s = (s.0, find-move tag_test t p (Some t) n xs ∙ s.1)

-- an anchor that stands isn't what doesn't
pub anchor-other : {A : Type 0} → (a : Option Tag) → (z : Tag) → (xs : List (Tag × A)) → Stands a xs → find same_tag z xs ≡ None → same_spot same_tag (Some z) a ≡ false
anchor-other None z xs s n = refl
anchor-other (Some t) z xs s n = split_keys tag_test z t (λ e q. absurd (let k = sym s.1 ∙ ap (λ u. find same_tag u xs) (sym q) ∙ n in cc)) (λ e. e)

-- what comes after what was put in is what came after its anchor
pub behind-put_in : {A : Type 0} → (a : Option Tag) → (z : Tag × A) → (xs : List (Tag × A)) → Stands a xs → find same_tag z.0 xs ≡ None →
    behind same_tag z.0 (put same_tag a z xs) ≡ next same_tag a xs
behind-put_in None z xs s n = let r = tag_test.itself z.0 in simp r
behind-put_in (Some a) z [] s n = let k = s.1 in absurd (cc)
behind-put_in (Some a) z (y ∷ ys) s n =
    let r = tag_test.itself z.0 in
    split_on (same_tag z.0 y.0) (λ d. let k = simp d at n in absurd (cc))
    (λ d. let k : find same_tag z.0 ys ≡ None = simp d at n in
    split_on (same_tag a y.0) (λ e. simp (e, d, r)) (λ e. let w : find same_tag a ys ≡ Some s.0 = simp e at s.1 in simp (e, d) (behind-put_in (Some a) z ys (s.0, w) k)))

-- what was moved is found as it was
pub find-move_same : {A : Type 0} → (p : Tag) → (a : Option Tag) → (x : A) → (xs : List (Tag × A)) → find same_tag p xs ≡ Some x → Stands a xs → same_spot same_tag a (Some p) ≡ false → find same_tag p (move same_tag p a xs) ≡ Some x
find-move_same p a x xs h s n =
    ap (find same_tag p) (move_is same_tag p a x xs h) ∙ find-put_same a (p, x) (without same_tag p xs) (stands-without a p xs n s) (find-without_same same_tag p xs)
