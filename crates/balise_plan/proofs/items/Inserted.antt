-- One item more in a tagged list, at any place.
use Rattle.std.proofs.Common.{◌≡◌, ◌+◌, true, false, All, List, [], ◌∷◌, ◌++◌, Some, None, refl, sym, ap, subst, ◌∙◌, arith}
use Rattle.std.proofs.lemmas.Bool.{true≢false}
use Rattle.std.proofs.lemmas.List.Elements.{All-head, All-tail, All-cons}
use Rattle.std.proofs.lemmas.List.{append-nil}
use Rattle.balise_rules.specs.declared.tag.Tag.{Tag}
use Rattle.balise_rules.specs.Tagged.{find, Distinct, put_behind, put_in_front, stands}
use Rattle.balise_rules.specs.Tags.{same_tag}
use Rattle.balise_rules.specs.Packet.{Packet, width}
use Rattle.balise_rules.specs.Telegram.{used}
use Rattle.balise_rules.proofs.Tests.{split_on, flip_no, tag_test}
use Rattle.balise_index.specs.declared.spot.Spot.{Spot}
use Rattle.balise_index.specs.declared.spot.Spot.TheVariants.{After, Before}
use Rattle.balise_index.specs.AtSpot.{put_in, spot_stands}

-- z stands between two parts of a list
pub record Between {A : Type 0} (z : Tag × A) (xs ys : List (Tag × A)) : Type 0 where
  pub left : List (Tag × A)
  pub right : List (Tag × A)
  pub before : xs ≡ left ++ right
  pub after : ys ≡ left ++ z ∷ right

further : {A : Type 0} {z : Tag × A} {xs ys : List (Tag × A)} (x : Tag × A) → Between z xs ys → Between z (x ∷ xs) (x ∷ ys)
further x b = record { left = x ∷ b.left; right = b.right; before = ap (λ l. x ∷ l) b.before; after = ap (λ l. x ∷ l) b.after }

behind : {A : Type 0} (k : Tag) (z : Tag × A) (xs : List (Tag × A)) → stands same_tag (Some k) xs ≡ true → Between z xs (put_behind same_tag k z xs)
behind k z [] h = absurd (true≢false (sym h))
behind k z (x ∷ xs) h =
    split_on (same_tag k x.0)
    (λ e. simp e (record { left = x ∷ []; right = xs; before = refl; after = refl }))
    (λ e. let w : stands same_tag (Some k) xs ≡ true = simp e at h in simp e (further x (behind k z xs w)))

in-front : {A : Type 0} (k : Tag) (z : Tag × A) (xs : List (Tag × A)) → stands same_tag (Some k) xs ≡ true → Between z xs (put_in_front same_tag k z xs)
in-front k z [] h = absurd (true≢false (sym h))
in-front k z (x ∷ xs) h =
    split_on (same_tag k x.0)
    (λ e. simp e (record { left = []; right = x ∷ xs; before = refl; after = refl }))
    (λ e. let w : stands same_tag (Some k) xs ≡ true = simp e at h in simp e (further x (in-front k z xs w)))

pub put-between : {A : Type 0} (s : Spot Tag) (z : Tag × A) (xs : List (Tag × A)) → spot_stands s xs ≡ true → Between z xs (put_in s z xs)
put-between (After None) z xs h = record { left = []; right = xs; before = refl; after = refl }
put-between (After (Some k)) z xs h = behind k z xs h
put-between (Before None) z xs h = record { left = xs; right = []; before = sym (append-nil xs); after = refl }
put-between (Before (Some k)) z xs h = in-front k z xs h

-- ---- by the parts

other : {A : Type 0} (r : Tag) (z : Tag × A) (left right : List (Tag × A)) → same_tag r z.0 ≡ false → find same_tag r (left ++ z ∷ right) ≡ find same_tag r (left ++ right)
other r z [] right d = simp d
other r z (x ∷ left) right d = let ih = other r z left right d in split_on (same_tag r x.0) (λ e. simp e) (λ e. simp e ih)

itself : {A : Type 0} (z : Tag × A) (left right : List (Tag × A)) → find same_tag z.0 (left ++ right) ≡ None → find same_tag z.0 (left ++ z ∷ right) ≡ Some z.1
itself z [] right n = let r = tag_test.itself z.0 in simp r
itself z (x ∷ left) right n =
    split_on (same_tag z.0 x.0)
    (λ e. absurd (let h = simp e at n in cc))
    (λ e. let h : find same_tag z.0 (left ++ right) ≡ None = simp e at n in simp e (itself z left right h))

distinct : {A : Type 0} (z : Tag × A) (left right : List (Tag × A)) → find same_tag z.0 (left ++ right) ≡ None → Distinct same_tag (left ++ right) → Distinct same_tag (left ++ z ∷ right)
distinct z [] right n u = (n, u)
distinct z (x ∷ left) right n u =
    split_on (same_tag z.0 x.0)
    (λ e. absurd (let h = simp e at n in cc))
    (λ e. let h : find same_tag z.0 (left ++ right) ≡ None = simp e at n in
    (other x.0 z left right (flip_no tag_test z.0 x.0 e) ∙ u.0, distinct z left right h u.1))

all : {A : Type 0} (P : A → Type 0) (z : Tag × A) (left right : List (Tag × A)) → P z.1 → All (λ y. P y.1) (left ++ right) → All (λ y. P y.1) (left ++ z ∷ right)
all P z [] right h a = All-cons (λ y. P y.1) z right h a
all P z (x ∷ left) right h a = All-cons (λ y. P y.1) x (left ++ z ∷ right) (All-head (λ y. P y.1) x (left ++ right) a) (all P z left right h (All-tail (λ y. P y.1) x (left ++ right) a))

more : (z : Tag × Packet) (left right : List (Tag × Packet)) → used (left ++ z ∷ right) ≡ used (left ++ right) + width z.1
more z [] right = omega arith
more z (x ∷ left) right = let ih = more z left right in omega (arith, ih)

-- ---- with one item between two parts

module _ {A : Type 0} {z : Tag × A} {xs ys : List (Tag × A)} (b : Between z xs ys) where
  pub between-other : (r : Tag) → same_tag r z.0 ≡ false → find same_tag r ys ≡ find same_tag r xs
  between-other r d = ap (find same_tag r) b.after ∙ other r z b.left b.right d ∙ ap (find same_tag r) (sym b.before)

  module _ (absent : find same_tag z.0 xs ≡ None) where
    pub between-itself : find same_tag z.0 ys ≡ Some z.1
    between-itself = ap (find same_tag z.0) b.after ∙ itself z b.left b.right (ap (find same_tag z.0) (sym b.before) ∙ absent)

    pub between-distinct : Distinct same_tag xs → Distinct same_tag ys
    between-distinct u = subst (Distinct same_tag) (sym b.after) (distinct z b.left b.right (ap (find same_tag z.0) (sym b.before) ∙ absent) (subst (Distinct same_tag) b.before u))

  pub between-all : (P : A → Type 0) → P z.1 → All (λ y. P y.1) xs → All (λ y. P y.1) ys
  between-all P h a = subst (All (λ y. P y.1)) (sym b.after) (all P z b.left b.right h (subst (All (λ y. P y.1)) b.before a))

pub between-used : {z : Tag × Packet} {xs ys : List (Tag × Packet)} → Between z xs ys → used ys ≡ used xs + width z.1
between-used {z = z} b = ap used b.after ∙ more z b.left b.right ∙ ap (λ l. used l + width z.1) (sym b.before)
