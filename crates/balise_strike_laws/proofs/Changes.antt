-- Two changes of one list of groups or packets make the same in both orders, where they are apart.
-- Proves it for all pairs of the four changes.
-- From the laws of tagged lists: two insertions, an insertion and a removal, two removals, and a change of each item with each of these.
use Rattle.std.proofs.Common.{◌≡◌, false, List, Some, sym, ap, ◌∙◌}
use Rattle.balise_rules.specs.declared.tag.Tag.{Tag}
use Rattle.balise_rules.specs.Tagged.{same_spot, find, put, each, Distinct, Change, Each, Put, Take, Move, changed}
use Rattle.balise_rules.specs.Tags.{same_tag}
use Rattle.balise_rules.proofs.Tests.{tag_test}
use Rattle.balise_rules.proofs.Lists.{without-without, without-put, put-put, each-put, each-without}
use Rattle.balise_rules.proofs.Each.{each-each}
use Rattle.balise_rules.proofs.Moved.{each-move, put-move, take-move, move-move}

-- what has to be apart for two changes of a list
abbrev pub ChangesApart : {A : Type 0} → Change Tag A → Change Tag A → List (Tag × A) → Type 0
ChangesApart {A} (Each f) (Each g) xs = (k : Tag) → (x : A) → find same_tag k xs ≡ Some x → f k (g k x) ≡ g k (f k x)
ChangesApart (Each f) (Put a z) xs = f z.0 z.1 ≡ z.1
ChangesApart (Put a z) (Each f) xs = f z.0 z.1 ≡ z.1
ChangesApart (Put a z) (Put b w) xs = (same_spot same_tag a b ≡ false) × (same_spot same_tag a (Some w.0) ≡ false) × (same_spot same_tag b (Some z.0) ≡ false)
ChangesApart (Put a z) (Take q) xs = (same_tag q z.0 ≡ false) × (same_spot same_tag (Some q) a ≡ false)
ChangesApart (Take q) (Put a z) xs = (same_tag q z.0 ≡ false) × (same_spot same_tag (Some q) a ≡ false)
ChangesApart (Put a z) (Move q c) xs = (same_tag q z.0 ≡ false) × (same_spot same_tag (Some q) a ≡ false) × (same_spot same_tag a c ≡ false) × (same_spot same_tag c (Some z.0) ≡ false)
ChangesApart (Move q c) (Put a z) xs = (same_tag q z.0 ≡ false) × (same_spot same_tag (Some q) a ≡ false) × (same_spot same_tag a c ≡ false) × (same_spot same_tag c (Some z.0) ≡ false)
ChangesApart (Take p) (Move q c) xs = (same_tag p q ≡ false) × (same_spot same_tag (Some p) c ≡ false)
ChangesApart (Move q c) (Take p) xs = (same_tag p q ≡ false) × (same_spot same_tag (Some p) c ≡ false)
ChangesApart (Move p a) (Move q c) xs = (same_tag p q ≡ false) × (same_spot same_tag a (Some q) ≡ false) × (same_spot same_tag c (Some p) ≡ false) × (same_spot same_tag a c ≡ false)
ChangesApart x y xs = Unit {0}

pub changes-commute : {A : Type 0} → (x y : Change Tag A) → (xs : List (Tag × A)) → Distinct same_tag xs → ChangesApart x y xs →
    changed same_tag x (changed same_tag y xs) ≡ changed same_tag y (changed same_tag x xs)
changes-commute (Each f) (Each g) xs u h = each-each tag_test f g g f xs u h
changes-commute (Each f) (Put a z) xs u h = each-put same_tag f a z xs ∙ ap (λ v. put same_tag a (z.0, v) (each f xs)) h
changes-commute (Put a z) (Each f) xs u h = sym (each-put same_tag f a z xs ∙ ap (λ v. put same_tag a (z.0, v) (each f xs)) h)
changes-commute (Each f) (Take p) xs u h = each-without same_tag f p xs
changes-commute (Each f) (Move p a) xs u h = each-move tag_test f p a xs
changes-commute (Take p) (Each f) xs u h = sym (each-without same_tag f p xs)
changes-commute (Move p a) (Each f) xs u h = sym (each-move tag_test f p a xs)
changes-commute (Put a z) (Put b w) xs u h = put-put tag_test a b z w h.0 h.1 h.2 xs
changes-commute (Put a z) (Take q) xs u h = sym (without-put tag_test q a z h.0 h.1 xs)
changes-commute (Take q) (Put a z) xs u h = without-put tag_test q a z h.0 h.1 xs
changes-commute (Take p) (Take q) xs u h = without-without same_tag p q xs
changes-commute (Put a z) (Move q c) xs u h = put-move tag_test a c q z xs h.0 h.1 h.2 h.3
changes-commute (Move q c) (Put a z) xs u h = sym (put-move tag_test a c q z xs h.0 h.1 h.2 h.3)
changes-commute (Take p) (Move q c) xs u h = take-move tag_test p q c xs h.0 h.1
changes-commute (Move q c) (Take p) xs u h = sym (take-move tag_test p q c xs h.0 h.1)
changes-commute (Move p a) (Move q c) xs u h = move-move tag_test p q a c xs h.0 h.1 h.2 h.3
