-- What a change of a list asks and notes, in both orders with another change that leaves alone what it reads.
-- Proves acceptance and the noted neighbour, forward and back, and that changes of two lists that leave each other alone are apart.
-- From two cases for what comes after an anchor: it is what it was, or it was taken out and what was noted comes in its place.
use Rattle.std.proofs.Common.{◌≡◌, Bool, true, false, List, Option, Some, None, refl, sym, ap, ◌∙◌}
use Rattle.std.proofs.lemmas.Bool.{false≢true, both_ways}
use Rattle.std.specs.Option.{option_map}
use Rattle.balise_rules.specs.declared.tag.Tag.{Tag}
use Rattle.balise_rules.specs.Tagged.{same_spot, find, without, each, next, behind, Distinct, move, Change, Each, Put, Take, Move, changed}
use Rattle.balise_rules.specs.Tags.{same_tag}
use Rattle.balise_rules.specs.Accepting.{Stands}
use Rattle.balise_rules.proofs.Tests.{split_on, flip_spot, spot_itself, tag_test, spot_one}
use Rattle.balise_rules.proofs.Lists.{find-put, find-without, find-each, next-put, next-each, next-without, next-gone}
use Rattle.balise_rules.proofs.Cases.{found}
use Rattle.balise_rules.proofs.Moved.{find-move}
use Rattle.balise_strike_laws.proofs.Changes.{ChangesApart}

-- what a change asks of the list
abbrev pub Accepts : {A : Type 0} → Change Tag A → List (Tag × A) → Type 0
Accepts (Each f) xs = Unit {0}
Accepts (Put a z) xs = Stands a xs
Accepts (Take q) xs = Stands (Some q) xs
Accepts (Move q a) xs = Stands (Some q) xs × Stands a xs × (same_spot same_tag a (Some q) ≡ false) × (same_spot same_tag (next same_tag a xs) (Some q) ≡ false)

-- what a change notes: the old next neighbour of what it takes from its place
abbrev pub noted_change : {A : Type 0} → Change Tag A → List (Tag × A) → Option Tag
noted_change (Take q) xs = behind same_tag q xs
noted_change (Move q a) xs = behind same_tag q xs
noted_change x xs = None

-- a change leaves alone what comes after c
abbrev pub Free : {A : Type 0} → Change Tag A → Option Tag → Type 0
Free (Each f) c = Unit {0}
Free (Put a z) c = (same_spot same_tag c a ≡ false) × (same_spot same_tag c (Some z.0) ≡ false)
Free (Take q) c = same_spot same_tag c (Some q) ≡ false
Free (Move q a) c = (same_spot same_tag c (Some q) ≡ false) × (same_spot same_tag c a ≡ false)

-- a change takes this item from its place
abbrev pub takes : {A : Type 0} → Change Tag A → Option Tag → Bool
takes (Take q) b = same_spot same_tag (Some q) b
takes (Move q a) b = same_spot same_tag (Some q) b
takes x b = false

-- y leaves alone what x reads, when x noted n
abbrev pub Leaves : {A : Type 0} → Change Tag A → Change Tag A → Option Tag → Type 0
Leaves y (Each f) n = Unit {0}
Leaves y (Put a z) n = Free y a
Leaves y (Take p) n = Free y (Some p) × (takes y n ≡ false)
Leaves y (Move p a) n = Free y (Some p) × (takes y n ≡ false) × Free y a

abbrev pub takes_out : {A : Type 0} → Change Tag A → Bool
takes_out (Take p) = true
takes_out (Move p a) = true
takes_out x = false

pub without-move : {A : Type 0} → (c : Option Tag) → (q : Tag) → (a : Option Tag) → (xs : List (Tag × A)) → same_spot same_tag c a ≡ false →
    same_spot same_tag c (Some q) ≡ false → next same_tag c (move same_tag q a xs) ≡ next same_tag c (without same_tag q xs)
without-move c q a xs n m = found (find same_tag q xs) (λ e. simp e) (λ x e. simp e (next-put tag_test c a (q, x) n m (without same_tag q xs)))

pub next-kept : {A : Type 0} → (y : Change Tag A) → (c : Option Tag) → (xs : List (Tag × A)) → Free y c → takes y (next same_tag c xs) ≡ false →
    next same_tag c (changed same_tag y xs) ≡ next same_tag c xs
next-kept (Each f) c xs h t = next-each same_tag f c xs
next-kept (Put a z) c xs h t = next-put tag_test c a z h.0 h.1 xs
next-kept (Take q) c xs h t = next-without tag_test c q h xs t
next-kept (Move q a) c xs h t = without-move c q a xs h.1 h.0 ∙ next-without tag_test c q h.0 xs t

pub next-moved : {A : Type 0} → (y : Change Tag A) → (c : Option Tag) → (xs : List (Tag × A)) → Distinct same_tag xs → Free y c → takes y (next same_tag c xs) ≡ true →
    next same_tag c (changed same_tag y xs) ≡ noted_change y xs
next-moved (Take q) c xs u h t = next-gone tag_test c q h xs u (sym (spot_one tag_test (Some q) (next same_tag c xs) t))
next-moved (Move q a) c xs u h t = without-move c q a xs h.1 h.0 ∙ next-gone tag_test c q h.0 xs u (sym (spot_one tag_test (Some q) (next same_tag c xs) t))
next-moved y c xs u h t = absurd (false≢true t)

-- an anchor that a change leaves alone stands before it as after it
pub stands-kept : {A : Type 0} → (y : Change Tag A) → (c : Option Tag) → (xs : List (Tag × A)) → Free y c → Stands c xs → Stands c (changed same_tag y xs)
stands-kept y None xs h s = tt
stands-kept (Each f) (Some t) xs h s = (f t s.0, find-each tag_test f t xs ∙ ap (option_map (f t)) s.1)
stands-kept (Put a z) (Some t) xs h s = (s.0, find-put same_tag t a z h.1 xs ∙ s.1)
stands-kept (Take q) (Some t) xs h s = (s.0, find-without tag_test t q h xs ∙ s.1)
stands-kept (Move q a) (Some t) xs h s = (s.0, find-move tag_test t q a h.0 xs ∙ s.1)

pub stood : {A : Type 0} → (y : Change Tag A) → (c : Option Tag) → (xs : List (Tag × A)) → Free y c → Stands c (changed same_tag y xs) → Stands c xs
stood y None xs h s = tt
stood (Each f) (Some t) xs h s = found (find same_tag t xs) (λ e. let k : find same_tag t (each f xs) ≡ None = find-each tag_test f t xs ∙ ap (option_map (f t)) e in let w = s.1 in absurd (cc)) (λ x e. (x, e))
stood (Put a z) (Some t) xs h s = (s.0, sym (find-put same_tag t a z h.1 xs) ∙ s.1)
stood (Take q) (Some t) xs h s = (s.0, sym (find-without tag_test t q h xs) ∙ s.1)
stood (Move q a) (Some t) xs h s = (s.0, sym (find-move tag_test t q a h.0 xs) ∙ s.1)

pub free-takes : {A : Type 0} → (x : Change Tag A) → (c : Option Tag) → Free x c → takes x c ≡ false
free-takes (Take q) c h = flip_spot tag_test c (Some q) h
free-takes (Move q a) c h = flip_spot tag_test c (Some q) h.0
free-takes x c h = refl

pub takes-out : {A : Type 0} → (x : Change Tag A) → (b : Option Tag) → takes x b ≡ true → takes_out x ≡ true
takes-out (Take q) b h = refl
takes-out (Move q a) b h = refl
takes-out x b h = h

abbrev pub Differ : {A : Type 0} → Change Tag A → Change Tag A → Option Tag → Option Tag → Type 0
Differ x y n m = takes_out x ≡ true → takes_out y ≡ true → same_spot same_tag n m ≡ false

pub noted-forward : {A : Type 0} → (x y : Change Tag A) → (xs : List (Tag × A)) → Leaves y x (noted_change x xs) →
    noted_change x (changed same_tag y xs) ≡ noted_change x xs
noted-forward (Take p) y xs l = next-kept y (Some p) xs l.0 l.1
noted-forward (Move p a) y xs l = next-kept y (Some p) xs l.0 l.1
noted-forward x y xs l = refl

pub behind-back : {A : Type 0} → (x : Change Tag A) → (q : Tag) → (xs : List (Tag × A)) → Distinct same_tag xs → Free x (Some q) →
    (takes_out x ≡ true → same_spot same_tag (noted_change x xs) (behind same_tag q (changed same_tag x xs)) ≡ false) →
    behind same_tag q xs ≡ behind same_tag q (changed same_tag x xs)
behind-back x q xs u h d =
    split_on (takes x (behind same_tag q xs))
    (λ e. let k = next-moved x (Some q) xs u h e in
    absurd (both_ways (same_spot same_tag (noted_change x xs) (behind same_tag q (changed same_tag x xs))) (d (takes-out x (behind same_tag q xs) e)) (ap (same_spot same_tag (noted_change x xs)) k ∙ spot_itself tag_test (noted_change x xs))))
    (λ e. sym (next-kept x (Some q) xs h e))

pub noted-back : {A : Type 0} → (x y : Change Tag A) → (xs : List (Tag × A)) → Distinct same_tag xs → Leaves x y (noted_change y (changed same_tag x xs)) →
    Differ x y (noted_change x xs) (noted_change y (changed same_tag x xs)) → noted_change y xs ≡ noted_change y (changed same_tag x xs)
noted-back x (Take q) xs u l d = behind-back x q xs u l.0 (λ t. d t refl)
noted-back x (Move q a) xs u l d = behind-back x q xs u l.0 (λ t. d t refl)
noted-back x y xs u l d = refl

pub accepts-back : {A : Type 0} → (x y : Change Tag A) → (xs : List (Tag × A)) → Leaves x y (noted_change y (changed same_tag x xs)) → Accepts y (changed same_tag x xs) →
    Accepts y xs
accepts-back x (Each f) xs l s = tt
accepts-back x (Put a z) xs l s = stood x a xs l s
accepts-back x (Take q) xs l s = stood x (Some q) xs l.0 s
accepts-back x (Move q c) xs l s = (
  stood x (Some q) xs l.0 s.0,
  stood x c xs l.2 s.1,
  s.2,
  split_on (same_spot same_tag (next same_tag c xs) (Some q))
      (λ e. let w = spot_one tag_test (next same_tag c xs) (Some q) e in
      let k : takes x (next same_tag c xs) ≡ false = ap (takes x) w ∙ free-takes x (Some q) l.0 in
      let g = next-kept x c xs l.2 k in
      absurd (both_ways (same_spot same_tag (next same_tag c (changed same_tag x xs)) (Some q)) s.3 (ap (λ b. same_spot same_tag b (Some q)) g ∙ e)))
      (λ e. e),
)

pub accepts-forward : {A : Type 0} → (x y : Change Tag A) → (xs : List (Tag × A)) → Distinct same_tag xs → Leaves y x (noted_change x xs) →
    (takes_out y ≡ true → takes x (noted_change y xs) ≡ false) → Accepts x xs → Accepts x (changed same_tag y xs)
accepts-forward (Each f) y xs u l k s = tt
accepts-forward (Put a z) y xs u l k s = stands-kept y a xs l s
accepts-forward (Take p) y xs u l k s = stands-kept y (Some p) xs l.0 s
accepts-forward (Move p a) y xs u l k s = (
  stands-kept y (Some p) xs l.0 s.0,
  stands-kept y a xs l.2 s.1,
  s.2,
  split_on (takes y (next same_tag a xs))
      (λ e. ap (λ b. same_spot same_tag b (Some p)) (next-moved y a xs u l.2 e) ∙ flip_spot tag_test (Some p) (noted_change y xs) (k (takes-out y (next same_tag a xs) e)))
      (λ e. ap (λ b. same_spot same_tag b (Some p)) (next-kept y a xs l.2 e) ∙ s.3),
)

-- a list change, not one of contents
abbrev pub OfList : {A : Type 0} → Change Tag A → Type 0
OfList (Each f) = ⊥
OfList x = Unit {0}

pub lists-apart : {A : Type 0} → (x y : Change Tag A) → (xs : List (Tag × A)) → (n m : Option Tag) → OfList x → OfList y → Leaves y x n → Leaves x y m →
    ChangesApart x y xs
lists-apart (Each f) y xs n m i j l k = absurd i
lists-apart x (Each f) xs n m i j l k = absurd j
lists-apart (Put a z) (Put b w) xs n m i j l k = (l.0, l.1, k.1)
lists-apart (Put a z) (Take q) xs n m i j l k = (k.0.1, k.0.0)
lists-apart (Take q) (Put a z) xs n m i j l k = (l.0.1, l.0.0)
lists-apart (Take p) (Take q) xs n m i j l k = tt
lists-apart (Put a z) (Move q c) xs n m i j l k = (k.0.1, k.0.0, l.1, k.2.1)
lists-apart (Move q c) (Put a z) xs n m i j l k = (l.0.1, l.0.0, k.1, l.2.1)
lists-apart (Take p) (Move q c) xs n m i j l k = (l.0.0, l.0.1)
lists-apart (Move q c) (Take p) xs n m i j l k = (k.0.0, k.0.1)
lists-apart (Move p a) (Move q c) xs n m i j l k = (l.0.0, l.2.0, k.2.0, l.2.1)
