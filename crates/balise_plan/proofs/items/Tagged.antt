-- Items under their places, in this order or in reverse.
use Rattle.std.proofs.Common.{◌≡◌, ◌∙◌, ◌++◌, ◌+◌, ◌-◌, ◌<◌, ◌≤◌, ℕ, zero, suc, Bool, true, false, eqb, List, [], ◌∷◌, Some, None, length, get_or, position, slice_get, slice_set, refl, sym, ap, arith, zero-add}
use Rattle.std.specs.List.{enumerate_from}
use Rattle.std.proofs.lemmas.Bool.{ne_eqb}
use Rattle.std.proofs.lemmas.List.{length-reverse, get_or-reverse, same_lists, get_or-set_same, get_or-set_other, length-set}
use Rattle.std.proofs.lemmas.List.FromFn.{length-enumerate_from, get_or-enumerate_from}
use Rattle.std.proofs.lemmas.List.Sums.{position_or_len_is}
use Rattle.std.proofs.lemmas.Option.{slice_get-get_or, slice_get_past}
use Rattle.balise_rules.proofs.Tests.{nat_test, split_on}
use Rattle.balise_plan.specs.declared.one_or_more.Held.{Held}
use Rattle.balise_plan.specs.declared.one_or_more.Held.TheVariants.{One, Listed}
use Rattle.balise_plan.specs.OneOrMore.{AreInOrder, by_tag, held_with, is_turned, item_set, items_held, tag_at, tagged, turned}
use Rattle.balise_plan.proofs.items.TagPlaces.{item_there, tag_is}

-- ---- places

place-within : (n : ℕ) (back : Bool) (i : ℕ) → i < n → turned n back i < n
place-within n false i h = h
place-within n true i h = omega arith

place-back : (n : ℕ) (back : Bool) (i : ℕ) → i < n → turned n back (turned n back i) ≡ i
place-back n false i h = refl
place-back n true i h = omega arith

-- another place has another tag
place-other : (n : ℕ) (back : Bool) (t k : ℕ) → t < n → k < n → (k ≡ turned n back t → ⊥) → eqb t (turned n back k) ≡ false
place-other n back t k h l o = ne_eqb t (turned n back k) (λ e. o (sym (place-back n back k l) ∙ ap (turned n back) (sym e)))

-- the first place that passes
position-at : {X : Type 0} (p : X → Bool) (xs : List X) (i : ℕ) (d : X) → i < length xs → ((k : ℕ) → k < i → p (get_or xs k d) ≡ false) → p (get_or xs i d) ≡ true → position p xs ≡ Some i
position-at p xs i d h below here = let e = position_or_len_is p xs i d (omega arith) below (λ _. here) in grind arith

position-none : {X : Type 0} (p : X → Bool) (xs : List X) (d : X) → ((k : ℕ) → k < length xs → p (get_or xs k d) ≡ false) → position p xs ≡ None
position-none p xs d none = let e = position_or_len_is p xs (length xs) d (omega arith) none (λ l. absurd (omega (arith, l))) in grind arith

module _ {T : Type 0} where
  pub length-tagged : (xs : List T) (back : Bool) → length (tagged xs back) ≡ length xs
  length-tagged xs false = length-enumerate_from 0 xs
  length-tagged xs true = length-reverse (enumerate_from 0 xs) ∙ length-enumerate_from 0 xs

  -- ---- what stands at a place

  at-tagged : (xs : List T) (back : Bool) (i : ℕ) (d : ℕ × T) → i < length xs → get_or (tagged xs back) i d ≡ (turned (length xs) back i, get_or xs (turned (length xs) back i) d.1)
  at-tagged xs false i d h = get_or-enumerate_from 0 xs i d h ∙ ap {B = ℕ × T} (λ k. (k, get_or xs i d.1)) (zero-add i)
  at-tagged xs true i d h =
      let n = length-enumerate_from 0 xs in
      let p = length xs - 1 - i in
      get_or-reverse (enumerate_from 0 xs) i d (omega (arith, h, n)) ∙ ap (λ k. get_or (enumerate_from 0 xs) (k - 1 - i) d) n
      ∙ get_or-enumerate_from 0 xs p d (omega arith) ∙ ap {B = ℕ × T} (λ k. (k, get_or xs p d.1)) (zero-add p)

  -- the item of that tag
  read-at : (xs : List T) (back : Bool) (i tag : ℕ) (x : T) → i < length xs → tag ≡ turned (length xs) back i → x ≡ get_or xs tag x → (tag, x) ≡ get_or (tagged xs back) i (tag, x)
  read-at xs back i tag x h t e = ap {B = ℕ × T} (λ y. (tag, y)) e ∙ ap {B = ℕ × T} (λ k. (k, get_or xs k x)) t ∙ sym (at-tagged xs back i (tag, x) h)

  pub item-tagged : (xs : List T) (back : Bool) (i tag : ℕ) (x : T) → i < length xs → tag ≡ turned (length xs) back i → x ≡ get_or xs tag x → (tag_at (tagged xs back) i, x) ≡ get_or (tagged xs back) i (tag_at (tagged xs back) i, x)
  item-tagged xs back i tag x h t e = item_there (tagged xs back) i (tag, x) (omega (arith, h, length-tagged xs back)) (read-at xs back i tag x h t e)

  pub get-tagged : (xs : List T) (back : Bool) (i tag : ℕ) (x : T) → i < length xs → tag ≡ turned (length xs) back i → x ≡ get_or xs tag x → Some (tag, x) ≡ slice_get (tagged xs back) i
  get-tagged xs back i tag x h t e = ap (λ q. Some q) (read-at xs back i tag x h t e) ∙ sym (slice_get-get_or (tagged xs back) i (tag, x) (omega (arith, h, length-tagged xs back)))

  pub get-past : (xs : List T) (back : Bool) (i : ℕ) → length xs ≤ i → None ≡ slice_get (tagged xs back) i
  get-past xs back i h = sym (slice_get_past (tagged xs back) i (omega (arith, h, length-tagged xs back)))

  -- ---- where a tag stands

  test-at : (xs : List T) (back : Bool) (t k : ℕ) (d : ℕ × T) → k < length xs → eqb t (get_or (tagged xs back) k d).0 ≡ eqb t (turned (length xs) back k)
  test-at xs back t k d l = ap (λ (q : ℕ × T). eqb t q.0) (at-tagged xs back k d l)

  pub place-tagged : (xs : List T) (back : Bool) (t : ℕ) → t < length xs → Some (turned (length xs) back t) ≡ position (λ q. eqb t q.0) (tagged xs back)
  place-tagged [] back t h = absurd (omega (arith, h))
  place-tagged (x ∷ xs) back t h =
      let n = length (x ∷ xs) in
      let i = turned n back t in
      let within = place-within n back t h in
      sym (position-at (λ q. eqb t q.0) (tagged (x ∷ xs) back) i (0, x) (omega (arith, within, length-tagged (x ∷ xs) back))
      (λ k l. test-at (x ∷ xs) back t k (0, x) (omega (arith, l, within)) ∙ place-other n back t k h (omega (arith, l, within)) (λ e. omega (arith, l, e)))
      (test-at (x ∷ xs) back t i (0, x) within ∙ ap (eqb t) (place-back n back t h) ∙ nat_test.itself t))

  pub no-place : (xs : List T) (back : Bool) (t : ℕ) → length xs ≤ t → None ≡ position (λ q. eqb t q.0) (tagged xs back)
  no-place [] false t h = refl
  no-place [] true t h = refl
  no-place (x ∷ xs) back t h =
      let n = length (x ∷ xs) in
      let size = length-tagged (x ∷ xs) back in
      sym (position-none (λ q. eqb t q.0) (tagged (x ∷ xs) back) (0, x)
      (λ k l. let within = place-within n back k (omega (arith, l, size)) in test-at (x ∷ xs) back t k (0, x) (omega (arith, l, size)) ∙ ne_eqb t (turned n back k) (λ e. omega (arith, within, h, e))))

  -- ---- another item at a place

  tag-tagged : (xs : List T) (back : Bool) (i : ℕ) (y : T) → i < length xs → tag_at (tagged xs back) i ≡ turned (length xs) back i
  tag-tagged xs back i y h = tag_is (tagged xs back) i (0, y) (omega (arith, h, length-tagged xs back)) ∙ ap (λ (q : ℕ × T). q.0) (at-tagged xs back i (0, y) h)

  at-set : (xs : List T) (back : Bool) (p k : ℕ) (y : T) (d : ℕ × T) → k < length xs → get_or (tagged (slice_set xs p y) back) k d ≡ (turned (length xs) back k, get_or (slice_set xs p y) (turned (length xs) back k) d.1)
  at-set xs back p k y d l =
      let e = length-set xs p y in
      at-tagged (slice_set xs p y) back k d (omega (arith, l, e)) ∙ ap {B = ℕ × T} (λ m. (turned m back k, get_or (slice_set xs p y) (turned m back k) d.1)) e

  set-at : (xs : List T) (back : Bool) (i : ℕ) (y : T) → i < length xs → (k : ℕ) (d : ℕ × T) → k < length xs
      → get_or (tagged (slice_set xs (turned (length xs) back i) y) back) k d ≡ get_or (slice_set (tagged xs back) i (tag_at (tagged xs back) i, y)) k d
  set-at xs back i y h k d l =
      let p = turned (length xs) back i in
      let all = tagged xs back in
      split_on (eqb i k)
      (λ e. rw (← nat_test.one i k e) (at-set xs back p i y d h
      ∙ rw (get_or-set_same xs p y d.1 (place-within (length xs) back i h), get_or-set_same all i (tag_at all i, y) d (omega (arith, h, length-tagged xs back)), tag-tagged xs back i y h) refl))
      (λ e. let other : k ≡ i → ⊥ = λ q. absurd (let r = sym (nat_test.itself k) ∙ ap (λ m. eqb m k) q ∙ e in cc) in
      at-set xs back p k y d l
      ∙ ap {B = ℕ × T} (λ x. (turned (length xs) back k, x)) (get_or-set_other xs p (turned (length xs) back k) y d.1 (λ q. other (sym (place-back (length xs) back k l) ∙ ap (turned (length xs) back) q ∙ place-back (length xs) back i h)))
      ∙ sym (at-tagged xs back k d l) ∙ sym (get_or-set_other all i k (tag_at all i, y) d other))

  set-tagged : (xs : List T) (back : Bool) (i : ℕ) (y : T) → i < length xs → tagged (slice_set xs (turned (length xs) back i) y) back ≡ item_set (tagged xs back) i y
  set-tagged xs back i y h =
      let p = turned (length xs) back i in
      let size : length (tagged (slice_set xs p y) back) ≡ length xs = length-tagged (slice_set xs p y) back ∙ length-set xs p y in
      same_lists (tagged (slice_set xs p y) back) (item_set (tagged xs back) i y)
      (size ∙ sym (length-tagged xs back) ∙ sym (length-set (tagged xs back) i (tag_at (tagged xs back) i, y)))
      (λ k d l. set-at xs back i y h k d (omega (arith, l, size)))

  set-held : (h : Held T) (tag : ℕ) (y : T) → tag < length (by_tag h) → by_tag (held_with h tag y) ≡ slice_set (by_tag h) tag y
  set-held (One x) zero y l = refl
  set-held (One x) (suc tag) y l = absurd (omega (arith, l))
  set-held (Listed v back) tag y l = refl

  as-turned : (h : Held T) (tag : ℕ) (y : T) → is_turned (held_with h tag y) ≡ is_turned h
  as-turned (One x) tag y = refl
  as-turned (Listed v back) tag y = refl

  pub set-there : (h : Held T) (i tag : ℕ) (y : T) → i < length (by_tag h) → tag ≡ turned (length (by_tag h)) (is_turned h) i → items_held (held_with h tag y) ≡ item_set (items_held h) i y
  set-there h i tag y l e =
      let within = place-within (length (by_tag h)) (is_turned h) i l in
      ap (tagged (by_tag (held_with h tag y))) (as-turned h tag y) ∙ ap (λ xs. tagged xs (is_turned h)) (set-held h tag y (omega (arith, within, e)))
      ∙ ap (λ m. tagged (slice_set (by_tag h) m y) (is_turned h)) e ∙ set-tagged (by_tag h) (is_turned h) i y l

  -- ---- one item more

  enumerate-push : (n : ℕ) (xs : List T) (y : T) → enumerate_from n (xs ++ y ∷ []) ≡ enumerate_from n xs ++ (n + length xs, y) ∷ []
  enumerate-push n [] y = let e : n ≡ n + 0 = omega arith in ap (λ k. (k, y) ∷ []) e
  enumerate-push n (x ∷ xs) y = let e : n + 1 + length xs ≡ n + suc (length xs) = omega arith in ap (λ l. (n, x) ∷ l) (enumerate-push (n + 1) xs y ∙ ap (λ k. enumerate_from (n + 1) xs ++ (k, y) ∷ []) e)

  -- an item is added after those that stand at their tags
  pub push-tagged : (xs : List T) (y : T) (all : List (ℕ × T)) → all ≡ enumerate_from 0 xs → enumerate_from 0 (xs ++ y ∷ []) ≡ all ++ (length all, y) ∷ []
  push-tagged xs y all e =
      let n : 0 + length xs ≡ length all = omega (arith, ap length e, length-enumerate_from 0 xs) in
      enumerate-push 0 xs y ∙ ap (λ k. enumerate_from 0 xs ++ (k, y) ∷ []) n ∙ ap (λ l. l ++ (length all, y) ∷ []) (sym e)

  pub push-in_order : (all : List (ℕ × T)) (y : T) → AreInOrder all → AreInOrder (all ++ (length all, y) ∷ [])
  push-in_order all y h = (h.0 ++ y ∷ [], sym (push-tagged h.0 y all h.1))

  -- a list that stands at its tags isn't back, or has no two items
  pub unturned : (xs : List T) (back : Bool) → AreInOrder (tagged xs back) → tagged xs back ≡ enumerate_from 0 xs
  unturned xs false h = refl
  unturned [] true h = refl
  unturned (x ∷ []) true h = refl
  unturned (x ∷ z ∷ zs) true h =
      let xs = x ∷ z ∷ zs in
      let size : 2 ≤ length h.0 = omega (arith, length-tagged xs true, ap length h.1, length-enumerate_from 0 h.0) in
      let first = ap (λ (q : ℕ × T). q.0) (sym (at-tagged xs true 0 (0, x) (omega arith)) ∙ ap (λ l. get_or l 0 (0, x)) h.1 ∙ get_or-enumerate_from 0 h.0 0 (0, x) (omega (arith, size))) in
      absurd (omega (arith, first))
