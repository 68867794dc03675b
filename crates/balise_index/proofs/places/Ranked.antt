-- A place put into a sorted list before those that come after it, and one taken out.
use Rattle.std.proofs.Common.{◌≡◌, ◌∙◌, ◌+◌, ◌<◌, ◌≤◌, ℕ, zero, suc, Bool, true, false, cond, not, ◌||◌, List, [], ◌∷◌, insert, remove, length, position, nat_lt, Some, None, slice_get, take, refl, sym, ap, subst, arith}
use Rattle.std.proofs.lemmas.Bool.{true≢false, cond_both, or_from, or_left, or_right}
use Rattle.std.proofs.lemmas.List.Recursion.{is_position_or_len}
use Rattle.std.proofs.lemmas.List.Sorted.{IsPermutation-insert, list_any-IsPermutation}
use Rattle.std.proofs.lemmas.List.Sums.{prefix_len-le-length}
use borrow.Author.Tests.{ltb-false}
use Rattle.std.specs.declared.cmp.Ordering.{Ordering}
use Rattle.std.specs.declared.cmp.Ordering.TheVariants.{Less, Equal, Greater}
use Rattle.std.specs.Ordering.{is_eq, is_gt, is_le, ordering_reverse}
use Rattle.std.specs.List.{AllByRecursion}
use Rattle.std.specs.List.Sorted.{IsStrictlySortedBy}
use Rattle.balise_rules.proofs.Cases.{unsome}
use Rattle.balise_rules.proofs.Tests.{split_on}
use Rattle.balise_index.specs.declared.link_place.LinkPlace.{LinkPlace}
use Rattle.balise_index.specs.contracts.link_place.LinkPlaceOrd.TheImpl.Laws as place
use Rattle.balise_index.specs.LinkSet.{rank, stands, PutsIn}
use Rattle.balise_index.specs.Places.{among, compare_place, is_place}
use Rattle.balise_index.proofs.places.Equal.{place_one, places}
use Rattle.balise_index.proofs.places.Sorted.{below}

abbrev Under : LinkPlace → List LinkPlace → Type 0
Under w vs = AllByRecursion (λ v. compare_place w v ≡ Less) vs

-- ---- the order

is_greater : (o : Ordering) → is_le o ≡ false → o ≡ Greater
is_greater Less n = absurd (true≢false n)
is_greater Equal n = absurd (true≢false n)
is_greater Greater n = refl

-- v comes before w
after : (w v : LinkPlace) → is_le (compare_place w v) ≡ false → compare_place v w ≡ Less
after w v n = place.total-law.antisymm v w ∙ ap ordering_reverse (is_greater (compare_place w v) n)

less : (o : Ordering) → is_le o ≡ true → is_eq o ≡ false → o ≡ Less
less Less e n = refl
less Equal e n = absurd (true≢false n)
less Greater e n = absurd (true≢false (sym e))

under-all : (w v : LinkPlace) (vs : List LinkPlace) → compare_place w v ≡ Less → Under v vs → Under w vs
under-all w v [] l u = tt
under-all w v (x ∷ xs) l u = (place.total-law.trans w v x l u.0, under-all w v xs l u.1)

-- ---- where a place goes

abbrev pub spot : LinkPlace → List LinkPlace → ℕ
spot w [] = 0
spot w (v ∷ vs) = cond (is_le (compare_place w v)) 0 (suc (spot w vs))

pub spot-rank : (w : LinkPlace) (vs : List LinkPlace) → rank w vs ≡ spot w vs
spot-rank w vs = sym (is_position_or_len (spot w) (λ v. is_le (compare_place w v)) refl (λ x xs. ap (λ (n : ℕ). cond (is_le (compare_place w x)) 0 n) (let n : suc (spot w xs) ≡ 1 + spot w xs = omega arith in n)) vs)

pub rank-within : (w : LinkPlace) (vs : List LinkPlace) → rank w vs ≤ length vs
rank-within w vs = prefix_len-le-length (λ v. not (is_le (compare_place w v))) vs

-- ---- a place that comes after the last one comes after all

not_le : (o : Ordering) → is_gt o ≡ true → is_le o ≡ false
not_le Less e = absurd (true≢false (sym e))
not_le Equal e = absurd (true≢false (sym e))
not_le Greater e = refl

greater : (v w : LinkPlace) → compare_place v w ≡ Less → is_le (compare_place w v) ≡ false
greater v w l = ap is_le (place.total-law.antisymm w v ∙ ap ordering_reverse l)

under-at : (v z : LinkPlace) (vs : List LinkPlace) (i : ℕ) → Under v vs → slice_get vs i ≡ Some z → compare_place v z ≡ Less
under-at v z [] i u e = absurd cc
under-at v z (x ∷ xs) zero u e = ap (compare_place v) (sym (unsome e)) ∙ u.0
under-at v z (x ∷ xs) (suc i) u e = under-at v z xs i u.1 e

spot-above : (w z : LinkPlace) (vs : List LinkPlace) (i : ℕ) → suc i ≡ length vs → slice_get vs i ≡ Some z → IsStrictlySortedBy compare_place vs → compare_place z w ≡ Less → length vs ≡ spot w vs
unfolding IsStrictlySortedBy
spot-above w z [] i n e s l = absurd cc
spot-above w z (v ∷ []) zero n e s l =
    let k : compare_place v w ≡ Less = ap (λ u. compare_place u w) (unsome e) ∙ l in
    ap (λ b. cond b 0 1) (sym (greater v w k))
spot-above w z (v ∷ []) (suc i) n e s l = absurd cc
spot-above w z (v ∷ x ∷ xs) zero n e s l = absurd (omega arith)
spot-above w z (v ∷ x ∷ xs) (suc i) n e s l =
    let k = place.total-law.trans v z w (under-at v z (x ∷ xs) i s.0 e) l in
    let r : suc i ≡ length (x ∷ xs) = omega arith in
    ap suc (spot-above w z (x ∷ xs) i r e s.1 l) ∙ ap (λ b. cond b 0 (suc (spot w (x ∷ xs)))) (sym (greater v w k))

pub rank-above : (w z : LinkPlace) (vs : List LinkPlace) (i : ℕ) → suc i ≡ length vs → slice_get vs i ≡ Some z → IsStrictlySortedBy compare_place vs → is_gt (compare_place w z) ≡ true → length vs ≡ rank w vs
rank-above w z vs i n e s g = spot-above w z vs i n e s (after w z (not_le (compare_place w z) g)) ∙ sym (spot-rank w vs)

-- ---- put in

under-insert : (x w : LinkPlace) (vs : List LinkPlace) → compare_place x w ≡ Less → Under x vs → Under x (insert vs (spot w vs) w)
under-insert x w [] l u = (l, tt)
under-insert x w (v ∷ vs) l u = split_on (is_le (compare_place w v)) (λ e. simp e (l, u)) (λ e. simp e (u.0, under-insert x w vs l u.1))

sorted-insert : (w : LinkPlace) (vs : List LinkPlace) → IsStrictlySortedBy compare_place vs → stands w (slice_get vs (spot w vs)) ≡ false → IsStrictlySortedBy compare_place (insert vs (spot w vs) w)
unfolding IsStrictlySortedBy
sorted-insert w [] s n = (tt, tt)
sorted-insert w (v ∷ vs) s n = split_on (is_le (compare_place w v))
    (λ e. let l = less (compare_place w v) e (simp e at n) in simp e ((l, under-all w v vs l s.0), s))
    (λ e. simp e (under-insert v w vs (after w v e) s.0, sorted-insert w vs s.1 (simp e at n)))

pub ordered-put : (w : LinkPlace) (vs : List LinkPlace) (i : ℕ) → i ≡ rank w vs → IsStrictlySortedBy compare_place vs → stands w (slice_get vs i) ≡ false → IsStrictlySortedBy compare_place (insert vs i w)
ordered-put w vs i e s n =
    let q = e ∙ spot-rank w vs in
    subst (λ j. IsStrictlySortedBy compare_place (insert vs j w)) (sym q) (sorted-insert w vs s (ap (λ j. stands w (slice_get vs j)) (sym q) ∙ n))

either : (b a : Bool) → (b || a) ≡ cond b true a
either true a = refl
either false a = refl

pub puts-in : (w : LinkPlace) (vs : List LinkPlace) (i : ℕ) → PutsIn vs (insert vs i w) w true
puts-in w vs i v =
    sym (list_any-IsPermutation (is_place v) (w ∷ vs) (insert vs i w) (IsPermutation-insert vs i w))
    ∙ either (is_place v w) (among v vs) ∙ ap (λ b. cond b true (among v vs)) (places.symm v w)

-- ---- there already

there : (w : LinkPlace) (vs : List LinkPlace) (i : ℕ) → stands w (slice_get vs i) ≡ true → among w vs ≡ true
there w [] i e = absurd (true≢false (sym e))
there w (v ∷ vs) zero e = or_left (is_place w v) (among w vs) e
there w (v ∷ vs) (suc i) e = or_right (is_place w v) (among w vs) (there w vs i e)

-- what a list has already, or hasn't
unchanged : (w : LinkPlace) (vs : List LinkPlace) (b : Bool) → among w vs ≡ b → PutsIn vs vs w b
unchanged w vs b e v = cond_both (is_place w v) b (among v vs) (λ a. among v vs ≡ a) (λ d. ap (λ x. among x vs) (sym (place_one w v d)) ∙ e) (λ d. refl)

pub puts-there : (w : LinkPlace) (vs : List LinkPlace) (i : ℕ) → stands w (slice_get vs i) ≡ true → PutsIn vs vs w true
puts-there w vs i e = unchanged w vs true (there w vs i e)

-- ---- one that was put in is there, so the list isn't empty

pub not-empty : (w : LinkPlace) (old new : List LinkPlace) → PutsIn old new w true → 0 < length new
not-empty w old [] h = absurd (true≢false (sym (h w ∙ ap (λ b. cond b true (among w old)) (places.refl w))))
not-empty w old (v ∷ vs) h = omega arith

pub ordered-none : (vs : List LinkPlace) → vs ≡ [] → IsStrictlySortedBy compare_place vs
unfolding IsStrictlySortedBy
ordered-none [] e = tt
ordered-none (v ∷ vs) e = absurd cc

-- ---- one place by itself

pub ordered-one : (w : LinkPlace) → IsStrictlySortedBy compare_place (w ∷ [])
unfolding IsStrictlySortedBy
ordered-one w = (tt, tt)

pub puts-one : (w : LinkPlace) → PutsIn [] (w ∷ []) w true
puts-one w = puts-in w [] 0

-- ---- a list that is put into a tree place by place

pub among-next : (p v : LinkPlace) (vs : List LinkPlace) (i : ℕ) → slice_get vs i ≡ Some p → among v (take (suc i) vs) ≡ cond (is_place p v) true (among v (take i vs))
among-next p v [] i e = absurd cc
among-next p v (x ∷ xs) zero e = either (is_place v x) false ∙ ap (λ b. cond b true false) (ap (is_place v) (unsome e) ∙ places.symm v p)
among-next p v (x ∷ xs) (suc i) e = ap (λ b. is_place v x || b) (among-next p v xs i e) ∙ over (is_place v x) (is_place p v) (among v (take i xs))
  where
    over : (a c b : Bool) → (a || cond c true b) ≡ cond c true (a || b)
    over a true b = or_right a true refl
    over a false b = refl

-- ---- taken out

under-remove : (x : LinkPlace) (vs : List LinkPlace) (i : ℕ) → Under x vs → Under x (remove vs i)
under-remove x [] zero u = tt
under-remove x [] (suc i) u = tt
under-remove x (v ∷ vs) zero u = u.1
under-remove x (v ∷ vs) (suc i) u = (u.0, under-remove x vs i u.1)

pub ordered-remove : (vs : List LinkPlace) (i : ℕ) → IsStrictlySortedBy compare_place vs → IsStrictlySortedBy compare_place (remove vs i)
unfolding IsStrictlySortedBy
ordered-remove [] zero s = tt
ordered-remove [] (suc i) s = tt
ordered-remove (v ∷ vs) zero s = s.1
ordered-remove (v ∷ vs) (suc i) s = (under-remove v vs i s.0, ordered-remove vs i s.1)

-- one that is in the list isn't a place before all of it
apart : (x w : LinkPlace) (vs : List LinkPlace) (i : ℕ) → Under x vs → stands w (slice_get vs i) ≡ true → is_place w x ≡ false
apart x w vs i u e = split_on (is_place w x)
    (λ d. absurd (true≢false (sym (there w vs i e) ∙ ap (λ y. among y vs) (place_one w x d) ∙ below x vs u)))
    (λ d. d)

pub takes-out : (w : LinkPlace) (vs : List LinkPlace) (i : ℕ) → IsStrictlySortedBy compare_place vs → stands w (slice_get vs i) ≡ true → PutsIn vs (remove vs i) w false
unfolding IsStrictlySortedBy
takes-out w [] i s e v = absurd (true≢false (sym e))
takes-out w (x ∷ xs) zero s e v =
    let same : w ≡ x = place_one w x e in
    split_on (is_place w v)
    (λ d. simp d (ap (λ y. among y xs) (sym (place_one w v d) ∙ same) ∙ below x xs s.0))
    (λ d. let n : is_place v x ≡ false = ap (is_place v) (sym same) ∙ places.symm v w ∙ d in simp (d, n))
takes-out w (x ∷ xs) (suc i) s e v =
    let h = takes-out w xs i s.1 e v in
    split_on (is_place w v)
    (λ d. let n : is_place v x ≡ false = ap (λ y. is_place y x) (sym (place_one w v d)) ∙ apart x w xs i s.0 e in simp (n, d) (simp d at h))
    (λ d. simp (h, d))

-- what doesn't stand at its rank isn't in the list
lacks : (w : LinkPlace) (vs : List LinkPlace) → IsStrictlySortedBy compare_place vs → stands w (slice_get vs (spot w vs)) ≡ false → among w vs ≡ false
unfolding IsStrictlySortedBy
lacks w [] s n = refl
lacks w (v ∷ vs) s n = split_on (is_le (compare_place w v))
    (λ e. let l = less (compare_place w v) e (simp e at n) in below w (v ∷ vs) (l, under-all w v vs l s.0))
    (λ e. or_from (is_place w v) (among w vs) (ap is_eq (is_greater (compare_place w v) e)) (lacks w vs s.1 (simp e at n)))

-- a place is in the list where it stands at its rank
pub among-rank : (w : LinkPlace) (vs : List LinkPlace) (i : ℕ) → i ≡ rank w vs → IsStrictlySortedBy compare_place vs → stands w (slice_get vs i) ≡ among w vs
among-rank w vs i e s =
    split_on (stands w (slice_get vs i))
    (λ d. d ∙ sym (there w vs i d))
    (λ d. d ∙ sym (lacks w vs s (ap (λ j. stands w (slice_get vs j)) (sym (e ∙ spot-rank w vs)) ∙ d)))

pub takes-none : (w : LinkPlace) (vs : List LinkPlace) (i : ℕ) → i ≡ rank w vs → IsStrictlySortedBy compare_place vs → stands w (slice_get vs i) ≡ false → PutsIn vs vs w false
takes-none w vs i e s n = unchanged w vs false (sym (among-rank w vs i e s) ∙ n)

-- ---- what a search for the first place gives

pub first-some : (w : LinkPlace) (vs : List LinkPlace) (i : ℕ) → Some i ≡ position (λ v. is_le (compare_place w v)) vs → i ≡ rank w vs
first-some w vs i e = split_on (nat_lt (rank w vs) (length vs)) (λ d. unsome (simp d at e)) (λ d. absurd (let no = simp d at e in cc))

pub first-none : (w : LinkPlace) (vs : List LinkPlace) → None ≡ position (λ v. is_le (compare_place w v)) vs → length vs ≡ rank w vs
first-none w vs e = split_on (nat_lt (rank w vs) (length vs))
    (λ d. absurd (let no = simp d at e in cc))
    (λ d. let a = rank-within w vs in let b = ltb-false (rank w vs) (length vs) d in omega (arith, a, b))

-- ---- one place by itself, taken out

pub takes-one : (w x : LinkPlace) → is_place w x ≡ true → PutsIn (x ∷ []) [] w false
takes-one w x e = takes-out w (x ∷ []) 0 (ordered-one x) e

pub keeps-one : (w x : LinkPlace) → is_place w x ≡ false → PutsIn (x ∷ []) (x ∷ []) w false
keeps-one w x e = unchanged w (x ∷ []) false (simp e)

-- ---- two places by themselves

pub ordered-below : (w x : LinkPlace) → compare_place w x ≡ Less → IsStrictlySortedBy compare_place (w ∷ x ∷ [])
unfolding IsStrictlySortedBy
ordered-below w x l = ((l, tt), (tt, tt))

pub ordered-above : (w x : LinkPlace) → compare_place w x ≡ Greater → IsStrictlySortedBy compare_place (x ∷ w ∷ [])
ordered-above w x g = ordered-below x w (after w x (ap is_le g))

pub keeps-two : (w x y : LinkPlace) → is_place w x ≡ false → is_place w y ≡ false → PutsIn (x ∷ y ∷ []) (x ∷ y ∷ []) w false
keeps-two w x y d e = unchanged w (x ∷ y ∷ []) false (simp (d, e))

-- ---- three places by themselves

pub ordered-first : (w x y : LinkPlace) → compare_place w x ≡ Less → IsStrictlySortedBy compare_place (x ∷ y ∷ []) → IsStrictlySortedBy compare_place (w ∷ x ∷ y ∷ [])
unfolding IsStrictlySortedBy
ordered-first w x y l s = ((l, under-all w x (y ∷ []) l s.0), s)

pub ordered-second : (w x y : LinkPlace) → compare_place w x ≡ Greater → compare_place w y ≡ Less → IsStrictlySortedBy compare_place (x ∷ y ∷ []) → IsStrictlySortedBy compare_place (x ∷ w ∷ y ∷ [])
unfolding IsStrictlySortedBy
ordered-second w x y g l s = ((after w x (ap is_le g), s.0), ((l, tt), (tt, tt)))

pub ordered-third : (w x y : LinkPlace) → compare_place w y ≡ Greater → IsStrictlySortedBy compare_place (x ∷ y ∷ []) → IsStrictlySortedBy compare_place (x ∷ y ∷ w ∷ [])
unfolding IsStrictlySortedBy
ordered-third w x y g s = let l = after w y (ap is_le g) in ((s.0.0, (place.total-law.trans x y w s.0.0 l, tt)), ((l, tt), (tt, tt)))

pub keeps-three : (w x y z : LinkPlace) → is_place w x ≡ false → is_place w y ≡ false → is_place w z ≡ false → PutsIn (x ∷ y ∷ z ∷ []) (x ∷ y ∷ z ∷ []) w false
keeps-three w x y z d e f = unchanged w (x ∷ y ∷ z ∷ []) false (simp (d, e, f))
