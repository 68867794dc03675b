-- What a search by halving finds among serials that rise.
use Rattle.std.proofs.Common.{◌≡◌, ◌≢◌, ◌≤◌, ◌<◌, ◌∙◌, ℕ, zero, suc, Bool, true, false, eqb, nat_lt, List, [], ◌∷◌, length, get_or, Result, Ok, Err, refl, sym, ap, subst, arith}
use Rattle.std.proofs.lemmas.Bool.Decides.{nat_tests}
use Rattle.std.specs.Prelude.{MatchResult}
use Rattle.std.specs.Ordering.{ordering_index, nat_cmp, MatchOrdering}
use Rattle.std.specs.List.Sorted.{IsBinarySearchResult}
use borrow.Author.Tests.{tests}
use Rattle.std.specs.Cmp.{ranks}
use Rattle.balise_rules.specs.Paths.{Entry}
use Rattle.balise_strike_laws.specs.InSession.{Rising}
use Rattle.balise_history.specs.Lists.{place_of, items_of, is_among, Ascends}
use Rattle.balise_history.proofs.Entries.{above-items}

-- the keys of later items are higher
abbrev pub Rises : {X : Type 0} → (X → ℕ) → List X → Type 0
Rises {X} key xs = (i j : ℕ) (d : X) → i < j → j < length xs → key (get_or xs i d) < key (get_or xs j d)

pub entries-rise : (es : List Entry) → Rising (items_of es) → Rises (λ e. e.0.0) es
entries-rise (e ∷ es) r zero (suc j) d l m = above-items e.0.0 es r.0 j d (omega arith)
entries-rise (e ∷ es) r (suc i) (suc j) d l m = entries-rise es r.1 i j d (omega arith) (omega arith)
entries-rise es r i j d l m = absurd (omega arith)

pub numbers-rise : (ns : List ℕ) → Ascends ns → Rises (λ n. n) ns
numbers-rise (n ∷ ns) r zero (suc j) d l m = r.0 j d (omega arith)
numbers-rise (n ∷ ns) r (suc i) (suc j) d l m = numbers-rise ns r.1 i j d (omega arith) (omega arith)
numbers-rise ns r i j d l m = absurd (omega arith)

module _ {X : Type 0} (key : X → ℕ) (xs : List X) (x : ℕ) where
  -- where it is, or between what is lower and what is higher
  pub searched-by : (r : Result ℕ ℕ) → IsBinarySearchResult (λ y. nat_cmp (key y) x) xs r → Rises key xs →
      MatchResult r (λ i. (d : X) → key (get_or xs i d) ≡ x) (λ i. ((k : ℕ) (d : X) → k < i → key (get_or xs k d) < x) × ((k : ℕ) (d : X) → i ≤ k → k < length xs → x < key (get_or xs k d)))
  searched-by (Ok i) h up = λ d. subst (λ o. MatchOrdering o (key (get_or xs i d) < x) (key (get_or xs i d) ≡ x) (x < key (get_or xs i d))) (h d) (ranks (key (get_or xs i d)) x)
  searched-by (Err i) h up =
      let parted = h (λ a b d le lt. higher (key (get_or xs a d)) (key (get_or xs b d)) (no_lower a b d le lt)) in (
        (λ k d l. subst (λ o. MatchOrdering o (key (get_or xs k d) < x) (key (get_or xs k d) ≡ x) (x < key (get_or xs k d))) (parted.0 k d (omega arith) l) (ranks (key (get_or xs k d)) x)),
        (λ k d a l. subst (λ o. MatchOrdering o (key (get_or xs k d) < x) (key (get_or xs k d) ≡ x) (x < key (get_or xs k d))) (parted.1 k d a l) (ranks (key (get_or xs k d)) x)),
      )
    where
      higher : (a b : ℕ) → a ≤ b → ordering_index (nat_cmp a x) ≤ ordering_index (nat_cmp b x)
      higher a b le = grind (arith, tests)

      by : (a b : ℕ) (d : X) → (c : Bool) → nat_lt a b ≡ c → a ≤ b → b < length xs → key (get_or xs a d) ≤ key (get_or xs b d)
      by a b d true e le lt = let l : a < b = grind (arith, nat_tests) in let k = up a b d l lt in omega arith
      by a b d false e le lt = let q : a ≡ b = grind (arith, nat_tests) in subst (λ (n : ℕ). key (get_or xs a d) ≤ key (get_or xs n d)) q (omega arith)

      no_lower : (a b : ℕ) (d : X) → a ≤ b → b < length xs → key (get_or xs a d) ≤ key (get_or xs b d)
      no_lower a b d le lt = by a b d (nat_lt a b) refl le lt

-- the number of entries with a lower serial is the place that parts them
pub place-parts : (s : ℕ) (es : List Entry) (i : ℕ) → i ≤ length es → ((k : ℕ) (d : Entry) → k < i → (get_or es k d).0.0 < s) → ((k : ℕ) (d : Entry) → i ≤ k → k < length es → s ≤ (get_or es k d).0.0) → i ≡ place_of s es
place-parts s [] i l below from = omega arith
place-parts s (e ∷ es) zero l below from =
    let q : s ≤ e.0.0 = from 0 e (omega arith) (omega arith) in
    let t : nat_lt e.0.0 s ≡ false = grind (arith, nat_tests) in simp t
place-parts s (e ∷ es) (suc i) l below from =
    let q : e.0.0 < s = below 0 e (omega arith) in
    let t : nat_lt e.0.0 s ≡ true = grind (arith, nat_tests) in
    let r : i ≡ place_of s es = place-parts s es i (omega arith) (λ k d m. below (suc k) d (omega arith)) (λ k d m n. from (suc k) d (omega arith) (omega arith)) in
    simp t (ap suc r)

pub place-found : (s : ℕ) (es : List Entry) (i : ℕ) → Rising (items_of es) → i < length es → ((d : Entry) → (get_or es i d).0.0 ≡ s) → i ≡ place_of s es
place-found s es i r l at =
    let up = entries-rise es r in
    place-parts s es i (omega arith)
    (λ k d m. let a = up k i d m l in let b = at d in omega arith)
    (λ k d m n. by k d (nat_lt i k) refl m n)
  where
    by : (k : ℕ) (d : Entry) (c : Bool) → nat_lt i k ≡ c → i ≤ k → k < length es → s ≤ (get_or es k d).0.0
    by k d true e m n = let q : i < k = grind (arith, nat_tests) in let a = entries-rise es r i k d q n in let b = at d in omega arith
    by k d false e m n = let q : i ≡ k = grind (arith, nat_tests) in let b = at d in let w : (get_or es k d).0.0 ≡ s = ap (λ (j : ℕ). (get_or es j d).0.0) (sym q) ∙ b in omega arith

pub place-last : (s : ℕ) (es : List Entry) (i : ℕ) → Rising (items_of es) → length es ≡ suc i → ((d : Entry) → (get_or es i d).0.0 < s) → length es ≡ place_of s es
place-last s es i r l at =
    place-parts s es (length es) (omega arith)
    (λ k d m. by k d (nat_lt k i) refl m)
    (λ k d m n. absurd (omega arith))
  where
    by : (k : ℕ) (d : Entry) (c : Bool) → nat_lt k i ≡ c → k < length es → (get_or es k d).0.0 < s
    by k d true e m = let q : k < i = grind (arith, nat_tests) in let a = entries-rise es r k i d q (omega (arith, l)) in let b = at d in omega arith
    by k d false e m = let q : i ≡ k = grind (arith, nat_tests, l) in let b = at d in let w : (get_or es i d).0.0 ≡ (get_or es k d).0.0 = ap (λ (j : ℕ). (get_or es j d).0.0) q in omega (arith, w, b)

pub among-at : (n : ℕ) (ns : List ℕ) (i : ℕ) → i < length ns → get_or ns i 0 ≡ n → is_among n ns ≡ true
among-at n [] i l e = absurd (omega arith)
among-at n (m ∷ ms) zero l e = let t : eqb m n ≡ true = grind (arith, nat_tests) in simp t
among-at n (m ∷ ms) (suc i) l e = by (eqb m n) refl (among-at n ms i (omega arith) e)
  where
    by : (c : Bool) → eqb m n ≡ c → is_among n ms ≡ true → is_among n (m ∷ ms) ≡ true
    by true t r = simp t
    by false t r = simp t r

pub among-none : (n : ℕ) (ns : List ℕ) → ((k : ℕ) (d : ℕ) → k < length ns → get_or ns k d ≢ n) → is_among n ns ≡ false
among-none n [] h = refl
among-none n (m ∷ ms) h =
    let q : m ≢ n = h 0 m (omega arith) in
    let t : eqb m n ≡ false = grind (arith, nat_tests) in
    let r : is_among n ms ≡ false = among-none n ms (λ k d l. h (suc k) d (omega arith)) in simp t r
