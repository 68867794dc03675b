-- Entries whose serials rise, cut at one of them.
use Rattle.std.proofs.Common.{◌≡◌, ◌≤◌, ◌<◌, ◌∙◌, ℕ, zero, suc, All, Bool, true, false, not, cond, eqb, nat_lt, List, [], ◌∷◌, ◌++◌, Option, Some, None, length, take, drop, map, filter, find, slice_get, refl, ap, subst, arith}
use Rattle.std.proofs.lemmas.Bool.Decides.{nat_tests}
use Rattle.std.proofs.lemmas.List.{get_or-map, length-map, map-append}
use Rattle.std.proofs.lemmas.List.Elements.{All-nil, All-cons, All-filter, All-head, All-map, All-tail}
use Rattle.std.specs.Prelude.{is_some}
use Rattle.balise_rules.specs.declared.tag.Tag.{Tag}
use Rattle.balise_rules.specs.Edits.{Item}
use Rattle.balise_rules.specs.Notes.{Note}
use Rattle.balise_rules.specs.Plan.{Plan}
use Rattle.balise_rules.specs.Doing.{done}
use Rattle.balise_rules.specs.Paths.{Entry, apart}
use Rattle.balise_rules.specs.Behind.{anchored, hung, serials_behind}
use Rattle.balise_rules.specs.Session.{entries, later, others, put_by_serial}
use Rattle.balise_rules.proofs.Cases.{unsome}
use Rattle.balise_rules.proofs.Tests.{split_on}
use Rattle.balise_edits.specs.Anchors.{hung_on}
use Rattle.balise_strike_laws.specs.InSession.{Rising}
use Rattle.balise_strike_laws.specs.Striking.{notes_of}
use Rattle.balise_history.specs.Lists.{items_of, place_of, is_among, entries_re_anchored, Ascends}
use Rattle.balise_history.proofs.Hanging.{kept-hung}

-- ---- entries and their items

pub items-entries : (plan : Plan) (es : List Item) → items_of (entries plan es) ≡ es
items-entries plan [] = refl
items-entries plan (e ∷ es) = ap (λ l. e ∷ l) (items-entries (done e plan) es)

pub items-append : (xs ys : List Entry) → items_of (xs ++ ys) ≡ items_of xs ++ items_of ys
items-append = map-append (λ (e : Entry). e.0)

pub notes-append : (xs ys : List Entry) → notes_of (xs ++ ys) ≡ notes_of xs ++ notes_of ys
notes-append = map-append (λ (e : Entry). e.1)

-- entries are one where their items and their notes are
pub same-entries : (xs ys : List Entry) → items_of xs ≡ items_of ys → notes_of xs ≡ notes_of ys → xs ≡ ys
same-entries [] [] h k = refl
same-entries (x ∷ xs) (y ∷ ys) h k =
    let a : x.0 ≡ y.0 = cc in
    let b : x.1 ≡ y.1 = cc in
    let hs : items_of xs ≡ items_of ys = cc in
    let ks : notes_of xs ≡ notes_of ys = cc in
    ap (λ (i : Item). (i, x.1) ∷ xs) a ∙ ap (λ (m : Note). (y.0, m) ∷ xs) b ∙ ap (λ l. y ∷ l) (same-entries xs ys hs ks)
same-entries xs ys h k = absurd cc

pub items-hung : (a : Option Tag) (B : List ℕ) (es : List Entry) → items_of (entries_re_anchored a B es) ≡ hung a B (items_of es)
items-hung a B [] = refl
items-hung a B (e ∷ es) = split_on (is_among e.0.0 B)
    (λ t. simp t (ap (λ l. (e.0.0, anchored a e.0.1) ∷ l) (items-hung a B es)))
    (λ t. simp t (ap (λ l. e.0 ∷ l) (items-hung a B es)))

pub notes-hung : (a : Option Tag) (B : List ℕ) (es : List Entry) → notes_of (entries_re_anchored a B es) ≡ notes_of es
notes-hung = kept-hung (λ (e : Entry). e.1) (λ b e. refl)

pub hung-append : (a : Option Tag) (B : List ℕ) (es fs : List Item) → hung a B (es ++ fs) ≡ hung a B es ++ hung a B fs
hung-append a B = map-append (λ (e : Item). cond (is_some (find (λ n. eqb n e.0) B)) (e.0, anchored a e.1) e)

-- a number below all others isn't among them
not-among : (n s : ℕ) (B : List ℕ) → n < s → All (λ m. s < m) B → is_among n B ≡ false
not-among n s [] l h = refl
not-among n s (b ∷ bs) l h =
    let q : s < b = All-head (λ m. s < m) b bs h in
    let t : eqb b n ≡ false = grind (arith, nat_tests) in
    simp t (not-among n s bs l (All-tail (λ m. s < m) b bs h))

pub hung-low : (a : Option Tag) (s : ℕ) (B : List ℕ) (es : List Item) → All (λ m. s < m) B → All (λ f. f.0 < s) es → hung a B es ≡ es
hung-low a s B [] h l = refl
hung-low a s B (e ∷ es) h l =
    let t = not-among e.0 s B (All-head (λ (f : Item). f.0 < s) e es l) h in
    simp t (ap (λ fs. e ∷ fs) (hung-low a s B es h (All-tail (λ (f : Item). f.0 < s) e es l)))

-- ---- serials of entries

abbrev pub Below : ℕ → List Entry → Type 0
Below s es = All (λ (f : Entry). f.0.0 < s) es

abbrev pub Above : ℕ → List Entry → Type 0
Above s es = All (λ (f : Entry). s < f.0.0) es

pub above-items : (s : ℕ) (es : List Entry) → All (λ (f : Item). s < f.0) (items_of es) → Above s es
above-items s es h = λ k d l. subst (λ (x : Item). s < x.0) (get_or-map (λ (e : Entry). e.0) es k d d.0 l) (h k d.0 (omega (arith, l, length-map es (λ (e : Entry). e.0))))

pub below-items : (s : ℕ) (es : List Entry) → Below s es → All (λ (f : Item). f.0 < s) (items_of es)
below-items s es h = All-map (λ (f : Item). f.0 < s) (λ (e : Entry). e.0) es h

pub all-above : (s : ℕ) (es : List Entry) → Above s es → All (λ (f : Item). s < f.0) (items_of es)
all-above s es h = All-map (λ (f : Item). s < f.0) (λ (e : Entry). e.0) es h

above-at : (s : ℕ) (es : List Entry) (n : ℕ) (e : Entry) → Above s es → slice_get es n ≡ Some e → s < e.0.0
above-at s [] n e h g = absurd cc
above-at s (f ∷ fs) zero e h g = subst (λ (x : Entry). s < x.0.0) (unsome g) (All-head (λ (x : Entry). s < x.0.0) f fs h)
above-at s (f ∷ fs) (suc n) e h g = above-at s fs n e (All-tail (λ (x : Entry). s < x.0.0) f fs h) g

rest-above : (s : ℕ) (es : List Entry) → Above s es → filter (λ (f : Entry). not (eqb f.0.0 s)) es ≡ es
rest-above s [] h = refl
rest-above s (e ∷ es) h =
    let q : s < e.0.0 = All-head (λ (f : Entry). s < f.0.0) e es h in
    let t : eqb e.0.0 s ≡ false = grind (arith, nat_tests) in
    simp t (ap (λ l. e ∷ l) (rest-above s es (All-tail (λ (f : Entry). s < f.0.0) e es h)))

-- An entry at a place, and what is before it and after it.
pub record Cut (es : List Entry) (n : ℕ) (e : Entry) : Type 0 where
  pub within : n < length es
  pub whole : es ≡ take n es ++ e ∷ drop (suc n) es
  pub found : find (λ (f : Entry). eqb e.0.0 f.0.0) es ≡ Some e
  pub behind : later e.0.0 es ≡ drop (suc n) es
  pub rest : filter (λ (f : Entry). not (eqb f.0.0 e.0.0)) es ≡ take n es ++ drop (suc n) es
  pub low : Below e.0.0 (take n es)
  pub high : Above e.0.0 (drop (suc n) es)

pub cut : (es : List Entry) (n : ℕ) (e : Entry) → Rising (items_of es) → slice_get es n ≡ Some e → Cut es n e
cut [] n e r g = absurd cc
cut (f ∷ fs) zero e r g =
    let q : f ≡ e = unsome g in
    let above : Above f.0.0 fs = above-items f.0.0 fs r.0 in
    let t : eqb f.0.0 f.0.0 ≡ true = grind (arith, nat_tests) in
    subst (Cut (f ∷ fs) zero) q (record {
      within = omega arith;
      whole = refl;
      found = simp t;
      behind = simp t;
      rest = simp t (rest-above f.0.0 fs above);
      low = All-nil (λ (x : Entry). x.0.0 < f.0.0);
      high = above;
    })
cut (f ∷ fs) (suc n) e r g =
    let w = cut fs n e r.1 g in
    let above : Above f.0.0 fs = above-items f.0.0 fs r.0 in
    let l : f.0.0 < e.0.0 = above-at f.0.0 fs n e above g in
    let t : eqb e.0.0 f.0.0 ≡ false = grind (arith, nat_tests) in
    let u : eqb f.0.0 e.0.0 ≡ false = grind (arith, nat_tests) in
    let k = w.within in
    record {
      within = omega arith;
      whole = ap (λ x. f ∷ x) w.whole;
      found = simp t w.found;
      behind = simp t w.behind;
      rest = simp u (ap (λ x. f ∷ x) w.rest);
      low = All-cons (λ (x : Entry). x.0.0 < e.0.0) f (take n fs) l w.low;
      high = w.high;
    }

-- so it is left out of the items
pub other-items : (es : List Entry) (n : ℕ) (e : Entry) → Cut es n e → others e.0.0 (items_of es) ≡ items_of (take n es) ++ items_of (drop (suc n) es)
other-items es n e c = others-items es ∙ ap items_of c.rest ∙ items-append (take n es) (drop (suc n) es)
  where
    others-items : (es : List Entry) → others e.0.0 (items_of es) ≡ items_of (filter (λ (f : Entry). not (eqb f.0.0 e.0.0)) es)
    others-items [] = refl
    others-items (f ∷ fs) = split_on (eqb f.0.0 e.0.0) (λ t. simp t (others-items fs)) (λ t. simp t (ap (λ l. f.0 ∷ l) (others-items fs)))

pub above-hung : (s : ℕ) (a : Option Tag) (B : List ℕ) (es : List Entry) → Above s es → Above s (entries_re_anchored a B es)
above-hung s a B [] h = All-nil (λ (f : Entry). s < f.0.0)
above-hung s a B (e ∷ es) h = by (is_among e.0.0 B) (above-hung s a B es (All-tail (λ (f : Entry). s < f.0.0) e es h))
  where
    by : (c : Bool) → Above s (entries_re_anchored a B es) → Above s (cond c (hung_on a e) e ∷ entries_re_anchored a B es)
    by true r = All-cons (λ (f : Entry). s < f.0.0) (hung_on a e) (entries_re_anchored a B es) (All-head (λ (f : Entry). s < f.0.0) e es h) r
    by false r = All-cons (λ (f : Entry). s < f.0.0) e (entries_re_anchored a B es) (All-head (λ (f : Entry). s < f.0.0) e es h) r

-- ---- the place of a serial

pub place-cut : (s : ℕ) (xs ys : List Entry) → Below s xs → Above s ys → place_of s (xs ++ ys) ≡ length xs
place-cut s [] [] l h = refl
place-cut s [] (y ∷ ys) l h =
    let q : s < y.0.0 = All-head (λ (f : Entry). s < f.0.0) y ys h in
    let t : nat_lt y.0.0 s ≡ false = grind (arith, nat_tests) in simp t
place-cut s (x ∷ xs) ys l h =
    let q : x.0.0 < s = All-head (λ (f : Entry). f.0.0 < s) x xs l in
    let t : nat_lt x.0.0 s ≡ true = grind (arith, nat_tests) in
    simp t (ap suc (place-cut s xs ys (All-tail (λ (f : Entry). f.0.0 < s) x xs l) h))

-- an edit put at its own place
pub put-between : (e : Item) (xs ys : List Item) → All (λ (f : Item). f.0 < e.0) xs → All (λ (f : Item). e.0 < f.0) ys → put_by_serial e (xs ++ ys) ≡ xs ++ e ∷ ys
put-between e [] [] l h = refl
put-between e [] (y ∷ ys) l h =
    let q : e.0 < y.0 = All-head (λ (f : Item). e.0 < f.0) y ys h in
    let t : nat_lt e.0 y.0 ≡ true = grind (arith, nat_tests) in simp t
put-between e (x ∷ xs) ys l h =
    let q : x.0 < e.0 = All-head (λ (f : Item). f.0 < e.0) x xs l in
    let t : nat_lt e.0 x.0 ≡ false = grind (arith, nat_tests) in
    simp t (ap (λ l. x ∷ l) (put-between e xs ys (All-tail (λ (f : Item). f.0 < e.0) x xs l) h))

-- what a serial finds isn't there where the entry at its place has another, or there is none
pub none-there : (s : ℕ) (es : List Entry) → Rising (items_of es) → ((e : Entry) → slice_get es (place_of s es) ≡ Some e → e.0.0 ≡ s → ⊥) → find (λ (f : Entry). eqb s f.0.0) es ≡ None
none-there s [] r h = refl
none-there s (e ∷ es) r h = split_on (nat_lt e.0.0 s)
    (λ t.
    let l : e.0.0 < s = grind (arith, nat_tests) in
    let u : eqb s e.0.0 ≡ false = grind (arith, nat_tests) in
    let p : place_of s (e ∷ es) ≡ suc (place_of s es) = simp t in
    simp u (none-there s es r.1 (λ f g. h f (ap (slice_get (e ∷ es)) p ∙ g))))
    (λ t.
    let p : place_of s (e ∷ es) ≡ 0 = simp t in
    let n : e.0.0 ≡ s → ⊥ = h e (ap (slice_get (e ∷ es)) p) in
    let l : s < e.0.0 = let k : s ≤ e.0.0 = grind (arith, nat_tests) in omega arith in
    let u : eqb s e.0.0 ≡ false = grind (arith, nat_tests) in
    simp u (high e.0.0 es (above-items e.0.0 es r.0) l))
  where
    high : (m : ℕ) (fs : List Entry) → Above m fs → s < m → find (λ (f : Entry). eqb s f.0.0) fs ≡ None
    high m [] a l = refl
    high m (f ∷ fs) a l =
        let q : m < f.0.0 = All-head (λ (x : Entry). m < x.0.0) f fs a in
        let u : eqb s f.0.0 ≡ false = grind (arith, nat_tests) in
        simp u (high m fs (All-tail (λ (x : Entry). m < x.0.0) f fs a) l)

-- ---- the serials of those that stand after an entry

pub behind-above : (e : Entry) (s : ℕ) (fs : List Entry) → Above s fs → All (λ m. s < m) (serials_behind e fs)
behind-above e s fs h = All-map (λ m. s < m) (λ (f : Entry). f.0.0) (filter (λ (f : Entry). not (apart e f)) fs) (All-filter (λ f. not (apart e f)) (λ (f : Entry). s < f.0.0) fs h)

pub behind-ascends : (e : Entry) (fs : List Entry) → Rising (items_of fs) → Ascends (serials_behind e fs)
behind-ascends e [] r = tt
behind-ascends e (f ∷ fs) r = by (apart e f) (behind-ascends e fs r.1)
  where
    by : (c : Bool) → Ascends (serials_behind e fs) → Ascends (map (λ (x : Entry). x.0.0) (cond (not c) (f ∷ filter (λ (x : Entry). not (apart e x)) fs) (filter (λ (x : Entry). not (apart e x)) fs)))
    by true m = m
    by false m = (behind-above e f.0.0 fs (above-items f.0.0 fs r.0), m)

pub rising-drop : (n : ℕ) (es : List Entry) → Rising (items_of es) → Rising (items_of (drop n es))
rising-drop zero es r = r
rising-drop (suc n) [] r = r
rising-drop (suc n) (e ∷ es) r = rising-drop n es r.1

-- what is found stands at a place
pub place-of-found : (s : ℕ) (es : List Entry) (e : Entry) → find (λ (f : Entry). eqb s f.0.0) es ≡ Some e → (n : ℕ) × (slice_get es n ≡ Some e)
place-of-found s [] e h = absurd cc
place-of-found s (f ∷ fs) e h = split_on (eqb s f.0.0)
    (λ t. let q : Some f ≡ Some e = simp t at h in (0, q))
    (λ t. let q : find (λ (x : Entry). eqb s x.0.0) fs ≡ Some e = simp t at h in let w = place-of-found s fs e q in (suc w.0, w.1))
