-- The packets of a telegram changed one after another, each at its place.
-- From the change of the packet with a tag, as no tag stands twice.
use Rattle.std.proofs.Common.{◌≡◌, ◌∙◌, ◌+◌, ◌<◌, ◌≤◌, ℕ, zero, suc, Bool, true, cond, List, [], ◌∷◌, length, slice_get, take, Some, None, refl, sym, ap, arith}
use Rattle.balise_rules.specs.declared.tag.Tag.{Tag}
use Rattle.balise_rules.specs.Packet.{Packet, width}
use Rattle.balise_rules.specs.Tagged.{find, each, Distinct}
use Rattle.balise_rules.specs.Tags.{same_tag}
use Rattle.balise_rules.specs.Telegram.{Telegram, used}
use Rattle.balise_rules.proofs.Cases.{unsome}
use Rattle.balise_rules.proofs.Each.{each-absent, length-each}
use Rattle.balise_rules.proofs.Tests.{IsTest, split_on, tag_test}
use Rattle.balise_telegram.specs.declared.telegram.walking.Place.{Place}
use Rattle.balise_telegram.specs.Packed.{packet_place}
use Rattle.balise_telegram.specs.Setting.{with_changed}
use Rattle.balise_telegram.specs.Shown.{IsPlace}
use Rattle.balise_telegram.proofs.Tagging.{Packets}

-- the first n items changed
abbrev pub each_to : {K A : Type 0} → (K → A → A) → ℕ → List (K × A) → List (K × A)
each_to f zero xs = xs
each_to f (suc n) [] = []
each_to f (suc n) (y ∷ ys) = (y.0, f y.0 y.1) ∷ each_to f n ys

pub each-all : {K A : Type 0} (f : K → A → A) (n : ℕ) (xs : List (K × A)) → length xs ≤ n → each_to f n xs ≡ each f xs
each-all f zero [] e = refl
each-all f zero (y ∷ ys) e = absurd (omega (arith, e))
each-all f (suc n) [] e = refl
each-all f (suc n) (y ∷ ys) e = ap (λ r. (y.0, f y.0 y.1) ∷ r) (each-all f n ys (omega (arith, e)))

pub each_to-length : {K A : Type 0} (f : K → A → A) (n : ℕ) (xs : List (K × A)) → length (each_to f n xs) ≡ length xs
each_to-length f zero xs = refl
each_to-length f (suc n) [] = refl
each_to-length f (suc n) (y ∷ ys) = ap suc (each_to-length f n ys)

-- what stands in a list isn't missing there
there : {K A : Type 0} {same : K → K → Bool} → IsTest same → (xs : List (K × A)) (i : ℕ) (x : K × A) → slice_get xs i ≡ Some x → find same x.0 xs ≡ None → ⊥
there t [] i x e n = absurd cc
there {same = same} t (y ∷ ys) zero x e n = let s : same x.0 y.0 ≡ true = ap (λ z. same x.0 z.0) (unsome e) ∙ t.itself x.0 in let m = simp s at n in cc
there {same = same} t (y ∷ ys) (suc i) x e n =
    split_on (same x.0 y.0) (λ d. let m = simp d at n in absurd cc) (λ d. let m : find same x.0 ys ≡ None = simp d at n in there t ys i x e m)

-- the first items changed leave the next one as it is
pub at_next : {K A : Type 0} (f : K → A → A) (i : ℕ) (xs : List (K × A)) → slice_get (each_to f i xs) i ≡ slice_get xs i
at_next f zero xs = refl
at_next f (suc i) [] = refl
at_next f (suc i) (y ∷ ys) = at_next f i ys

-- and it is changed by its key
pub one-step : {K A : Type 0} {same : K → K → Bool} → IsTest same → (f : A → A) (i : ℕ) (xs : List (K × A)) (x : K × A) → Distinct same xs → slice_get xs i ≡ Some x →
    each (λ q z. cond (same x.0 q) (f z) z) (each_to (λ _ z. f z) i xs) ≡ each_to (λ _ z. f z) (suc i) xs
one-step t f i [] x u e = absurd cc
one-step {same = same} t f zero (y ∷ ys) x u e =
    let r : x.0 ≡ y.0 = ap (λ z. z.0) (unsome (sym e)) in
    let s : same x.0 y.0 ≡ true = ap (λ z. same z y.0) r ∙ t.itself y.0 in
    let g = each-absent same x.0 f ys (ap (λ z. find same z ys) r ∙ u.0) in
    simp s (ap (λ l. (y.0, f y.1) ∷ l) g)
one-step {same = same} t f (suc i) (y ∷ ys) x u e =
    split_on (same x.0 y.0)
    (λ d. absurd (there t ys i x e (ap (λ z. find same z ys) (t.one x.0 y.0 d) ∙ u.0)))
    (λ d. simp d (ap (λ l. (y.0, f y.1) ∷ l) (one-step t f i ys x u.1 e)))

-- ---- places

pub some_at : {X : Type 0} (xs : List X) (i : ℕ) → i < length xs → (x : X) × (slice_get xs i ≡ Some x)
some_at [] i h = absurd (omega (arith, h))
some_at (x ∷ xs) zero h = (x, refl)
some_at (x ∷ xs) (suc i) h = some_at xs i (omega (arith, h))

-- the packet at a place of the order stands there among the bits under its own tag
pub place_of_next : (at place : ℕ) (ps : Packets) (i : ℕ) (x : Tag × Packet) → Distinct same_tag ps → slice_get ps i ≡ Some x → place + 58 ≡ at + used (take i ps) → packet_place at x.0 ps ≡ Some place
place_of_next at place [] i x u e far = absurd cc
place_of_next at place (y ∷ ys) zero x u e far =
    let s : same_tag x.0 y.0 ≡ true = ap (λ z. same_tag x.0 z.0) (unsome e) ∙ tag_test.itself x.0 in
    simp s (ap Some (let k : at ≡ place = omega (arith, far) in k))
place_of_next at place (y ∷ ys) (suc i) x u e far =
    split_on (same_tag x.0 y.0)
    (λ d. absurd (there tag_test ys i x e (ap (λ z. find same_tag z ys) (tag_test.one x.0 y.0 d) ∙ u.0)))
    (λ d. simp d (place_of_next (at + width y.1) place ys i x u.1 e (omega (arith, far))))

used_to : (g : Tag → Packet → Packet) → ((q : Tag) (x : Packet) → width (g q x) ≡ width x) → (n : ℕ) (ps : Packets) → used (take n (each g ps)) ≡ used (take n ps)
used_to g w zero ps = refl
used_to g w (suc n) [] = refl
used_to g w (suc n) (y ∷ ys) = omega (arith, w y.0 y.1, used_to g w n ys)

-- where each packet stays as wide, places stay
pub place_kept : (tag : Tag) (f : Packet → Packet) → ((x : Packet) → width (f x) ≡ width x) → (y : Telegram) (p : Place) → IsPlace y p → IsPlace (with_changed tag f y) p
place_kept tag f w y p is =
    let g = λ (q : Tag) (x : Packet). cond (same_tag tag q) (f x) x in
    let wide : (q : Tag) (x : Packet) → width (g q x) ≡ width x = λ q x. split_on (same_tag tag q) (λ d. simp d (w x)) (λ d. simp d refl) in
    (omega (arith, is.0, length-each g y.packets), is.1 ∙ sym (used_to g wide p.index y.packets))
