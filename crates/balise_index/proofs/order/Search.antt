-- The place of a tag in the order, looked for further and further away.
use Rattle.std.proofs.Common.{◌≡◌, ◌∙◌, ℕ, zero, suc, ◌+◌, ◌-◌, ◌<◌, ◌≤◌, ◌⊎◌, inl, inr, true, false, List, [], ◌∷◌, Some, None, length, position, slice_get, refl, sym, ap, arith}
use Rattle.std.specs.List.{position_from}
use Rattle.std.proofs.lemmas.Iterator.Adapters.{position_from-zero}
use Rattle.std.proofs.lemmas.Bool.{true≢false, cases_lt}
use Rattle.balise_rules.specs.declared.tag.Tag.{Tag}
use Rattle.balise_rules.specs.Tags.{same_tag}
use Rattle.balise_rules.proofs.Tests.{split_keys, tag_test}
use Rattle.balise_index.specs.InOrder.{is_among, is_at, Once}
use Rattle.balise_index.proofs.order.Entries.{later_is}

at-place : (g : Tag) (gs : List Tag) (i n : ℕ) → Once gs → is_at g (slice_get gs i) ≡ true → position_from (same_tag g) n gs ≡ Some (n + i)
at-place g [] i n o e = absurd (true≢false (sym e))
at-place g (k ∷ ks) zero n o e = simp e (ap Some (let z : n ≡ n + 0 = omega arith in z))
at-place g (k ∷ ks) (suc i) n o e =
    let r = at-place g ks i (n + 1) o.1 e in
    let there : is_among g ks ≡ true = at-among g ks i e in
    let d : same_tag g k ≡ false = split_keys tag_test g k (λ d q. absurd (true≢false (sym there ∙ ap (λ u. is_among u ks) q ∙ o.0))) (λ d. d) in
    simp d (r ∙ ap Some (let z : n + 1 + i ≡ n + suc i = omega arith in z))
  where
    at-among : (g : Tag) (ks : List Tag) (i : ℕ) → is_at g (slice_get ks i) ≡ true → is_among g ks ≡ true
    at-among g [] i e = absurd (true≢false (sym e))
    at-among g (k ∷ ks) zero e = simp e refl
    at-among g (k ∷ ks) (suc i) e = later_is g k ks (at-among g ks i e)

pub place-is : (g : Tag) (gs : List Tag) (i : ℕ) → Once gs → is_at g (slice_get gs i) ≡ true → position (same_tag g) gs ≡ Some i
place-is g gs i o e = position_from-zero (same_tag g) gs ∙ at-place g gs i 0 o e ∙ ap Some (let z : 0 + i ≡ i = omega arith in z)

no-place : (g : Tag) (gs : List Tag) (n : ℕ) → ((i : ℕ) → is_at g (slice_get gs i) ≡ false) → position_from (same_tag g) n gs ≡ None
no-place g [] n h = refl
no-place g (k ∷ ks) n h = let d : same_tag g k ≡ false = h 0 in simp d (no-place g ks (n + 1) (λ i. h (suc i)))

pub place-none : (g : Tag) (gs : List Tag) → ((i : ℕ) → is_at g (slice_get gs i) ≡ false) → position (same_tag g) gs ≡ None
place-none g gs h = position_from-zero (same_tag g) gs ∙ no-place g gs 0 h

-- no tag stands after the end
pub past-end : (g : Tag) (gs : List Tag) (i : ℕ) → length gs ≤ i → is_at g (slice_get gs i) ≡ false
past-end g [] i w = refl
past-end g (k ∷ ks) zero w = absurd (omega (arith, w))
past-end g (k ∷ ks) (suc i) w = past-end g ks i (omega (arith, w))

-- nothing was seen up to this distance
abbrev pub Unseen : Tag → List Tag → ℕ → ℕ → Type 0
Unseen g gs near far = (i : ℕ) → i < near + far → near < i + far → is_at g (slice_get gs i) ≡ false

pub none-near : (g : Tag) (gs : List Tag) (near : ℕ) → Unseen g gs near 0
none-near g gs near i a b = absurd (omega (arith, a, b))

pub seen-one-more : (g : Tag) (gs : List Tag) (near far : ℕ) → is_at g (slice_get gs (near + far)) ≡ false → (far ≤ near → is_at g (slice_get gs (near - far)) ≡ false) → Unseen g gs near far → Unseen g gs near (far + 1)
seen-one-more g gs near far up down u i a b = by (cases_lt i (near + far)) (cases_lt near (i + far))
  where
    by : (i < near + far) ⊎ (near + far ≤ i) → (near < i + far) ⊎ (i + far ≤ near) → is_at g (slice_get gs i) ≡ false
    by (inl x) (inl y) = u i x y
    by (inr x) y = let e : near + far ≡ i = omega (arith, a, x) in ap (λ (j : ℕ). is_at g (slice_get gs j)) (sym e) ∙ up
    by (inl x) (inr y) = let e : near - far ≡ i = omega (arith, b, y) in ap (λ (j : ℕ). is_at g (slice_get gs j)) (sym e) ∙ down (omega (arith, y))

pub seen-all : (g : Tag) (gs : List Tag) (near far : ℕ) → near ≤ length gs → length gs < far → Unseen g gs near far → position (same_tag g) gs ≡ None
seen-all g gs near far w f u = place-none g gs (λ i. by i (cases_lt i (length gs)))
  where
    by : (i : ℕ) → (i < length gs) ⊎ (length gs ≤ i) → is_at g (slice_get gs i) ≡ false
    by i (inl x) = u i (omega (arith, f, x)) (omega (arith, w, f))
    by i (inr x) = past-end g gs i x
