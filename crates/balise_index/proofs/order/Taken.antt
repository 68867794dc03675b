-- One tag less in the order.
use Rattle.std.proofs.Common.{◌≡◌, ◌∙◌, ℕ, zero, suc, ◌<◌, Bool, true, false, cond, ◌||◌, List, [], ◌∷◌, Option, Some, None, length, position, remove, get_or, refl, sym, ap, arith}
use Rattle.std.specs.Prelude.{is_some}
use Rattle.std.specs.Map.{keys_of, remove_entry}
use Rattle.std.proofs.lemmas.List.Quantifiers.{position-Some}
use Rattle.indexmap.proofs.MapLemmas.{some_index}
use Rattle.std.proofs.lemmas.Bool.{true≢false, cond_both}
use Rattle.balise_rules.specs.declared.tag.Tag.{Tag}
use Rattle.balise_rules.specs.Tagged.{find}
use Rattle.balise_rules.specs.Tags.{same_tag}
use Rattle.balise_rules.proofs.Tests.{split_on, split_keys, tag_test, test-sym}
use Rattle.balise_index.specs.InOrder.{is_among, Once, in_order, IsOrder}
use Rattle.balise_index.proofs.order.Entries.{All, same-order, rest_there, found-order, first_held, other}

-- the first tag that passes stands at a place
abbrev pub StandsAt : (Tag → Bool) → List Tag → ℕ → Type 0
StandsAt test [] i = ⊥
StandsAt test (k ∷ ks) zero = test k ≡ true
StandsAt test (k ∷ ks) (suc i) = (test k ≡ false) × StandsAt test ks i

module _ {A : Type 0} (held new : List (Tag × A)) (g : Tag) (out : (q : Tag) → find same_tag q new ≡ cond (same_tag g q) None (find same_tag q held)) where
  out_other : (q : Tag) → same_tag g q ≡ false → find same_tag q new ≡ find same_tag q held
  out_other q d = out q ∙ ap (λ b. cond b None (find same_tag q held)) d

  pub remove-order : (gs : List Tag) (i : ℕ) → StandsAt (same_tag g) gs i → Once gs → All held gs → in_order new (remove gs i) ≡ remove_entry (same_tag g) (in_order held gs)
  remove-order [] i a o h = absurd a
  remove-order (k ∷ ks) zero a o h =
      first_held held k ks h (λ y e.
      let apart : is_among g ks ≡ false = ap (λ u. is_among u ks) (tag_test.one g k a) ∙ o.0 in
      simp (e, a) (same-order new held ks (λ q f. out_other q (other g q ks apart f))))
  remove-order (k ∷ ks) (suc i) a o h =
      first_held held k ks h (λ y e.
      let f : find same_tag k new ≡ Some y = out_other k a.0 ∙ e in
      let n = a.0 in
      simp (e, f, n) (ap (λ l. (k, y) ∷ l) (remove-order ks i a.1 o.1 (rest_there held k ks h))))

among_out : (q g : Tag) (gs : List Tag) (i : ℕ) → StandsAt (same_tag g) gs i → Once gs → is_among q (remove gs i) ≡ cond (same_tag g q) false (is_among q gs)
among_out q g [] i a o = absurd a
among_out q g (k ∷ ks) zero a o =
    let same : g ≡ k = tag_test.one g k a in
    split_keys tag_test g q
    (λ d e. simp d (ap (λ u. is_among u ks) (sym e ∙ same) ∙ o.0))
    (λ d. let n : same_tag q k ≡ false = ap (same_tag q) (sym same) ∙ test-sym tag_test q g ∙ d in simp (d, n) refl)
among_out q g (k ∷ ks) (suc i) a o =
    ap (λ b. same_tag q k || b) (among_out q g ks i a.1 o.1)
    ∙ split_keys tag_test g q
    (λ d e. let n : same_tag q k ≡ false = ap (λ u. same_tag u k) (sym e) ∙ a.0 in simp (d, n) refl)
    (λ d. simp d refl)

once_out : (g : Tag) (gs : List Tag) (i : ℕ) → StandsAt (same_tag g) gs i → Once gs → Once (remove gs i)
once_out g [] i a o = absurd a
once_out g (k ∷ ks) zero a o = o.1
once_out g (k ∷ ks) (suc i) a o = (among_out k g ks i a.1 o.1 ∙ ap (cond (same_tag g k) false) o.0 ∙ cond_both (same_tag g k) false false (λ b. b ≡ false) (λ d. refl) (λ d. refl), once_out g ks i a.1 o.1)

pub order-out : {A : Type 0} (held new : List (Tag × A)) (gs : List Tag) (g : Tag) (i : ℕ) → ((q : Tag) → find same_tag q new ≡ cond (same_tag g q) None (find same_tag q held)) → StandsAt (same_tag g) gs i → IsOrder held gs → IsOrder new (remove gs i)
order-out held new gs g i out a o = record {
  once = once_out g gs i a o.once;
  there = λ q. ap is_some (out q) ∙ split_on (same_tag g q) (λ d. simp d) (λ d. simp d (o.there q)) ∙ sym (among_out q g gs i a o.once);
}

-- the place at which a tag stands
pub stands-at : (g : Tag) (gs : List Tag) (i : ℕ) → position (same_tag g) gs ≡ Some i → StandsAt (same_tag g) gs i
stands-at g [] i e = cc
stands-at g (k ∷ ks) i e = let p = position-Some (same_tag g) (k ∷ ks) i k e in by (k ∷ ks) i k p.0 p.1 p.2
  where
    by : (gs : List Tag) (i : ℕ) (d : Tag) → i < length gs → same_tag g (get_or gs i d) ≡ true → ((j : ℕ) → j < i → same_tag g (get_or gs j d) ≡ false) → StandsAt (same_tag g) gs i
    by [] i d h here below = absurd (omega (arith, h))
    by (k ∷ ks) zero d h here below = here
    by (k ∷ ks) (suc i) d h here below = (below 0 (omega arith), by ks i d (omega (arith, h)) here (λ j b. below (suc j) (omega (arith, b))))

none_there : {A : Type 0} (o : Option A) → is_some o ≡ false → o ≡ None
none_there (Some x) h = absurd (true≢false h)
none_there None h = refl

pub no-place-of : {A : Type 0} (g : Tag) (xs : List (Tag × A)) → position (same_tag g) (keys_of xs) ≡ None → find same_tag g xs ≡ None
no-place-of g xs e = none_there (find same_tag g xs) (sym (some_index (same_tag g) xs) ∙ ap is_some e)

pub no-place : {A : Type 0} (g : Tag) (xs : List (Tag × A)) → find same_tag g xs ≡ None → position (same_tag g) (keys_of xs) ≡ None
no-place g xs e = none_there (position (same_tag g) (keys_of xs)) (some_index (same_tag g) xs ∙ ap is_some e)

pub none-removed : {A : Type 0} (g : Tag) (xs : List (Tag × A)) → find same_tag g xs ≡ None → remove_entry (same_tag g) xs ≡ xs
none-removed g [] e = refl
none-removed g (y ∷ ys) e = split_on (same_tag g y.0) (λ d. absurd (let h = simp d at e in cc)) (λ d. let h : find same_tag g ys ≡ None = simp d at e in simp d (ap (λ l. y ∷ l) (none-removed g ys h)))

pub not-none : {A : Type 0} (held : List (Tag × A)) (gs : List Tag) (g : Tag) (i : ℕ) → IsOrder held gs → position (same_tag g) (keys_of (in_order held gs)) ≡ Some i → find same_tag g held ≡ None → ⊥
not-none held gs g i o p n = true≢false (ap is_some (sym p) ∙ some_index (same_tag g) (in_order held gs) ∙ ap is_some (found-order held gs g o ∙ n))

pub place-within : (g : Tag) (gs : List Tag) (i : ℕ) → StandsAt (same_tag g) gs i → i < length gs
place-within g [] i a = absurd a
place-within g (k ∷ ks) zero a = omega arith
place-within g (k ∷ ks) (suc i) a = let h = place-within g ks i a.1 in omega (arith, h)
