-- One tag more in the order.
use Rattle.std.proofs.Common.{◌≡◌, ◌∙◌, ℕ, zero, suc, ◌≤◌, Bool, true, false, cond, ◌||◌, List, [], ◌∷◌, Some, length, insert, refl, sym, ap, arith}
use Rattle.std.specs.Prelude.{is_some}
use Rattle.std.proofs.lemmas.Bool.{cond_both, or_right}
use Rattle.balise_rules.specs.declared.tag.Tag.{Tag}
use Rattle.balise_rules.specs.Tagged.{find}
use Rattle.balise_rules.specs.Tags.{same_tag}
use Rattle.balise_rules.proofs.Tests.{tag_test, test-sym}
use Rattle.balise_index.specs.InOrder.{is_among, Once, in_order, IsOrder}
use Rattle.balise_index.proofs.order.Entries.{All, same-order, rest_there, not_first, not_later, first_held, other}

module _ {A : Type 0} (held new : List (Tag × A)) (g : Tag) (x : A) (put : (q : Tag) → find same_tag q new ≡ cond (same_tag g q) (Some x) (find same_tag q held)) where
  put_here : find same_tag g new ≡ Some x
  put_here = put g ∙ ap (λ b. cond b (Some x) (find same_tag g held)) (tag_test.itself g)

  put_other : (q : Tag) → same_tag g q ≡ false → find same_tag q new ≡ find same_tag q held
  put_other q d = put q ∙ ap (λ b. cond b (Some x) (find same_tag q held)) d

  pub insert-order : (gs : List Tag) (i : ℕ) → is_among g gs ≡ false → All held gs → i ≤ length gs → in_order new (insert gs i g) ≡ insert (in_order held gs) i (g, x)
  insert-order [] zero n h w = simp put_here refl
  insert-order [] (suc i) n h w = absurd (omega (arith, w))
  insert-order (k ∷ ks) zero n h w = simp put_here (ap (λ l. (g, x) ∷ l) (same-order new held (k ∷ ks) (λ q e. put_other q (other g q (k ∷ ks) n e))))
  insert-order (k ∷ ks) (suc i) n h w =
      first_held held k ks h (λ y e.
      let f : find same_tag k new ≡ Some y = put_other k (not_first g k ks n) ∙ e in
      simp (e, f) (ap (λ l. (k, y) ∷ l) (insert-order ks i (not_later g k ks n) (rest_there held k ks h) (omega (arith, w)))))

among_put : (q g : Tag) (gs : List Tag) (i : ℕ) → i ≤ length gs → is_among q (insert gs i g) ≡ (same_tag q g || is_among q gs)
among_put q g [] zero w = refl
among_put q g [] (suc i) w = absurd (omega (arith, w))
among_put q g (k ∷ ks) zero w = refl
among_put q g (k ∷ ks) (suc i) w = ap (λ b. same_tag q k || b) (among_put q g ks i (omega (arith, w))) ∙ swap (same_tag q k) (same_tag q g) (is_among q ks)
  where
    swap : (a b c : Bool) → (a || (b || c)) ≡ (b || (a || c))
    swap true b c = sym (or_right b true refl)
    swap false b c = refl

once_put : (g : Tag) (gs : List Tag) (i : ℕ) → i ≤ length gs → is_among g gs ≡ false → Once gs → Once (insert gs i g)
once_put g [] zero w n o = (n, o)
once_put g [] (suc i) w n o = absurd (omega (arith, w))
once_put g (k ∷ ks) zero w n o = (n, o)
once_put g (k ∷ ks) (suc i) w n o =
    let apart : same_tag k g ≡ false = test-sym tag_test k g ∙ not_first g k ks n in
    (among_put k g ks i (omega (arith, w)) ∙ ap (λ b. b || is_among k ks) apart ∙ o.0, once_put g ks i (omega (arith, w)) (not_later g k ks n) o.1)

pub order-put : {A : Type 0} (held new : List (Tag × A)) (gs : List Tag) (g : Tag) (x : A) (i : ℕ) → ((q : Tag) → find same_tag q new ≡ cond (same_tag g q) (Some x) (find same_tag q held)) → i ≤ length gs → is_among g gs ≡ false → IsOrder held gs → IsOrder new (insert gs i g)
order-put held new gs g x i put w n o = record {
  once = once_put g gs i w n o.once;
  there = λ q. ap is_some (put q)
      ∙ cond_both (same_tag g q) (Some x) (find same_tag q held) (λ r. is_some r ≡ (same_tag q g || is_among q gs))
      (λ e. ap (λ c. c || is_among q gs) (sym (test-sym tag_test q g ∙ e)))
      (λ e. o.there q ∙ ap (λ c. c || is_among q gs) (sym (test-sym tag_test q g ∙ e)))
      ∙ sym (among_put q g gs i w);
}
