-- One value written.
use Rattle.std.proofs.Common.{◌≡◌, ◌∙◌, ℕ, zero, suc, Bool, true, false, cond, List, [], ◌∷◌, Option, Some, None, option_map, slice_get, refl, sym, ap}
use Rattle.std.specs.Prelude.{is_some}
use Rattle.std.specs.Option.{option_map_or}
use Rattle.std.specs.Map.{keys_of, values_of, set_value}
use Rattle.indexmap.specs.IndexMap.{set_value_at}
use Rattle.std.specs.List.{AllByRecursion, IsDistinct}
use Rattle.std.proofs.lemmas.Bool.{true≢false}
use Rattle.balise_rules.specs.declared.tag.Tag.{Tag}
use Rattle.balise_rules.specs.Tagged.{find}
use Rattle.balise_rules.specs.Tags.{same_tag}
use Rattle.balise_rules.proofs.Tests.{split_on, split_keys, tag_test, test-sym, IsTest}
use Rattle.balise_index.specs.InOrder.{is_among, Once, in_order, IsOrder}
use Rattle.balise_index.proofs.order.Entries.{All, same-order, rest_there, first_held, other, all_there}

pub found-set : {A : Type 0} (held : List (Tag × A)) (g q : Tag) (w : A) → find same_tag q (set_value (same_tag g) held w) ≡ cond (same_tag g q) (option_map (λ (x : A). w) (find same_tag q held)) (find same_tag q held)
found-set [] g q w = split_on (same_tag g q) (λ d. simp d refl) (λ d. simp d refl)
found-set (y ∷ ys) g q w =
    split_keys tag_test g q
    (λ d e. split_on (same_tag g y.0)
    (λ m. let n : same_tag q y.0 ≡ true = ap (λ u. same_tag u y.0) (sym e) ∙ m in simp (d, m, n) refl)
    (λ m. let n : same_tag q y.0 ≡ false = ap (λ u. same_tag u y.0) (sym e) ∙ m in simp (d, m, n) (found-set ys g q w ∙ ap (λ b. cond b (option_map (λ x. w) (find same_tag q ys)) (find same_tag q ys)) d)))
    (λ d. split_on (same_tag g y.0)
    (λ m. let n : same_tag q y.0 ≡ false = ap (same_tag q) (sym (tag_test.one g y.0 m)) ∙ test-sym tag_test q g ∙ d in simp (d, m, n) refl)
    (λ m. simp (d, m) (ap (cond (same_tag q y.0) (Some y.1)) (found-set ys g q w ∙ ap (λ b. cond b (option_map (λ x. w) (find same_tag q ys)) (find same_tag q ys)) d))))

some_same : {A : Type 0} (o : Option A) (w : A) (b : Bool) → is_some (cond b (option_map (λ (x : A). w) o) o) ≡ is_some o
some_same (Some x) w true = refl
some_same (Some x) w false = refl
some_same None w true = refl
some_same None w false = refl

pub order-set : {A : Type 0} (held new : List (Tag × A)) (gs : List Tag) (g : Tag) (w : A) → new ≡ set_value (same_tag g) held w → IsOrder held gs → IsOrder new gs
order-set held new gs g w e o = record {
  once = o.once;
  there = λ q. ap (λ l. is_some (find same_tag q l)) e ∙ ap is_some (found-set held g q w) ∙ some_same (find same_tag q held) w (same_tag g q) ∙ o.there q;
}

set_order : {A : Type 0} (held new : List (Tag × A)) (g : Tag) (w : A) (gs : List Tag) → ((q : Tag) → find same_tag q new ≡ cond (same_tag g q) (option_map (λ (x : A). w) (find same_tag q held)) (find same_tag q held)) → Once gs → All held gs
    → in_order new gs ≡ set_value (same_tag g) (in_order held gs) w
set_order held new g w [] f o h = refl
set_order held new g w (k ∷ ks) f o h =
    first_held held k ks h (λ x e.
    split_keys tag_test g k
    (λ d q.
    let apart : is_among g ks ≡ false = ap (λ u. is_among u ks) q ∙ o.0 in
    let n : find same_tag k new ≡ Some w = f k ∙ ap (λ b. cond b (option_map (λ x. w) (find same_tag k held)) (find same_tag k held)) d ∙ ap (option_map (λ x. w)) e in
    simp (e, n, d) (ap (λ l. (k, w) ∷ l) (same-order new held ks (λ r m. f r ∙ ap (λ b. cond b (option_map (λ x. w) (find same_tag r held)) (find same_tag r held)) (other g r ks apart m)))))
    (λ d.
    let n : find same_tag k new ≡ Some x = f k ∙ ap (λ b. cond b (option_map (λ x. w) (find same_tag k held)) (find same_tag k held)) d ∙ e in
    simp (e, n, d) (ap (λ l. (k, x) ∷ l) (set_order held new g w ks f o.1 (rest_there held k ks h)))))

pub set-order : {A : Type 0} (held new : List (Tag × A)) (gs : List Tag) (g : Tag) (w : A) → new ≡ set_value (same_tag g) held w → IsOrder held gs → in_order new gs ≡ set_value (same_tag g) (in_order held gs) w
set-order held new gs g w e o = set_order held new g w gs (λ q. ap (find same_tag q) e ∙ found-set held g q w) o.once (all_there o)

-- nothing is written where nothing stands
pub none-written : {A : Type 0} (g : Tag) (xs : List (Tag × A)) (w : A) → find same_tag g xs ≡ None → set_value (same_tag g) xs w ≡ xs
none-written g [] w n = refl
none-written g (y ∷ ys) w n = split_on (same_tag g y.0) (λ d. absurd (let h = simp d at n in cc)) (λ d. let h : find same_tag g ys ≡ None = simp d at n in simp d (ap (λ l. y ∷ l) (none-written g ys w h)))

module _ {K : Type 0} {same : K → K → Bool} (t : IsTest same) where
  not_here : (g k : K) (ks : List K) (i : ℕ) → AllByRecursion (λ y. same k y ≡ false) ks → slice_get ks i ≡ Some g → same g k ≡ false
  not_here g k [] i h e = absurd (true≢false (ap is_some (sym e)))
  not_here g k (q ∷ qs) zero h e = ap (λ r. option_map_or (λ z. same z k) r false) (sym e) ∙ test-sym t q k ∙ h.0
  not_here g k (q ∷ qs) (suc i) h e = not_here g k qs i h.1 e

  here : (g k : K) → Some k ≡ Some g → same g k ≡ true
  here g k e = ap (λ r. option_map_or (λ z. same z k) r false) (sym e) ∙ t.itself k

  pub set-own : {A : Type 0} (held : List (K × A)) (i : ℕ) (g : K) (w : A) → IsDistinct same (keys_of held) → slice_get (keys_of held) i ≡ Some g → set_value_at held i w ≡ set_value (same g) held w
  unfolding IsDistinct
  set-own [] i g w u e = refl
  set-own (x ∷ xs) zero g w u e = sym (ap (λ b. cond b ((x.0, w) ∷ xs) (x ∷ set_value (same g) xs w)) (here g x.0 e))
  set-own (x ∷ xs) (suc i) g w u e =
      ap (λ l. x ∷ l) (set-own xs i g w u.1 e) ∙ sym (ap (λ b. cond b ((x.0, w) ∷ xs) (x ∷ set_value (same g) xs w)) (not_here g x.0 (keys_of xs) i u.0 e))

  pub found-own : {A : Type 0} (held : List (K × A)) (i : ℕ) (g : K) → IsDistinct same (keys_of held) → slice_get (keys_of held) i ≡ Some g → slice_get (values_of held) i ≡ find same g held
  unfolding IsDistinct
  found-own [] i g u e = refl
  found-own (x ∷ xs) zero g u e = sym (ap (λ b. cond b (Some x.1) (find same g xs)) (here g x.0 e))
  found-own (x ∷ xs) (suc i) g u e =
      found-own xs i g u.1 e ∙ sym (ap (λ b. cond b (Some x.1) (find same g xs)) (not_here g x.0 (keys_of xs) i u.0 e))
