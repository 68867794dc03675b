-- What is held under codes, under the tags that these stand for.
use Rattle.std.proofs.Common.{◌≡◌, ◌∙◌, ◌+◌, ◌<◌, ◌≤◌, ◌⊎◌, inl, inr, ℕ, false, cond, List, [], ◌∷◌, Option, Some, None, length, refl, sym, ap, arith}
use Rattle.std.specs.Prelude.{eqb, is_some}
use Rattle.std.specs.Map.{set_value}
use Rattle.std.proofs.lemmas.Bool.{true≢false}
use Rattle.balise_rules.specs.declared.tag.Tag.{Tag}
use Rattle.balise_rules.specs.Tagged.{find}
use Rattle.balise_rules.specs.Tags.{same_tag}
use Rattle.balise_rules.proofs.Tests.{split_on, split_keys, equal_yes, other_no, tag_test, nat_test}
use Rattle.balise_index.specs.TagCode.{tag_of, HasNone, KeepsTags, OneCode}
use Rattle.balise_index.specs.InOrder.{in_order, tagged, HoldsKnown, IsOrder}
use Rattle.balise_index.proofs.order.Entries.{found-order}

-- the code stands for the tag
pub record IsCode (rare : List Tag) (c : ℕ) (g : Tag) : Type 0 where
  pub known : c < 4294000000 + length rare
  pub tag : tag_of rare c ≡ g

same_code : (rare : List Tag) → OneCode rare → (c d : ℕ) (g : Tag) → IsCode rare c g → d < 4294000000 + length rare → same_tag g (tag_of rare d) ≡ eqb c d
same_code rare one c d g is w =
    split_keys nat_test c d
    (λ m e. equal_yes tag_test g (tag_of rare d) (sym is.tag ∙ ap (tag_of rare) e) ∙ sym m)
    (λ m. other_no tag_test g (tag_of rare d) (λ q. true≢false (sym (equal_yes nat_test c d (one c d is.known w (is.tag ∙ q))) ∙ m)) ∙ sym m)

module _ {A : Type 0} (rare : List Tag) where
  known_first : (e : ℕ × A) (es : List (ℕ × A)) → HoldsKnown rare (e ∷ es) → e.0 < 4294000000 + length rare
  known_first e es h = h e.0 (ap (λ b. is_some (cond b (Some e.1) (find eqb e.0 es))) (nat_test.itself e.0))

  known_rest : (e : ℕ × A) (es : List (ℕ × A)) → HoldsKnown rare (e ∷ es) → HoldsKnown rare es
  known_rest e es h d s = h d (split_on (eqb d e.0) (λ m. simp m refl) (λ m. simp m s))

  pub find-code : OneCode rare → (c : ℕ) (g : Tag) → IsCode rare c g → (held : List (ℕ × A)) → HoldsKnown rare held → find same_tag g (tagged rare held) ≡ find eqb c held
  find-code one c g is [] h = refl
  find-code one c g is (e ∷ es) h =
      ap (λ b. cond b (Some e.1) (find same_tag g (tagged rare es))) (same_code rare one c e.0 g is (known_first e es h))
      ∙ ap (cond (eqb c e.0) (Some e.1)) (find-code one c g is es (known_rest e es h))

  pub find-none : (g : Tag) → HasNone rare g → (held : List (ℕ × A)) → HoldsKnown rare held → find same_tag g (tagged rare held) ≡ None
  find-none g n [] h = refl
  find-none g n (e ∷ es) h =
      ap (λ b. cond b (Some e.1) (find same_tag g (tagged rare es))) (n e.0 (known_first e es h)) ∙ find-none g n es (known_rest e es h)

  pub set-code : OneCode rare → (c : ℕ) (g : Tag) → IsCode rare c g → (w : A) (held : List (ℕ × A)) → HoldsKnown rare held → tagged rare (set_value (eqb c) held w) ≡ set_value (same_tag g) (tagged rare held) w
  set-code one c g is w [] h = refl
  set-code one c g is w (e ∷ es) h =
      let s : same_tag g (tag_of rare e.0) ≡ eqb c e.0 = same_code rare one c e.0 g is (known_first e es h) in
      split_on (eqb c e.0)
      (λ m. let n = s ∙ m in simp (m, n) refl)
      (λ m. let n = s ∙ m in simp (m, n) (ap (λ l. (tag_of rare e.0, e.1) ∷ l) (set-code one c g is w es (known_rest e es h))))

  some_set : (c d : ℕ) (w : A) (held : List (ℕ × A)) → is_some (find eqb d (set_value (eqb c) held w)) ≡ is_some (find eqb d held)
  some_set c d w [] = refl
  some_set c d w (e ∷ es) =
      split_on (eqb c e.0)
      (λ m. split_on (eqb d e.0) (λ n. simp (m, n) refl) (λ n. simp (m, n) refl))
      (λ m. split_on (eqb d e.0) (λ n. simp (m, n) refl) (λ n. simp (m, n) (some_set c d w es)))

  pub known-set : (c : ℕ) (w : A) (held : List (ℕ × A)) → HoldsKnown rare held → HoldsKnown rare (set_value (eqb c) held w)
  known-set c w held h d s = h d (sym (some_set c d w held) ∙ s)

  -- under a tag something is held under its code, or nothing is
  code_or_none : (g : Tag) (held : List (ℕ × A)) → HoldsKnown rare held → ((d : ℕ) × IsCode rare d g) ⊎ (find same_tag g (tagged rare held) ≡ None)
  code_or_none g [] h = inr refl
  code_or_none g (e ∷ es) h =
      split_keys tag_test g (tag_of rare e.0)
      (λ m q. inl (e.0, record { known = known_first e es h; tag = sym q }))
      (λ m. later m (code_or_none g es (known_rest e es h)))
    where
      later : same_tag g (tag_of rare e.0) ≡ false → ((d : ℕ) × IsCode rare d g) ⊎ (find same_tag g (tagged rare es) ≡ None) → ((d : ℕ) × IsCode rare d g) ⊎ (find same_tag g (tagged rare (e ∷ es)) ≡ None)
      later m (inl p) = inl p
      later m (inr n) = inr (simp m n)

  -- what is held under one code changed
  module _ (one : OneCode rare) (held new : List (ℕ × A)) (c : ℕ) (g : Tag) (is : IsCode rare c g) (r : Option A) (change : (d : ℕ) → find eqb d new ≡ cond (eqb c d) r (find eqb d held)) (h : HoldsKnown rare held) where
    pub known-change : HoldsKnown rare new
    known-change d s =
        split_keys nat_test c d
        (λ m e. omega (arith, is.known, e))
        (λ m. h d (ap is_some (ap (λ b. cond b r (find eqb d held)) (sym m) ∙ sym (change d)) ∙ s))

    pub find-change : (q : Tag) → find same_tag q (tagged rare new) ≡ cond (same_tag g q) r (find same_tag q (tagged rare held))
    find-change q =
        split_keys tag_test g q
        (λ m e. with_code c (record { known = is.known; tag = is.tag ∙ e }))
        (λ m. by m (code_or_none q new known-change) (code_or_none q held h))
      where
        with_code : (d : ℕ) → IsCode rare d q → find same_tag q (tagged rare new) ≡ cond (same_tag g q) r (find same_tag q (tagged rare held))
        with_code d k =
            find-code one d q k new known-change ∙ change d
            ∙ ap (λ b. cond b r (find eqb d held)) (sym (same_code rare one c d g is k.known) ∙ ap (same_tag g) k.tag)
            ∙ ap (cond (same_tag g q) r) (sym (find-code one d q k held h))

        by : same_tag g q ≡ false → ((d : ℕ) × IsCode rare d q) ⊎ (find same_tag q (tagged rare new) ≡ None) → ((d : ℕ) × IsCode rare d q) ⊎ (find same_tag q (tagged rare held) ≡ None)
            → find same_tag q (tagged rare new) ≡ cond (same_tag g q) r (find same_tag q (tagged rare held))
        by m (inl p) y = with_code p.0 p.1
        by m (inr x) (inl p) = with_code p.0 p.1
        by m (inr x) (inr y) = x ∙ sym y ∙ ap (λ b. cond b r (find same_tag q (tagged rare held))) (sym m)

pub tagged-kept : {A : Type 0} (old new : List Tag) (held : List (ℕ × A)) → KeepsTags old new → HoldsKnown old held → tagged new held ≡ tagged old held
tagged-kept old new [] k h = refl
tagged-kept old new (e ∷ es) k h =
    ap (λ g. (g, e.1) ∷ tagged new es) (k e.0 (known_first old e es h)) ∙ ap (λ l. (tag_of old e.0, e.1) ∷ l) (tagged-kept old new es k (known_rest old e es h))

pub known-kept : {A : Type 0} (old new : List Tag) (held : List (ℕ × A)) → length old ≤ length new → HoldsKnown old held → HoldsKnown new held
known-kept old new held m h d s = let w = h d s in omega (arith, w, m)

-- nothing is held under a tag that has no code
pub none-held : {A : Type 0} (rare : List Tag) (held : List (ℕ × A)) {gs : List Tag} {entries : List (Tag × A)} (g : Tag) → HasNone rare g → HoldsKnown rare held → IsOrder (tagged rare held) gs → in_order (tagged rare held) gs ≡ entries → find same_tag g entries ≡ None
none-held rare held {gs} g n h o view = sym (ap (find same_tag g) view) ∙ found-order (tagged rare held) gs g o ∙ find-none rare g n held h
