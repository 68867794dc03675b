-- Packets tagged by their places, as what was read alone: each tag stands once, and no serial tags any.
-- From the numbering of the places.
use Rattle.std.proofs.Common.{◌≡◌, ℕ, zero, suc, ◌+◌, ◌<◌, true, false, eqb, List, [], ◌∷◌, Some, None, option_map, slice_get, refl, sym, ap, ◌∙◌, arith}
use Rattle.std.proofs.lemmas.Bool.{ne_eqb}
use Rattle.balise_rules.specs.declared.tag.Tag.{Tag}
use Rattle.balise_rules.specs.declared.tag.Tag.TheVariants.{Base, Fresh}
use Rattle.balise_rules.specs.Tagged.{find, each, Distinct}
use Rattle.balise_rules.specs.Tags.{same_tag}
use Rattle.balise_rules.specs.Packet.{Packet}
use Rattle.balise_rules.specs.Telegram.{TaggedFrom}
use Rattle.balise_rules.proofs.Tests.{tag_test, equal_yes}

tagged_absent : (m n : ℕ) → (ps : List (Tag × Packet)) → TaggedFrom n ps → m < n → find same_tag (Base m) ps ≡ None
tagged_absent m n [] u l = refl
tagged_absent m n (y ∷ ys) u l =
    let e : eqb m n ≡ false = ne_eqb m n (λ q. omega (arith, q, l)) in
    let d : same_tag (Base m) y.0 ≡ false = ap (same_tag (Base m)) u.0 ∙ e in
    simp d (tagged_absent m (suc n) ys u.1 (omega (arith, l)))

pub tagged_distinct : (n : ℕ) → (ps : List (Tag × Packet)) → TaggedFrom n ps → Distinct same_tag ps
tagged_distinct n [] u = tt
tagged_distinct n (y ∷ ys) u = (ap (λ t. find same_tag t ys) u.0 ∙ tagged_absent n (suc n) ys u.1 (omega arith), tagged_distinct (suc n) ys u.1)

pub never_fresh : (s n : ℕ) → (ps : List (Tag × Packet)) → TaggedFrom n ps → find same_tag (Fresh s) ps ≡ None
never_fresh s n [] u = refl
never_fresh s n (y ∷ ys) u = let d : same_tag (Fresh s) y.0 ≡ false = ap (same_tag (Fresh s)) u.0 in simp d (never_fresh s (suc n) ys u.1)

-- what changes packets leaves their tags
pub tagged_each : (n : ℕ) → (f : Tag → Packet → Packet) → (ps : List (Tag × Packet)) → TaggedFrom n ps → TaggedFrom n (each f ps)
tagged_each n f [] u = tt
tagged_each n f (y ∷ ys) u = (u.0, tagged_each (suc n) f ys u.1)

-- the packet at a place is the one with the tag of the place
pub tagged_at : (n i m : ℕ) → (ps : List (Tag × Packet)) → m ≡ n + i → TaggedFrom n ps → slice_get ps i ≡ option_map (λ (x : Packet). (Base m, x)) (find same_tag (Base m) ps)
tagged_at n i m [] e u = refl
tagged_at n zero m (y ∷ ys) e u =
    let same : Base m ≡ y.0 = ap Base (let k : m ≡ n = omega (arith, e) in k) ∙ sym u.0 in
    let d : same_tag (Base m) y.0 ≡ true = equal_yes tag_test (Base m) y.0 same in
    simp d (ap (λ (t : Tag). Some (t, y.1)) (sym same))
tagged_at n (suc i) m (y ∷ ys) e u =
    let k : eqb m n ≡ false = ne_eqb m n (λ q. omega (arith, q, e)) in
    let d : same_tag (Base m) y.0 ≡ false = ap (same_tag (Base m)) u.0 ∙ k in
    simp d (tagged_at (suc n) i m ys (omega (arith, e)) u.1)
