-- The packets that are left from a place on.
use Rattle.std.proofs.Common.{◌≡◌, ◌∙◌, ℕ, zero, suc, ◌+◌, ◌<◌, ◌≤◌, [], ◌∷◌, length, drop, slice_get, Some, None, option_map, refl, sym, ap, add-one, arith}
use Rattle.balise_rules.specs.declared.tag.Tag.{Tag}
use Rattle.balise_rules.specs.Packet.{Packet}
use Rattle.balise_telegram.proofs.Tagging.{Packets}

pub none_left : (ps : Packets) (i : ℕ) → None ≡ option_map (λ (q : Tag × Packet). q.0) (slice_get ps i) → drop i ps ≡ []
none_left [] zero e = refl
none_left [] (suc i) e = refl
none_left (p ∷ ps) zero e = absurd cc
none_left (p ∷ ps) (suc i) e = none_left ps i e

pub past_all : (ps : Packets) (i : ℕ) → length ps ≤ i → drop i ps ≡ []
past_all [] zero h = refl
past_all [] (suc i) h = refl
past_all (p ∷ ps) zero h = absurd (omega (arith, h))
past_all (p ∷ ps) (suc i) h = past_all ps i (omega (arith, h))

pub some_left : (ps : Packets) (i : ℕ) (t : Tag) → Some t ≡ option_map (λ (q : Tag × Packet). q.0) (slice_get ps i) → (x : Packet) × (i < length ps) × (slice_get ps i ≡ Some (t, x))
some_left [] zero t e = absurd cc
some_left [] (suc i) t e = absurd cc
some_left (p ∷ ps) zero t e = let same : t ≡ p.0 = cc in (p.1, omega arith, ap (λ (k : Tag). Some (k, p.1)) (sym same))
some_left (p ∷ ps) (suc i) t e = let l = some_left ps i t e in (l.0, (let h = l.1 in omega (arith, h)), l.2)

pub left : (ps : Packets) (i : ℕ) (x : Tag × Packet) → slice_get ps i ≡ Some x → drop i ps ≡ x ∷ drop (suc i) ps
left [] zero x e = absurd cc
left [] (suc i) x e = absurd cc
left (p ∷ ps) zero x e = let same : p ≡ x = cc in ap (λ (k : Tag × Packet). k ∷ ps) same
left (p ∷ ps) (suc i) x e = left ps i x e

pub first_left : (ps : Packets) (i : ℕ) (t : Tag) (x : Packet) (j : ℕ) (p : Packet) → slice_get ps i ≡ Some (t, x) → j ≡ i + 1 → p ≡ x → drop i ps ≡ (t, p) ∷ drop j ps
first_left ps i t x j p e one same =
    left ps i (t, x) e ∙ ap (λ (k : Packet). (t, k) ∷ drop (suc i) ps) (sym same) ∙ ap (λ (k : ℕ). (t, p) ∷ drop k ps) (sym (one ∙ add-one i))
