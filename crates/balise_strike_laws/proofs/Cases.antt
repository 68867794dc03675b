-- The end of a path, and two settings: cases of tests joined by 'and'.
-- Proves that a path that is apart from another is so without its end, and that two settings of one value that don't meet commute.
-- From nothing but the tests themselves.
use Rattle.std.proofs.Common.{◌≡◌, ℕ, Bool, true, false, cond, ◌&&◌, refl}
use Rattle.std.proofs.Math.Bool.{and-true}
use Rattle.std.proofs.lemmas.Bool.{and_left}

-- the end of a path adds 'true'
pub drop1 : (x : Bool) → (x && true) ≡ false → x ≡ false
drop1 x h = simp and-true at h

-- where the path of a field is apart, the field is another
pub drop_field : (a b c d e : Bool) → (a && (b && (c && (d && (e && true))))) ≡ false → (a && (b && (c && (d && e)))) ≡ false
drop_field a b c d e h = simp and-true at h

-- where the path of a packet is apart, each of its fields is another
pub drop_packet : (a b c d : Bool) → (a && (b && (c && true))) ≡ false → (a && (b && (c && d))) ≡ false
drop_packet true true c d h = and_left c d (simp and-true at h)
drop_packet a b c d h = refl

-- two settings apart
pub both_set : (a b : Bool) → (x y v : ℕ) → (a ≡ true → b ≡ true → ⊥) → cond a x (cond b y v) ≡ cond b y (cond a x v)
both_set true true x y v h = absurd (h refl refl)
both_set a b x y v h = refl

-- one change of a number, made twice under two tests
pub twice : (F : ℕ → ℕ) → (a b : Bool) → (v : ℕ) → cond a (F (cond b (F v) v)) (cond b (F v) v) ≡ cond b (F (cond a (F v) v)) (cond a (F v) v)
twice F true true v = refl
twice F a b v = refl
