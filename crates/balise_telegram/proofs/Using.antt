-- The bits that packets take, one packet after another.
use Rattle.std.proofs.Common.{◌≡◌, ◌∙◌, ℕ, zero, suc, ◌+◌, ◌<◌, ◌≤◌, List, [], ◌∷◌, length, take, get_or, refl, ap, arith}
use Rattle.std.specs.List.{remove}
use Rattle.std.proofs.lemmas.List.{take_more}
use Rattle.balise_rules.specs.declared.tag.Tag.{Tag}
use Rattle.balise_rules.specs.Packet.{Packet, width}
use Rattle.balise_rules.specs.Telegram.{used}
use Rattle.balise_telegram.proofs.PacketsRead.{used-more}

pub used-take : (ps : List (Tag × Packet)) (i : ℕ) (d : Tag × Packet) → i < length ps → used (take (i + 1) ps) ≡ used (take i ps) + width (get_or ps i d).1
used-take ps i d h = ap used (take_more ps i d h) ∙ used-more (take i ps) (get_or ps i d).0 (get_or ps i d).1

pub used-take-le : (ps : List (Tag × Packet)) (i : ℕ) → used (take i ps) ≤ used ps
used-take-le [] zero = omega arith
used-take-le [] (suc i) = omega arith
used-take-le (p ∷ ps) zero = let h = used-take-le ps zero in omega (arith, h)
used-take-le (p ∷ ps) (suc i) = let h = used-take-le ps i in omega (arith, h)

pub least_used : (ps : List (Tag × Packet)) → 58 ≤ used ps
least_used [] = omega arith
least_used (p ∷ ps) = let h = least_used ps in omega (arith, h)

-- the bits that packets take once one is taken out: before its place unchanged, after it fewer by its own
pub used-below : (ps : List (Tag × Packet)) (i t : ℕ) → i < length ps → t ≤ i → used (take t (remove ps i)) ≡ used (take t ps)
used-below [] i t h l = absurd (omega (arith, h))
used-below (y ∷ ys) i zero h l = refl
used-below (y ∷ ys) zero (suc t) h l = absurd (omega (arith, l))
used-below (y ∷ ys) (suc i) (suc t) h l = ap (λ (n : ℕ). width y.1 + n) (used-below ys i t (omega (arith, h)) (omega (arith, l)))

pub used-above : (ps : List (Tag × Packet)) (i t : ℕ) (x : Tag × Packet) → i < length ps → i ≤ t → x ≡ get_or ps i x → used (take t (remove ps i)) + width x.1 ≡ used (take (suc t) ps)
used-above [] i t x h l e = absurd (omega (arith, h))
used-above (y ∷ ys) zero t x h l e = let same = ap (λ (z : Tag × Packet). width z.1) e in omega (arith, same)
used-above (y ∷ ys) (suc i) zero x h l e = absurd (omega (arith, l))
used-above (y ∷ ys) (suc i) (suc t) x h l e = let more = used-above ys i t x (omega (arith, h)) (omega (arith, l)) e in omega (arith, more)

-- the bits that packets take without one
pub used-remove : (ps : List (Tag × Packet)) (i : ℕ) (x : Tag × Packet) → i < length ps → x ≡ get_or ps i x → used (remove ps i) + width x.1 ≡ used ps
used-remove [] i x h e = absurd (omega (arith, h))
used-remove (y ∷ ys) zero x h e = let same = ap (λ (z : Tag × Packet). width z.1) e in omega (arith, same)
used-remove (y ∷ ys) (suc i) x h e = let more = used-remove ys i x (omega (arith, h)) e in omega (arith, more)
