-- Bits moved over others, a part at a time.
use Rattle.std.proofs.Common.{◌≡◌, ◌∙◌, ℕ, ◌+◌, ◌-◌, ◌*◌, ◌≤◌, Bool, List, ◌++◌, length, take, drop, sym, ap, append_assoc, length-append, arith}
use Rattle.std.proofs.lemmas.List.{drop_at, take_at, take-append-le, take-take, length-take, length-drop, length-take-le}
use borrow.Rule.Slice.PartMut.{put_mid}
use Rattle.balise_rules.specs.Bits.{part, put_at}
use Rattle.balise_bits.specs.Bytes.{flat}
use Rattle.balise_bits.proofs.Flat.{flat-append, length-flat}
use Rattle.balise_bits.proofs.Putting.{length-part, part-append, part-put_at_before, part-put_at_behind, part-take, put_at-put_at}
use Rattle.balise_bits.proofs.Packing.{part-in_window}

-- bits put before others that were put
put_before : (at : ℕ) (x y b : List Bool) → at + length x ≤ length b → put_at at x (put_at (at + length x) y b) ≡ put_at at (x ++ y) b
put_before at x y b h =
    let far = at + length x in
    let front = take far b in
    let rest = y ++ drop (far + length y) b in
    let lf : length front ≡ far = length-take-le far b h in
    let first : take at (front ++ rest) ≡ take at b =
    take-append-le at front rest (omega (arith, lf)) ∙ take-take at far b (omega arith) in
    let same : far + length y ≡ at + length (x ++ y) = omega (arith, length-append x y) in
    ap (λ (l : List Bool). l ++ (x ++ drop far (front ++ rest))) first
    ∙ ap (λ (l : List Bool). take at b ++ (x ++ l)) (drop_at front rest far lf)
    ∙ ap (λ (l : List Bool). take at b ++ l) (sym (append_assoc x y (drop (far + length y) b)))
    ∙ ap (λ (k : ℕ). take at b ++ ((x ++ y) ++ drop k b)) same

-- the first bits of the part stand at the new place
pub record Front (old now : List Bool) (to at len done : ℕ) : Type 0 where
  pub few : done ≤ len
  pub is : now ≡ put_at to (part at done old) old

pub front_more : (old now new : List Bool) (to at len done w : ℕ) → to ≤ at → at + len ≤ length old → done + w ≤ len → Front old now to at len done → new ≡ put_at (to + done) (part (at + done) w now) now → Front old new to at len (done + w)
front_more old now new to at len done w order within more f is =
    let x = part at done old in
    let few = f.few in
    let lx : length x ≡ done = length-part at done old (omega (arith, within, few)) in
    let same : part (at + done) w now ≡ part (at + done) w old =
    ap (part (at + done) w) f.is ∙ part-put_at_behind (at + done) w to x old (omega (arith, lx, order)) (omega (arith, within, order)) in
    let y = part (at + done) w old in
    let ly : length y ≡ w = length-part (at + done) w old (omega (arith, within, more)) in
    record {
      few = more;
      is = is ∙ ap (λ (l : List Bool). put_at (to + done) l now) same ∙ ap (put_at (to + done) y) f.is
          ∙ ap (λ (k : ℕ). put_at (to + k) y (put_at to x old)) (sym lx)
          ∙ put_at-put_at to x y old (omega (arith, lx, ly, within, more, order))
          ∙ ap (λ (l : List Bool). put_at to l old) (part-append at done w old);
    }

-- all bits of the part but the first ones stand at the new place
pub record Back (old now : List Bool) (to at len left : ℕ) : Type 0 where
  pub few : left ≤ len
  pub is : now ≡ put_at (to + left) (part (at + left) (len - left) old) old

pub back_more : (old now new : List Bool) (to at len left w : ℕ) → at ≤ to → to + len ≤ length old → w ≤ left → Back old now to at len left → new ≡ put_at (to + (left - w)) (part (at + (left - w)) w now) now → Back old new to at len (left - w)
back_more old now new to at len left w order room most f is =
    let l = left - w in
    let few = f.few in
    let x = part (at + left) (len - left) old in
    let near : at + l + w ≡ at + left = omega (arith, most) in
    let next : to + l + w ≡ to + left = omega (arith, most) in
    let same : part (at + l) w now ≡ part (at + l) w old =
    ap (part (at + l) w) f.is ∙ part-put_at_before (at + l) w (to + left) x old (omega (arith, near, order)) (omega (arith, room, few)) in
    let y = part (at + l) w old in
    let ly : length y ≡ w = length-part (at + l) w old (omega (arith, near, room, few, order)) in
    let far : to + left ≡ to + l + length y = omega (arith, next, ly) in
    let rest : w + (len - left) ≡ len - l = omega (arith, most, few) in
    record {
      few = omega (arith, few);
      is = is ∙ ap (λ (z : List Bool). put_at (to + l) z now) same ∙ ap (put_at (to + l) y) f.is
          ∙ ap (λ (k : ℕ). put_at (to + l) y (put_at k x old)) far
          ∙ put_before (to + l) y x old (omega (arith, next, ly, room, few))
          ∙ ap (λ (k : ℕ). put_at (to + l) (y ++ part k (len - left) old) old) (sym near)
          ∙ ap (λ (z : List Bool). put_at (to + l) z old) (part-append (at + l) w (len - left) old)
          ∙ ap (λ (k : ℕ). put_at (to + l) (part (at + l) k old) old) rest;
    }

-- a part of bytes that were copied to the front of others
pub part-copied : (bytes buffer copied : List ℕ) (first n at len : ℕ) → copied ≡ take n (drop first bytes) → first + n ≤ length bytes → 8 * first ≤ at → at + len ≤ 8 * (first + n) → part (at - 8 * first) len (flat (put_mid 0 n buffer copied)) ≡ part at len (flat bytes)
part-copied bytes buffer copied first n at len e some low high =
    let rest = drop n (drop 0 buffer) in
    let o = at - 8 * first in
    let size : length (flat copied) ≡ 8 * n = length-flat copied ∙ omega (arith, ap length e, length-take n (drop first bytes), length-drop first bytes, some) in
    ap (part o len) (flat-append copied rest)
    ∙ sym (part-take (8 * n) o len (flat copied ++ flat rest) (omega (arith, low, high)))
    ∙ ap (part o len) (take_at (flat copied) (flat rest) (8 * n) size ∙ ap flat e)
    ∙ part-in_window bytes at len first n low some high
