-- Bits put over others: at the end, one piece after another, in a front or a back part.
use Rattle.std.proofs.Common.{◌≡◌, ℕ, ◌+◌, ◌-◌, ◌≤◌, Bool, List, ◌++◌, length, take, drop, refl, sym, ap, ◌∙◌, append_assoc, arith, length-append}
use Rattle.std.proofs.Math.Seq.{take-add, take-append-add, drop-append-add}
use Rattle.std.proofs.lemmas.List.{append-nil, take_at, drop_at, take-append-drop, take-append-le, drop-append-le, length-take, length-drop, drop-take, take-take, drop-drop, drop_all}
use Rattle.balise_rules.specs.Bits.{part, put_at}

pub length-put_at : (at : ℕ) (x b : List Bool) → at + length x ≤ length b → length (put_at at x b) ≡ length b
length-put_at at x b h =
    length-append (take at b) (x ++ drop (at + length x) b)
    ∙ omega (arith, length-append x (drop (at + length x) b), length-take at b, length-drop (at + length x) b)

-- bits after those that were put stay
pub drop-put_at : (n at : ℕ) (x b : List Bool) → at + length x ≤ n → at ≤ length b → drop n (put_at at x b) ≡ drop n b
drop-put_at n at x b h lt =
    let size : length (take at b ++ x) ≡ at + length x = length-append (take at b) x ∙ omega (arith, length-take at b) in
    let whole : put_at at x b ≡ (take at b ++ x) ++ drop (at + length x) b = sym (append_assoc (take at b) x (drop (at + length x) b)) in
    let far : n ≡ (at + length x) + (n - (at + length x)) = omega arith in
    ap (λ (k : ℕ). drop k (put_at at x b)) far
    ∙ sym (drop-drop (n - (at + length x)) (at + length x) (put_at at x b))
    ∙ ap (drop (n - (at + length x))) (ap (drop (at + length x)) whole ∙ drop_at (take at b ++ x) (drop (at + length x) b) (at + length x) size)
    ∙ drop-drop (n - (at + length x)) (at + length x) b
    ∙ ap (λ (k : ℕ). drop k b) (sym far)

pub take-put_at : (at : ℕ) (x b : List Bool) → at ≤ length b → take (at + length x) (put_at at x b) ≡ take at b ++ x
take-put_at at x b lt =
    let size : length (take at b ++ x) ≡ at + length x = length-append (take at b) x ∙ omega (arith, length-take at b) in
    ap (take (at + length x)) (sym (append_assoc (take at b) x (drop (at + length x) b)))
    ∙ take_at (take at b ++ x) (drop (at + length x) b) (at + length x) size

-- one piece after another
pub put_at-put_at : (at : ℕ) (x y b : List Bool) → at + length x + length y ≤ length b → put_at (at + length x) y (put_at at x b) ≡ put_at at (x ++ y) b
put_at-put_at at x y b h =
    let front = take-put_at at x b (omega arith) in
    let back = drop-put_at (at + length x + length y) at x b (omega arith) (omega arith) in
    let far : at + length x + length y ≡ at + length (x ++ y) = omega (arith, length-append x y) in
    ap (λ (l : List Bool). l ++ (y ++ drop (at + length x + length y) (put_at at x b))) front
    ∙ ap (λ (l : List Bool). (take at b ++ x) ++ (y ++ l)) (back ∙ ap (λ (k : ℕ). drop k b) far)
    ∙ append_assoc (take at b) x (y ++ drop (at + length (x ++ y)) b)
    ∙ ap (λ (l : List Bool). take at b ++ l) (sym (append_assoc x y (drop (at + length (x ++ y)) b)))

-- over the last bits
pub put_at_end : (a x z : List Bool) → length x ≡ length z → put_at (length a) x (a ++ z) ≡ a ++ x
put_at_end a x z e =
    ap (λ (l : List Bool). l ++ (x ++ drop (length a + length x) (a ++ z))) (take_at a z (length a) refl)
    ∙ ap (λ (l : List Bool). a ++ l)
    (ap (λ (l : List Bool). x ++ l) (drop_all (length a + length x) (a ++ z) (omega (arith, length-append a z))) ∙ append-nil x)

-- in a front part
pub put_at-append_left : (at : ℕ) (x p q : List Bool) → at + length x ≤ length p → put_at at x (p ++ q) ≡ put_at at x p ++ q
put_at-append_left at x p q h =
    ap (λ (l : List Bool). l ++ (x ++ drop (at + length x) (p ++ q))) (take-append-le at p q (omega arith))
    ∙ ap (λ (l : List Bool). take at p ++ (x ++ l)) (drop-append-le (at + length x) p q h)
    ∙ ap (λ (l : List Bool). take at p ++ l) (sym (append_assoc x (drop (at + length x) p) q))
    ∙ sym (append_assoc (take at p) (x ++ drop (at + length x) p) q)

-- in a back part
pub put_at-append_right : (at o : ℕ) (x p q : List Bool) → at ≡ length p + o → put_at at x (p ++ q) ≡ p ++ put_at o x q
put_at-append_right at o x p q e =
    let near : take at (p ++ q) ≡ p ++ take o q = ap (λ (k : ℕ). take k (p ++ q)) e ∙ take-append-add p q o in
    let far : drop (at + length x) (p ++ q) ≡ drop (o + length x) q =
    ap (λ (k : ℕ). drop k (p ++ q)) (let s : at + length x ≡ length p + (o + length x) = omega (arith, e) in s) ∙ drop-append-add p q (o + length x) in
    ap (λ (l : List Bool). l ++ (x ++ drop (at + length x) (p ++ q))) near ∙ ap (λ (l : List Bool). (p ++ take o q) ++ (x ++ l)) far
    ∙ append_assoc p (take o q) (x ++ drop (o + length x) q)

-- in the first bits of a list
pub put_at-take : (n at : ℕ) (x b : List Bool) → at + length x ≤ n → n ≤ length b → take n (put_at at x b) ≡ put_at at x (take n b)
put_at-take n at x b h lt =
    let size : length (take n b) ≡ n = omega (arith, length-take n b) in
    let inner : length (put_at at x (take n b)) ≡ n = length-put_at at x (take n b) (omega arith) ∙ size in
    ap (λ (l : List Bool). take n (put_at at x l)) (sym (take-append-drop n b))
    ∙ ap (take n) (put_at-append_left at x (take n b) (drop n b) (omega arith))
    ∙ take_at (put_at at x (take n b)) (drop n b) n inner

-- a part of the bits that hold the first ones
pub part-take : (len at n : ℕ) (b : List Bool) → at + n ≤ len → part at n (take len b) ≡ part at n b
part-take len at n b h =
    ap (λ (k : ℕ). take n (drop at (take k b))) (let s : len ≡ at + (len - at) = omega arith in s)
    ∙ ap (take n) (drop-take at (len - at) b) ∙ take-take n (len - at) (drop at b) (omega arith)

pub part-part : (o n at m : ℕ) (b : List Bool) → o + n ≤ m → part o n (part at m b) ≡ part (at + o) n b
part-part o n at m b h =
    part-take m o n (drop at b) h ∙ ap (take n) (drop-drop o at b)

pub length-part : (at n : ℕ) (b : List Bool) → at + n ≤ length b → length (part at n b) ≡ n
length-part at n b h = omega (arith, length-take n (drop at b), length-drop at b)

-- a part in two
pub part-append : (at n m : ℕ) (b : List Bool) → part at n b ++ part (at + n) m b ≡ part at (n + m) b
part-append at n m b = ap (λ (l : List Bool). part at n b ++ take m l) (sym (drop-drop n at b)) ∙ sym (take-add n m (drop at b))

-- a part put over others in three pieces
pub put_at-pieces : (to at n m k : ℕ) (x b : List Bool) → at + (n + m + k) ≤ length x → to + (n + m + k) ≤ length b → put_at (to + (n + m)) (part (at + (n + m)) k x) (put_at (to + n) (part (at + n) m x) (put_at to (part at n x) b)) ≡ put_at to (part at (n + m + k) x) b
put_at-pieces to at n m k x b h room =
    let p = part at n x in
    let q = part (at + n) m x in
    let r = part (at + (n + m)) k x in
    let lp : length p ≡ n = length-part at n x (omega arith) in
    let lq : length q ≡ m = length-part (at + n) m x (omega arith) in
    let lr : length r ≡ k = length-part (at + (n + m)) k x (omega arith) in
    let first : put_at (to + n) q (put_at to p b) ≡ put_at to (p ++ q) b =
    ap (λ (i : ℕ). put_at (to + i) q (put_at to p b)) (sym lp) ∙ put_at-put_at to p q b (omega arith) in
    let long : n + m ≡ length (p ++ q) = omega (arith, length-append p q) in
    ap (put_at (to + (n + m)) r) first ∙ ap (λ (i : ℕ). put_at (to + i) r (put_at to (p ++ q) b)) long
    ∙ put_at-put_at to (p ++ q) r b (omega (arith, long))
    ∙ ap (λ (l : List Bool). put_at to (l ++ r) b) (part-append at n m x) ∙ ap (λ (l : List Bool). put_at to l b) (part-append at (n + m) k x)

-- ---- what is read after bits were put

-- before it
pub part-put_at_before : (o n at : ℕ) (x b : List Bool) → o + n ≤ at → at ≤ length b → part o n (put_at at x b) ≡ part o n b
part-put_at_before o n at x b h lt =
    let size : length (take at b) ≡ at = omega (arith, length-take at b) in
    sym (part-take at o n (put_at at x b) h) ∙ ap (part o n) (take_at (take at b) (x ++ drop (at + length x) b) at size) ∙ part-take at o n b h

-- after it
pub part-put_at_behind : (o n at : ℕ) (x b : List Bool) → at + length x ≤ o → at ≤ length b → part o n (put_at at x b) ≡ part o n b
part-put_at_behind o n at x b h lt = ap (take n) (drop-put_at o at x b h lt)

-- nothing put
pub put_at-none : (to at : ℕ) (x b : List Bool) → put_at to (part at 0 x) b ≡ b
put_at-none to at x b =
    let far : to + 0 ≡ to = omega arith in
    ap (λ (k : ℕ). take to b ++ drop k b) far ∙ take-append-drop to b

-- a part goes on
pub put_at-more : (to at n w : ℕ) (x b : List Bool) → at + (n + w) ≤ length x → to + (n + w) ≤ length b → put_at (to + n) (part (at + n) w x) (put_at to (part at n x) b) ≡ put_at to (part at (n + w) x) b
put_at-more to at n w x b h k =
    let size : length (part at n x) ≡ n = length-part at n x (omega (arith, h)) in
    let next : length (part (at + n) w x) ≡ w = length-part (at + n) w x (omega (arith, h)) in
    ap (λ (m : ℕ). put_at (to + m) (part (at + n) w x) (put_at to (part at n x) b)) (sym size)
    ∙ put_at-put_at to (part at n x) (part (at + n) w x) b (omega (arith, size, next, k))
    ∙ ap (λ (l : List Bool). put_at to l b) (part-append at n w x)
