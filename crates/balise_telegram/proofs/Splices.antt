-- Bits taken out from between others, or put in between them, where what is shown after them comes from a ground.
-- From cutting the bits into their parts.
use Rattle.std.proofs.Common.{◌≡◌, ◌∙◌, ℕ, ◌+◌, ◌≤◌, Bool, List, ◌++◌, length, take, drop, sym, ap, append_assoc, length-append, arith}
use Rattle.std.proofs.lemmas.List.{take_at, drop_at, drop-drop, take-append-drop, take-append-le, take-take, length-take-le}
use Rattle.balise_rules.specs.Bits.{part, put_at}
use Rattle.balise_bits.proofs.Putting.{length-part}

-- x is taken out between a and c, and after c the ground shows as much more
pub cut_out : (a x c d g b b1 b2 : List Bool) (at w m : ℕ) → length a ≡ at → length x ≡ w → length c ≡ m → b ≡ a ++ (x ++ (c ++ d)) → length g ≡ length b → d ≡ drop (at + w + m) g →
    b1 ≡ put_at at (part (at + w) m b) b → b2 ≡ put_at (at + m) (part (at + m) w g) b1 → b2 ≡ a ++ (c ++ drop (at + m) g)
cut_out a x c d g b b1 b2 at w m la lx lc e lg ground e1 e2 =
    let lax : length (a ++ x) ≡ at + w = omega (arith, length-append a x, la, lx) in
    let lac : length (a ++ c) ≡ at + m = omega (arith, length-append a c, la, lc) in
    let laxc : length ((a ++ x) ++ c) ≡ at + w + m = omega (arith, length-append (a ++ x) c, lax, lc) in
    let two : b ≡ (a ++ x) ++ (c ++ d) = e ∙ sym (append_assoc a x (c ++ d)) in
    let three : b ≡ ((a ++ x) ++ c) ++ d = two ∙ sym (append_assoc (a ++ x) c d) in
    let size : at + w + m ≤ length b = omega (arith, ap length three, length-append ((a ++ x) ++ c) d, laxc) in
    let behind : drop (at + w) b ≡ c ++ d = ap (drop (at + w)) two ∙ drop_at (a ++ x) (c ++ d) (at + w) lax in
    let mid : part (at + w) m b ≡ c = ap (take m) behind ∙ take_at c d m lc in
    let moved : b1 ≡ (a ++ c) ++ drop (at + m) b =
    e1 ∙ ap (λ (l : List Bool). put_at at l b) mid
    ∙ ap (λ (l : List Bool). l ++ (c ++ drop (at + length c) b)) (ap (take at) e ∙ take_at a (x ++ (c ++ d)) at la)
    ∙ ap (λ (k : ℕ). a ++ (c ++ drop (at + k) b)) lc ∙ sym (append_assoc a c (drop (at + m) b)) in
    let p = part (at + m) w g in
    let lp : length p ≡ w = length-part (at + m) w g (omega (arith, size, lg)) in
    let front : take (at + m) b1 ≡ a ++ c = ap (take (at + m)) moved ∙ take_at (a ++ c) (drop (at + m) b) (at + m) lac in
    let far : at + m + w ≡ at + w + m = omega arith in
    let back : drop (at + m + length p) b1 ≡ d =
    ap (λ (k : ℕ). drop (at + m + k) b1) lp ∙ sym (drop-drop w (at + m) b1)
    ∙ ap (drop w) (ap (drop (at + m)) moved ∙ drop_at (a ++ c) (drop (at + m) b) (at + m) lac)
    ∙ drop-drop w (at + m) b ∙ ap (λ (k : ℕ). drop k b) far ∙ ap (drop (at + w + m)) three ∙ drop_at ((a ++ x) ++ c) d (at + w + m) laxc in
    let join : p ++ d ≡ drop (at + m) g =
    ap (λ (l : List Bool). p ++ l) (ground ∙ ap (λ (k : ℕ). drop k g) (sym far) ∙ sym (drop-drop w (at + m) g))
    ∙ take-append-drop w (drop (at + m) g) in
    e2 ∙ ap (λ (l : List Bool). l ++ (p ++ drop (at + m + length p) b1)) front ∙ ap (λ (l : List Bool). (a ++ c) ++ (p ++ l)) back
    ∙ ap (λ (l : List Bool). (a ++ c) ++ l) join ∙ append_assoc a c (drop (at + m) g)

-- x is put in between a and c, which covers as much of what the ground shows after c
pub cut_in : (a x c d g b b1 b2 : List Bool) (at w m : ℕ) → length a ≡ at → length x ≡ w → length c ≡ m → b ≡ a ++ (c ++ d) → d ≡ drop (at + m) g → at + m + w ≤ length b →
    b1 ≡ put_at (at + w) (part at m b) b → b2 ≡ put_at at x b1 → b2 ≡ a ++ (x ++ (c ++ drop (at + m + w) g))
cut_in a x c d g b b1 b2 at w m la lx lc e ground room e1 e2 =
    let lac : length (a ++ c) ≡ at + m = omega (arith, length-append a c, la, lc) in
    let two : b ≡ (a ++ c) ++ d = e ∙ sym (append_assoc a c d) in
    let behind : drop at b ≡ c ++ d = ap (drop at) e ∙ drop_at a (c ++ d) at la in
    let mid : part at m b ≡ c = ap (take m) behind ∙ take_at c d m lc in
    let far : at + w + m ≡ at + m + w = omega arith in
    let left : drop (at + w + length c) b ≡ drop (at + m + w) g =
    ap (λ (k : ℕ). drop (at + w + k) b) lc ∙ ap (λ (k : ℕ). drop k b) far ∙ sym (drop-drop w (at + m) b)
    ∙ ap (drop w) (ap (drop (at + m)) two ∙ drop_at (a ++ c) d (at + m) lac ∙ ground) ∙ drop-drop w (at + m) g in
    let front = take (at + w) b in
    let lf : length front ≡ at + w = length-take-le (at + w) b (omega (arith, room)) in
    let rest = c ++ drop (at + m + w) g in
    let moved : b1 ≡ front ++ rest = e1 ∙ ap (λ (l : List Bool). put_at (at + w) l b) mid ∙ ap (λ (l : List Bool). front ++ (c ++ l)) left in
    let first : take at b1 ≡ a =
    ap (take at) moved ∙ take-append-le at front rest (omega (arith, lf)) ∙ take-take at (at + w) b (omega arith) ∙ ap (take at) e ∙ take_at a (c ++ d) at la in
    let last : drop (at + length x) b1 ≡ rest = ap (λ (k : ℕ). drop (at + k) b1) lx ∙ ap (drop (at + w)) moved ∙ drop_at front rest (at + w) lf in
    e2 ∙ ap (λ (l : List Bool). l ++ (x ++ drop (at + length x) b1)) first ∙ ap (λ (l : List Bool). a ++ (x ++ l)) last
