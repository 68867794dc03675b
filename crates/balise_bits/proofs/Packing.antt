-- Packed bytes: what they hold, and what stays true of them when bits are put, added or cut.
use Rattle.std.proofs.Common.{◌≡◌, ℕ, zero, suc, ◌+◌, ◌-◌, ◌*◌, ◌/◌, ◌%◌, ◌<◌, ◌≤◌, Bool, false, List, [], ◌++◌, length, take, drop, replicate, refl, sym, ap, ◌∙◌, append_assoc, arith, length-append}
use Rattle.std.proofs.lemmas.List.{append-nil, take_at, take_all, drop_at, drop_all, nil_from_length, take-append-drop, length-take, length-drop, length-replicate, drop-drop, replicate-append-replicate}
use borrow.Rule.Slice.PartMut.{put_mid}
use Rattle.balise_rules.specs.Bits.{bits, part, put_at, zeros}
use Rattle.balise_rules.proofs.Numbers.{length-bits}
use Rattle.balise_rules.specs.Digits.{fill}
use Rattle.balise_bits.specs.Bytes.{flat, IsPacked}
use Rattle.balise_bits.proofs.Putting.{length-put_at, drop-put_at, put_at-take, put_at-append_left, put_at-append_right, part-take, part-part}
use Rattle.balise_bits.proofs.Flat.{flat-nil, flat-append, length-flat, flat-zeros, flat-part, drop-flat}

pub packed_none : IsPacked 0 []
packed_none = record { whole = refl; spare = flat-nil }

-- the bits that packed bytes hold
pub length-view : (len : ℕ) (bytes : List ℕ) → IsPacked len bytes → length (take len (flat bytes)) ≡ len
length-view len bytes p = omega (arith, p.whole, length-take len (flat bytes), length-flat bytes)

-- those bits, then zeros, are all bits of the bytes
pub flat-view : (len : ℕ) (bytes : List ℕ) → IsPacked len bytes → flat bytes ≡ take len (flat bytes) ++ zeros (fill len)
flat-view len bytes p = sym (take-append-drop len (flat bytes)) ∙ ap (λ (x : List Bool). take len (flat bytes) ++ x) p.spare

-- bytes that hold a list and zeros after it
pub packed_by : (len : ℕ) (bytes : List ℕ) (b : List Bool) → length b ≡ len → flat bytes ≡ b ++ zeros (fill len) → IsPacked len bytes
packed_by len bytes b l e = record {
  whole = omega (arith, l, sym (length-flat bytes) ∙ ap length e ∙ length-append b (zeros (fill len)), length-replicate (fill len) false);
  spare = ap (drop len) e ∙ drop_at b (zeros (fill len)) len l;
}

pub view_by : (len : ℕ) (bytes : List ℕ) (b : List Bool) (z : List Bool) → length b ≡ len → flat bytes ≡ b ++ z → take len (flat bytes) ≡ b
view_by len bytes b z l e = ap (take len) e ∙ take_at b z len l

-- bytes that are all bits
pub packed_whole : (len : ℕ) (bytes : List ℕ) → len ≡ 8 * length bytes → IsPacked len bytes
packed_whole len bytes e = record {
  whole = omega (arith, e);
  spare =
      let none : fill len ≡ 0 = omega (arith, e) in
      drop_all len (flat bytes) (omega (arith, e, length-flat bytes)) ∙ ap zeros (sym none);
}

pub view-whole : (len : ℕ) (bytes : List ℕ) → len ≡ 8 * length bytes → take len (flat bytes) ≡ flat bytes
view-whole len bytes e = take_all len (flat bytes) (omega (arith, e, length-flat bytes))

-- ---- a number among the bits

-- a part of the bits lies in a few bytes
pub part-in_window : (bytes : List ℕ) (at w first n : ℕ) → 8 * first ≤ at → first + n ≤ length bytes → at + w ≤ 8 * (first + n) → part (at - 8 * first) w (flat (take n (drop first bytes))) ≡ part at w (flat bytes)
part-in_window bytes at w first n low some high =
    let o = at - 8 * first in
    let place : 8 * first + o ≡ at = omega arith in
    ap (part o w) (flat-part first n bytes some) ∙ part-part o w (8 * first) (8 * n) (flat bytes) (omega arith)
    ∙ ap (λ (k : ℕ). part k w (flat bytes)) place

-- the bits that count hold the same
pub part-held : (bytes : List ℕ) (b : List Bool) (len at w : ℕ) → IsPacked len bytes → take len (flat bytes) ≡ b → at + w ≤ length b → part at w (flat bytes) ≡ part at w b
part-held bytes b len at w p view h =
    let size : length b ≡ len = ap length (sym view) ∙ length-view len bytes p in
    sym (part-take len at w (flat bytes) (omega (arith, size))) ∙ ap (part at w) view

-- ---- bits put

-- a few bytes replaced
pub flat-middle : (bytes mid : List ℕ) (at first n : ℕ) (x : List Bool) → first + n ≤ length bytes → 8 * first ≤ at → at + length x ≤ 8 * (first + n) → flat mid ≡ put_at (at - 8 * first) x (flat (take n (drop first bytes))) → flat (take first bytes ++ (mid ++ drop n (drop first bytes))) ≡ put_at at x (flat bytes)
flat-middle bytes mid at first n x some low high e =
    let front = flat (take first bytes) in
    let window = flat (take n (drop first bytes)) in
    let back = flat (drop n (drop first bytes)) in
    let o = at - 8 * first in
    let size : length window ≡ 8 * n = omega (arith, length-flat (take n (drop first bytes)), length-take n (drop first bytes), length-drop first bytes) in
    let before : flat bytes ≡ front ++ (window ++ back) =
    ap flat (sym (take-append-drop first bytes)) ∙ flat-append (take first bytes) (drop first bytes)
    ∙ ap (λ (l : List Bool). front ++ l) (ap flat (sym (take-append-drop n (drop first bytes))) ∙ flat-append (take n (drop first bytes)) (drop n (drop first bytes))) in
    let after : flat (take first bytes ++ (mid ++ drop n (drop first bytes))) ≡ front ++ (flat mid ++ back) =
    flat-append (take first bytes) (mid ++ drop n (drop first bytes)) ∙ ap (λ (l : List Bool). front ++ l) (flat-append mid (drop n (drop first bytes))) in
    let place : at ≡ length front + o = omega (arith, length-flat (take first bytes), length-take first bytes) in
    after ∙ ap (λ (l : List Bool). front ++ (l ++ back)) e
    ∙ sym (ap (put_at at x) before ∙ put_at-append_right at o x front (window ++ back) place ∙ ap (λ (l : List Bool). front ++ l) (put_at-append_left o x window back (omega (arith, size))))

-- a number put in a window of n bytes from the place first on
pub written : (bytes win : List ℕ) (at w v first n s : ℕ) → flat win ≡ put_at (8 * length (take n (drop first bytes)) - (s + w)) (bits w v) (flat (take n (drop first bytes))) → 8 * first ≤ at → first + n ≤ length bytes → at + w + s ≡ 8 * (first + n) → flat (put_mid first n bytes win) ≡ put_at at (bits w v) (flat bytes)
written bytes win at w v first n s put low some end =
    let x = bits w v in
    let few : length (take n (drop first bytes)) ≡ n = omega (arith, length-take n (drop first bytes), length-drop first bytes) in
    let place : 8 * length (take n (drop first bytes)) - (s + w) ≡ at - 8 * first = omega (arith, few) in
    let over : flat win ≡ put_at (at - 8 * first) x (flat (take n (drop first bytes))) =
    put ∙ ap (λ (k : ℕ). put_at k x (flat (take n (drop first bytes)))) place in
    flat-middle bytes win at first n x (omega arith) (omega arith) (omega (arith, length-bits w v)) over

-- whole bytes replaced
flat-bytes_put : (bytes mid : List ℕ) (to first count : ℕ) (x : List Bool) → first ≡ to / 8 → (0 < count → to % 8 ≡ 0) → to + 8 * count ≤ length (flat bytes) → length x ≡ 8 * count → flat mid ≡ x → flat (take first bytes ++ (mid ++ drop count (drop first bytes))) ≡ put_at to x (flat bytes)
flat-bytes_put bytes mid to first zero x place aligned room size e =
    let none : x ≡ [] = nil_from_length x (omega (arith, size)) in
    let far : to + 0 ≡ to = omega arith in
    flat-append (take first bytes) (mid ++ drop first bytes)
    ∙ ap (λ (l : List Bool). flat (take first bytes) ++ l) (flat-append mid (drop first bytes) ∙ ap (λ (l : List Bool). l ++ flat (drop first bytes)) (e ∙ none))
    ∙ sym (flat-append (take first bytes) (drop first bytes)) ∙ ap flat (take-append-drop first bytes)
    ∙ sym (ap (λ (l : List Bool). put_at to l (flat bytes)) none ∙ ap (λ (k : ℕ). take to (flat bytes) ++ drop k (flat bytes)) far ∙ take-append-drop to (flat bytes))
flat-bytes_put bytes mid to first (suc count) x place aligned room size e =
    let n = suc count in
    let window = flat (take n (drop first bytes)) in
    let start : to ≡ 8 * first = omega (arith, place, aligned (omega arith)) in
    let held : first + n ≤ length bytes = omega (arith, start, room, length-flat bytes) in
    let long : length window ≡ 8 * n = omega (arith, length-flat (take n (drop first bytes)), length-take n (drop first bytes), length-drop first bytes) in
    let over : put_at 0 x window ≡ x =
    ap (λ (l : List Bool). x ++ l) (drop_all (0 + length x) window (omega (arith, size, long))) ∙ append-nil x in
    let near : to - 8 * first ≡ 0 = omega (arith, start) in
    flat-middle bytes mid to first n x held (omega (arith, start)) (omega (arith, start, size))
    (e ∙ sym (ap (λ (k : ℕ). put_at k x window) near ∙ over))

-- the same, of a part that is borrowed
pub flat-laid : (bytes mid : List ℕ) (to count : ℕ) (x : List Bool) → (0 < count → to % 8 ≡ 0) → to + 8 * count ≤ 8 * length bytes → length x ≡ 8 * count → flat mid ≡ x → flat (put_mid (to / 8) (to / 8 + count - to / 8) bytes mid) ≡ put_at to x (flat bytes)
flat-laid bytes mid to count x aligned room long e =
    let first = to / 8 in
    let n : first + count - first ≡ count = omega arith in
    ap (λ (k : ℕ). flat (put_mid first k bytes mid)) n
    ∙ flat-bytes_put bytes mid to first count x (let r : first ≡ to / 8 = omega arith in r) aligned (omega (arith, room, length-flat bytes)) long e

-- bits from a place on lie in the bytes from there on
pub part-in_bytes : (bytes : List ℕ) (at n : ℕ) → at + n ≤ 8 * length bytes → part (at % 8) n (flat (drop (at / 8) bytes)) ≡ part at n (flat bytes)
part-in_bytes bytes at n h =
    let place : 8 * (at / 8) + at % 8 ≡ at = omega arith in
    ap (part (at % 8) n) (sym (drop-flat (at / 8) bytes (omega arith)))
    ∙ ap (take n) (drop-drop (at % 8) (8 * (at / 8)) (flat bytes)) ∙ ap (λ (k : ℕ). part k n (flat bytes)) place

pub packed_put : (len at : ℕ) (x : List Bool) (bytes bytes' : List ℕ) → IsPacked len bytes → at + length x ≤ len → flat bytes' ≡ put_at at x (flat bytes) → IsPacked len bytes'
packed_put len at x bytes bytes' p h e =
    let held : len ≤ length (flat bytes) = omega (arith, p.whole, length-flat bytes) in
    record {
      whole = omega (arith, p.whole, length-flat bytes, sym (length-flat bytes') ∙ ap length e ∙ length-put_at at x (flat bytes) (omega arith));
      spare = ap (drop len) e ∙ drop-put_at len at x (flat bytes) h (omega arith) ∙ p.spare;
    }

pub view-put : (len at : ℕ) (x : List Bool) (bytes bytes' : List ℕ) → IsPacked len bytes → at + length x ≤ len → flat bytes' ≡ put_at at x (flat bytes) → take len (flat bytes') ≡ put_at at x (take len (flat bytes))
view-put len at x bytes bytes' p h e =
    ap (take len) e ∙ put_at-take len at x (flat bytes) h (omega (arith, p.whole, length-flat bytes))

-- ---- zeros added

flat-grown : (len count k : ℕ) (bytes : List ℕ) → IsPacked len bytes → 8 * (length bytes + k) ≡ (len + count) + fill (len + count) → flat (bytes ++ replicate k 0) ≡ (take len (flat bytes) ++ zeros count) ++ zeros (fill (len + count))
flat-grown len count k bytes p size =
    let view = take len (flat bytes) in
    let all : fill len + 8 * k ≡ count + fill (len + count) = omega (arith, p.whole, size) in
    flat-append bytes (replicate k 0) ∙ ap (λ (l : List Bool). l ++ flat (replicate k 0)) (flat-view len bytes p)
    ∙ ap (λ (l : List Bool). (view ++ zeros (fill len)) ++ l) (flat-zeros k) ∙ append_assoc view (zeros (fill len)) (zeros (8 * k))
    ∙ ap (λ (l : List Bool). view ++ l) (replicate-append-replicate (fill len) (8 * k) false ∙ ap zeros all ∙ sym (replicate-append-replicate count (fill (len + count)) false))
    ∙ sym (append_assoc view (zeros count) (zeros (fill (len + count))))

length-grown : (len count : ℕ) (bytes : List ℕ) → IsPacked len bytes → length (take len (flat bytes) ++ zeros count) ≡ len + count
length-grown len count bytes p = length-append (take len (flat bytes)) (zeros count) ∙ omega (arith, length-view len bytes p, length-replicate count false)

pub packed_grown : (len count k : ℕ) (bytes bytes' : List ℕ) → IsPacked len bytes → bytes' ≡ bytes ++ replicate k 0 → 8 * (length bytes + k) ≡ (len + count) + fill (len + count) → IsPacked (len + count) bytes'
packed_grown len count k bytes bytes' p e size =
    packed_by (len + count) bytes' (take len (flat bytes) ++ zeros count) (length-grown len count bytes p) (ap flat e ∙ flat-grown len count k bytes p size)

pub view-grown : (len count k : ℕ) (bytes bytes' : List ℕ) → IsPacked len bytes → bytes' ≡ bytes ++ replicate k 0 → 8 * (length bytes + k) ≡ (len + count) + fill (len + count) → take (len + count) (flat bytes') ≡ take len (flat bytes) ++ zeros count
view-grown len count k bytes bytes' p e size =
    view_by (len + count) bytes' (take len (flat bytes) ++ zeros count) (zeros (fill (len + count))) (length-grown len count bytes p) (ap flat e ∙ flat-grown len count k bytes p size)

-- ---- packed bits joined at a whole byte

flat-joined : (a b : ℕ) (xs ys : List ℕ) → IsPacked a xs → a % 8 ≡ 0 → IsPacked b ys → flat (xs ++ ys) ≡ (take a (flat xs) ++ take b (flat ys)) ++ zeros (fill (a + b))
flat-joined a b xs ys p whole q =
    let front : flat xs ≡ take a (flat xs) = sym (view-whole a xs (omega (arith, p.whole, whole))) in
    let same : fill b ≡ fill (a + b) = omega (arith, whole) in
    flat-append xs ys ∙ ap (λ (l : List Bool). l ++ flat ys) front ∙ ap (λ (l : List Bool). take a (flat xs) ++ l) (flat-view b ys q ∙ ap (λ (k : ℕ). take b (flat ys) ++ zeros k) same)
    ∙ sym (append_assoc (take a (flat xs)) (take b (flat ys)) (zeros (fill (a + b))))

length-joined : (a b : ℕ) (xs ys : List ℕ) → IsPacked a xs → IsPacked b ys → length (take a (flat xs) ++ take b (flat ys)) ≡ a + b
length-joined a b xs ys p q = length-append (take a (flat xs)) (take b (flat ys)) ∙ omega (arith, length-view a xs p, length-view b ys q)

pub packed_joined : (a b : ℕ) (xs ys : List ℕ) → IsPacked a xs → a % 8 ≡ 0 → IsPacked b ys → IsPacked (a + b) (xs ++ ys)
packed_joined a b xs ys p whole q = packed_by (a + b) (xs ++ ys) (take a (flat xs) ++ take b (flat ys)) (length-joined a b xs ys p q) (flat-joined a b xs ys p whole q)

pub view-joined : (a b : ℕ) (xs ys : List ℕ) → IsPacked a xs → a % 8 ≡ 0 → IsPacked b ys → take (a + b) (flat (xs ++ ys)) ≡ take a (flat xs) ++ take b (flat ys)
view-joined a b xs ys p whole q = view_by (a + b) (xs ++ ys) (take a (flat xs) ++ take b (flat ys)) (zeros (fill (a + b))) (length-joined a b xs ys p q) (flat-joined a b xs ys p whole q)
