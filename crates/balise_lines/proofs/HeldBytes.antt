-- The bytes held, after a further read or a step past their front.
use Rattle.std.proofs.Common.{◌≡◌, ℕ, ◌+◌, ◌-◌, ◌≤◌, List, ◌++◌, length, take, drop, slice_range, Option, Some, None, refl, sym, ap, ◌∙◌, arith, append_assoc}
use Rattle.std.proofs.lemmas.List.{take_at, drop_at, take-append-le, drop-append-le, drop-take, drop-drop, length-take, length-take-le, length-drop}
use Rattle.std.specs.Io.KnownBytes.{Keeps, Consumes, prepend_known}
use borrow.Rule.Slice.PartMut.{put_mid, post_of}
use lib.Seq.{take-add}
use Rattle.balise_lines.specs.LineBuffer.{held}
use Rattle.balise_lines.specs.Reading.{ahead}
use Rattle.balise_lines.specs.declared.line_buffer.LineBuffer.{LineBuffer}
use Rattle.balise_lines.specs.declared.lines.Lines.{Lines}

-- a read after the part from start to end makes it longer by what it gave
pub grown : (xs ys : List ℕ) (start end k n : ℕ) → start ≤ end → end ≤ length xs → n ≤ length ys
    → slice_range (put_mid end k xs ys) start (end + n) ≡ slice_range xs start end ++ take n ys
grown xs ys start end k n ordered within fits =
    let front = length-take-le end xs within in
    let held = drop start (take end xs) in
    let len : length held ≡ end - start = omega (arith, length-drop start (take end xs)) in
    let sum : end + n - start ≡ (end - start) + n = omega arith in
    let parts : end ≡ start + (end - start) = omega arith in
    let same : held ≡ take (end - start) (drop start xs) = ap (λ j. drop start (take j xs)) parts ∙ drop-take start (end - start) xs in
    let after = ys ++ post_of end k xs in
    ap (take (end + n - start)) (drop-append-le start (take end xs) after (omega arith))
    ∙ ap (λ j. take j (held ++ after)) sum ∙ take-add (end - start) n (held ++ after)
    ∙ (rw (take_at held after _ len, drop_at held after _ len, take-append-le n ys (post_of end k xs) fits, same) refl)

-- a step past the first bytes of the part from start to end
pub stepped_past : (xs : List ℕ) (start end count : ℕ) → start + count ≤ end → slice_range xs (start + count) end ≡ drop count (slice_range xs start end)
stepped_past xs start end count inside =
    let parts : end - start ≡ count + (end - (start + count)) = omega arith in
    sym (ap (λ j. drop count (take j (drop start xs))) parts ∙ drop-take count _ (drop start xs)
    ∙ ap (take (end - (start + count))) (drop-drop count start xs))

-- the reader gave more, which went after what was held: what is left of the input is the same
pub Keeps-read : (a b : Option (List ℕ)) (xs ys zs more : List ℕ) → Consumes a b more → ys ≡ xs → zs ≡ ys ++ more → Keeps (prepend_known xs a) (prepend_known zs b)
Keeps-read None b xs ys zs more p e f = tt
Keeps-read (Some a) None xs ys zs more p e f = absurd p
Keeps-read (Some a) (Some b) xs ys zs more p e f = ap (λ t. t ++ b) f ∙ append_assoc ys more b ∙ ap (λ t. t ++ (more ++ b)) e ∙ ap (λ t. xs ++ t) (sym p)

-- at most a longest line with its end is held
pub held_few : (b : LineBuffer) → length (held b) ≤ 4097
held_few b =
    let within : b.end ≤ 4097 = b.within in
    let size = length-take (b.end - b.start) (drop b.start b.bytes) in
    omega (arith, within, size)

-- so at most as much is read ahead
pub ahead_few : (l : Lines) → length (ahead l) ≤ 4097
ahead_few l =
    let most : length (held l.buffer) ≤ 4097 = held_few l.buffer in
    let size : length (ahead l) ≡ length (held l.buffer) - l.taken = length-drop l.taken (held l.buffer) in
    omega (arith, most, size)
