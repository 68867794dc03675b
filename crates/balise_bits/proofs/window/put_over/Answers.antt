use Rattle.std.proofs.Common.{◌≡◌, ◌+◌, ◌-◌, ◌*◌, ◌^◌, ◌<◌, ◌≤◌, ◌/◌, ◌%◌, length, ℕ, List, sym, ap, ◌∙◌, arith, subst, lit<}
use Rattle.std.proofs.Math.Nat.{pow-le-pow_right}
use Rattle.balise_rules.specs.Bits.{bits, num}
use Rattle.balise_bits.specs.Bytes.{flat}
use Rattle.balise_bits.proofs.Pieces.{replaced, replaced_word, replaced_below, replaced-word, bits-replaced, taken_off_below}
use Rattle.balise_bits.proofs.Flat.{length-flat}
use Rattle.balise_bits.proofs.window.put_over.Goals as goal

-- the number that is written
same_word : (window : List ℕ) (s w v n : ℕ) → n ≡ num (flat window) → length window ≤ 8 → s + w ≤ 8 * length window → 0 < w → w ≤ 57 → v < 2 ^ w → replaced_word s w v n ≡ replaced s w v (num (flat window))
same_word window s w v n e few within some narrow fits =
    let b = flat window in
    let size : length b ≡ 8 * length window = length-flat window in
    ap (replaced_word s w v) e ∙ replaced-word b (length b - (s + w)) w s v (omega arith) (omega arith) (omega arith) (omega arith) fits

below : (window : List ℕ) (s w v n : ℕ) → n ≡ num (flat window) → length window ≤ 8 → s + w ≤ 8 * length window → 0 < w → w ≤ 57 → v < 2 ^ w → replaced_word s w v n < 2 ^ (8 * length window)
below window s w v n e few within some narrow fits =
    let b = flat window in
    let size : length b ≡ 8 * length window = length-flat window in
    let whole = replaced_below b (length b - (s + w)) w s v (omega arith) fits in
    subst (λ (k : ℕ). replaced_word s w v n < 2 ^ k) size (subst (λ (x : ℕ). x < 2 ^ length b) (sym (same_word window s w v n e few within some narrow fits)) whole)

pub overflow_sub-old : goal.overflow_sub-old
overflow_sub-old c =
    let b = flat c.args.window.now in
    let s = c.args.after in
    let w = c.args.width in
    let size : length b ≡ 8 * length c.args.window.now = length-flat c.args.window.now in
    subst (λ (x : ℕ). x / 2 ^ s % (1 * 2 ^ w % 2 ^ 64) * 2 ^ s % 2 ^ 64 ≤ x) (sym c.number_in-old.ensures)
    (taken_off_below b (length b - (s + w)) w s (omega arith) (omega arith) (omega arith) (omega arith))

pub overflow_add-old : goal.overflow_add-old
overflow_add-old c =
    let most : 2 ^ (8 * length c.args.window.now) ≤ 2 ^ 64 = pow-le-pow_right {n = 2} (lit< tt) (let few : 8 * length c.args.window.now ≤ 64 = omega arith in few) in
    let small = below c.args.window.now c.args.after c.args.width c.args.value c.number_in-old.result c.number_in-old.ensures (omega arith) (omega arith) (omega arith) (omega arith) c.requires.fits in
    omega (arith, small, most)

pub put_in-requires-clause-fits : goal.put_in-requires-clause-fits
put_in-requires-clause-fits c = below c.args.window.now c.args.after c.args.width c.args.value c.number_in-old.result c.number_in-old.ensures (omega arith) (omega arith) (omega arith) (omega arith) c.requires.fits

pub returns : goal.returns
returns c =
    let b = flat c.args.window.now in
    let s = c.args.after in
    let w = c.args.width in
    let v = c.args.value in
    let size : length b ≡ 8 * length c.args.window.now = length-flat c.args.window.now in
    let same = same_word c.args.window.now s w v c.number_in-old.result c.number_in-old.ensures (omega arith) (omega arith) (omega arith) (omega arith) c.requires.fits in
    c.put_in.ensures ∙ ap (bits (8 * length c.args.window.now)) same ∙ ap (λ (k : ℕ). bits k (replaced s w v (num b))) (sym size)
    ∙ bits-replaced b (8 * length c.args.window.now - (s + w)) w s v (omega arith) c.requires.fits
