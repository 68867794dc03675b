use Rattle.std.proofs.Common.{sym, ap, ◌∙◌, length, take, drop, arith, ◌≡◌, ◌+◌, ◌-◌, ◌*◌, ◌≤◌, ℕ, List}
use Rattle.std.proofs.lemmas.List.{length-take, length-drop}
use Rattle.balise_rules.specs.Bits.{num, part}
use Rattle.balise_bits.specs.Bytes.{flat}
use Rattle.balise_bits.proofs.Packing.{part-in_window}
use Rattle.balise_bits.proofs.Pieces.{num_nil}
use Rattle.balise_bits.proofs.places.number_at.Goals as goal

-- the number in a window is that among all bits
in_window : (bytes : List ℕ) (at w first n after : ℕ) → 8 * first ≤ at → first + n ≤ length bytes → at + w + after ≡ 8 * (first + n) → num (part (8 * length (take n (drop first bytes)) - (after + w)) w (flat (take n (drop first bytes)))) ≡ num (part at w (flat bytes))
in_window bytes at w first n after low some end =
    let few : length (take n (drop first bytes)) ≡ n = omega (arith, length-take n (drop first bytes), length-drop first bytes) in
    let place : 8 * length (take n (drop first bytes)) - (after + w) ≡ at - 8 * first = omega (arith, few) in
    ap (λ (k : ℕ). num (part k w (flat (take n (drop first bytes))))) place
    ∙ ap num (part-in_window bytes at w first n low some (omega arith))

pub returns-then-width-eq0-clause-value : goal.returns-then-width-eq0-clause-value
returns-then-width-eq0-clause-value c = sym (ap (λ (w : ℕ). num (part c.args.at w (flat c.args.bytes.now))) c.if-width-eq0.true ∙ num_nil)

pub returns-then-count-ge-WINDOW-clause-value : goal.returns-then-count-ge-WINDOW-clause-value
returns-then-count-ge-WINDOW-clause-value c =
    let at = c.args.at in
    let w = c.args.width in
    let first = c.min-first.result in
    c.number_before.ensures.value
    ∙ in_window c.args.bytes.now at w first (first + 8 - first) (64 - (at - 8 * first) - w) (omega arith) (omega arith) (omega arith)

pub returns-clause-value : goal.returns-clause-value
returns-clause-value c =
    let at = c.args.at in
    let w = c.args.width in
    let count = length c.args.bytes.now in
    let place : 8 * count - (8 * count - at - w + w) ≡ at = omega arith in
    c.number_before-2.ensures.value ∙ ap (λ (k : ℕ). num (part k w (flat c.args.bytes.now))) place
