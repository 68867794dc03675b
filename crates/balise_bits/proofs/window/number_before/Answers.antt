use Rattle.std.proofs.Common.{◌≡◌, ◌+◌, ◌-◌, ◌*◌, ◌/◌, ◌%◌, ◌^◌, ◌<◌, length, arith, ap, sym, subst, ◌∙◌, ℕ}
use Rattle.std.proofs.lemmas.Nat.{one_shl}
use Rattle.balise_rules.specs.Bits.{num}
use Rattle.balise_bits.specs.Bytes.{flat}
use Rattle.balise_bits.proofs.Pieces.{num-part, num-part_below}
use Rattle.balise_bits.proofs.Flat.{length-flat}
use Rattle.balise_bits.proofs.window.number_before.Goals as goal

pub returns-clause-value : goal.returns-clause-value
returns-clause-value c =
    let b = flat c.args.window.now in
    let s = c.args.after in
    let w = c.args.width in
    let size : length b ≡ 8 * length c.args.window.now = length-flat c.args.window.now in
    let mask : 1 * 2 ^ w % 2 ^ 64 ≡ 2 ^ w = one_shl w 64 (omega arith) in
    ap (λ (x : ℕ). x / 2 ^ s % (1 * 2 ^ w % 2 ^ 64)) c.number_in.ensures ∙ ap (λ (m : ℕ). num b / 2 ^ s % m) mask
    ∙ num-part b (8 * length c.args.window.now - (s + w)) w s (omega arith)

pub returns-clause-fits : goal.returns-clause-fits
returns-clause-fits c =
    let b = flat c.args.window.now in
    let o = 8 * length c.args.window.now - (c.args.after + c.args.width) in
    let size : length b ≡ 8 * length c.args.window.now = length-flat c.args.window.now in
    subst (λ (x : ℕ). x < 2 ^ c.args.width) (sym (returns-clause-value c)) (num-part_below b o c.args.width (omega arith))
