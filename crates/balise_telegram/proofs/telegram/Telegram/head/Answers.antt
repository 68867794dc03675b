use Rattle.std.proofs.Common.{◌∙◌, ℕ, Some, ap, sym, arith}
use Rattle.balise_rules.specs.Bits.{num, part}
use Rattle.balise_telegram.proofs.HeaderPlaces.{head_missing, head_there}
use Rattle.balise_telegram.proofs.Seen.{read_of, shown_read}
use Rattle.balise_telegram.proofs.telegram.Telegram.head.Goals as goal

pub returns-in_default : goal.returns-in_default
returns-in_default c =
    let b = c.packed-bits.result.now in
    sym (head_missing b (read_of b c.args.self.now) c.args.var (shown_read b c.args.self.now c.packed-bits.ensures) (sym c.in_default.ensures))

pub number-requires-clause-within : goal.number-requires-clause-within
number-requires-clause-within c =
    let b = c.packed-bits.result.now in
    let h = head_there b (read_of b c.args.self.now) c.args.var c.in-Some.at (shown_read b c.args.self.now c.packed-bits.ensures) (sym c.in-Some.ensures) in
    omega (arith, h.within, c.width.ensures.width)

pub returns : goal.returns
returns c =
    let b = c.packed-bits.result.now in
    let h = head_there b (read_of b c.args.self.now) c.args.var c.in-Some.at (shown_read b c.args.self.now c.packed-bits.ensures) (sym c.in-Some.ensures) in
    ap Some (c.number.ensures ∙ ap (λ (w : ℕ). num (part c.in-Some.at w b)) c.width.ensures.width) ∙ sym h.reads
