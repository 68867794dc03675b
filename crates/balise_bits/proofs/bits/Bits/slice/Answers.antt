use Rattle.std.proofs.Common.{◌∙◌, [], sym, ap, false}
use Rattle.std.proofs.lemmas.List.{length-replicate}
use Rattle.balise_rules.specs.Bits.{bits, part, put_at, zeros}
use Rattle.balise_bits.proofs.Pieces.{bits-num_part}
use Rattle.balise_bits.proofs.Putting.{put_at_end, length-part}
use Rattle.balise_bits.proofs.bits.Bits.slice.Goals as goal

pub returns-clause-ok : goal.returns-clause-ok
returns-clause-ok c =
    let x = part c.args.at c.args.len c.args.self.now in
    c.put_part.ensures ∙ ap (put_at 0 x) c.in_ok-slice.ensures.ok ∙ put_at_end [] x (zeros c.args.len) (length-part c.args.at c.args.len c.args.self.now c.requires ∙ sym (length-replicate c.args.len false))

pub returns-then-len-le-WIDEST-clause-ok : goal.returns-then-len-le-WIDEST-clause-ok
returns-then-len-le-WIDEST-clause-ok c = c.of_number.ensures ∙ ap (bits c.args.len) c.wide_number-number.ensures.value ∙ bits-num_part c.args.self.now c.args.at c.args.len c.requires
