use Rattle.std.proofs.Common.{sym, ap, ◌∙◌, ◌++◌, false, ℕ}
use Rattle.std.proofs.lemmas.List.{length-replicate}
use Rattle.balise_rules.specs.Bits.{part, put_at, zeros}
use Rattle.balise_bits.proofs.Putting.{put_at_end, length-part}
use Rattle.balise_bits.proofs.bits.Bits.append_part.Goals as goal

pub returns-clause-ok : goal.returns-clause-ok
returns-clause-ok c =
    let old = c.args.self.now in
    let x = part c.args.at c.args.len c.args.other.now in
    c.put_part.ensures ∙ ap (put_at c.len-to.result x) c.in_ok-push_zeros.ensures.ok ∙ ap (λ (k : ℕ). put_at k x (old ++ zeros c.args.len)) c.len-to.ensures
    ∙ put_at_end old x (zeros c.args.len) (length-part c.args.at c.args.len c.args.other.now c.requires ∙ sym (length-replicate c.args.len false))
