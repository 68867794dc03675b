use Rattle.std.proofs.Common.{sym, ap, ◌∙◌, ◌++◌, false, ℕ}
use Rattle.std.proofs.lemmas.List.{length-replicate}
use Rattle.balise_rules.specs.Bits.{bits, put_at, zeros}
use Rattle.balise_rules.proofs.Numbers.{length-bits}
use Rattle.balise_bits.proofs.Putting.{put_at_end}
use Rattle.balise_bits.proofs.bits.Bits.push.Goals as goal

pub returns-clause-ok : goal.returns-clause-ok
returns-clause-ok c =
    let old = c.args.self.now in
    let w = c.args.width in
    let x = bits w c.args.value in
    c.put.ensures ∙ ap (put_at c.len-at.result x) c.in_ok-push_zeros.ensures.ok ∙ ap (λ (k : ℕ). put_at k x (old ++ zeros w)) c.len-at.ensures
    ∙ put_at_end old x (zeros w) (length-bits w c.args.value ∙ sym (length-replicate w false))
