-- One more value is added, which fits.
use Rattle.std.proofs.Common.{◌++◌, ◌^◌, ◌<◌, ◌∙◌, ℕ, List, Bool, sym, ap, subst, append_assoc, take, get_or}
use Rattle.std.proofs.lemmas.List.Elements.{All-get_or}
use Rattle.balise_rules.specs.declared.variable.Var.{Var}
use Rattle.balise_rules.specs.declared.variable.Var.TheVariants.{NidPacket}
use Rattle.balise_rules.specs.Variables.{width_of}
use Rattle.balise_rules.specs.Bits.{bits}
use Rattle.balise_codec.specs.Spelling.{laid}
use Rattle.balise_codec.proofs.Written.{laid_more}
use Rattle.balise_codec.proofs.spell.write_values.Goals as goal

pub push-requires-clause-fits : goal.push-requires-clause-fits
push-requires-clause-fits c =
    let v = get_or c.args.values.now c.loop-i.i (NidPacket, 0) in
    subst (λ (x : ℕ). v.1 < 2 ^ x) (sym c.width.ensures.width) (All-get_or (λ (x : Var × ℕ). x.1 < 2 ^ width_of x.0) c.args.values.now c.loop-i.i (NidPacket, 0) c.loop-i-test.true c.requires)

pub loop-i-preserved : goal.loop-i-preserved
loop-i-preserved c =
    let vs = c.args.values.now in
    let k = c.loop-i.i in
    let v = get_or vs k (NidPacket, 0) in
    c.in_ok-push.ensures.ok
    ∙ ap (λ (x : List Bool). x ++ bits c.width.result v.1) c.loop-i.invariant
    ∙ ap (λ (x : ℕ). (c.args.bits.now ++ laid (take k vs)) ++ bits x v.1) c.width.ensures.width
    ∙ append_assoc c.args.bits.now (laid (take k vs)) (bits (width_of v.0) v.1)
    ∙ ap (λ (x : List Bool). c.args.bits.now ++ x) (sym (laid_more vs k (NidPacket, 0) c.loop-i-test.true))
