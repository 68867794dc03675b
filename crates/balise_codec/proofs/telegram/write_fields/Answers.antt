-- Each value that fits is added, and the first that doesn't is the fault.
use Rattle.std.proofs.Common.{◌++◌, ◌∙◌, ℕ, List, Bool, refl, ap, sym, take, get_or}
use Rattle.std.proofs.lemmas.List.{append-nil}
use Rattle.std.proofs.Common.{append_assoc}
use Rattle.balise_rules.specs.declared.variable.Var.TheVariants.{NidPacket}
use Rattle.balise_rules.specs.Variables.{width_of}
use Rattle.balise_rules.specs.Bits.{bits}
use Rattle.balise_rules.specs.Forms.{spelling}
use Rattle.balise_layout.specs.Collected.{all_keyed}
use Rattle.balise_codec.proofs.Written.{small_in, large_in}
use Rattle.balise_codec.proofs.Composing.{none_spelt, none_wide, spelt_more, fit_more, wide_there}
use Rattle.balise_codec.proofs.telegram.write_fields.Goals as goal

pub loop-i-init : goal.loop-i-init
loop-i-init c = (sym (ap (λ (x : List Bool). c.args.bits.now ++ x) none_spelt ∙ append-nil c.args.bits.now), none_wide)

pub returns-then-value-width-ne0-clause-fault : goal.returns-then-value-width-ne0-clause-fault
returns-then-value-width-ne0-clause-fault c =
    let x = get_or c.args.fields.now c.loop-i.i (NidPacket, 0, 0) in
    λ _. (x.0, refl, wide_there c.args.fields.now c.loop-i.i (NidPacket, 0, 0) c.loop-i-test.true c.loop-i.invariant.1 (large_in x.2 c.width.result (width_of x.0) c.width.ensures.width c.if-value-width-ne0.true))

pub loop-i-preserved : goal.loop-i-preserved
loop-i-preserved c =
    let x = get_or c.args.fields.now c.loop-i.i (NidPacket, 0, 0) in
    let all = spelling (all_keyed (take c.loop-i.i c.args.fields.now)) in (
      c.in_ok-push.ensures.ok
          ∙ ap (λ (y : List Bool). y ++ bits c.width-in-loop-i.result x.2) c.loop-i.invariant.0
          ∙ ap (λ (w : ℕ). (c.args.bits.now ++ all) ++ bits w x.2) c.width-in-loop-i.ensures.width
          ∙ append_assoc c.args.bits.now all (bits (width_of x.0) x.2)
          ∙ ap (λ (y : List Bool). c.args.bits.now ++ y) (sym (spelt_more c.args.fields.now c.loop-i.i (NidPacket, 0, 0) c.loop-i-test.true)),
      fit_more c.args.fields.now c.loop-i.i (NidPacket, 0, 0) c.loop-i-test.true c.loop-i.invariant.1 (small_in x.2 c.width.result (width_of x.0) c.width.ensures.width c.if-value-width-ne0.false),
    )
