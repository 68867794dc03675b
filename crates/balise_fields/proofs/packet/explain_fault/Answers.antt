use Rattle.std.proofs.Common.{◌∙◌, ◌≤◌, Some, length, refl, sym, ap, subst, arith}
use Rattle.balise_rules.specs.Forms.{spelling}
use Rattle.balise_layout.specs.Collected.{all_keyed}
use Rattle.balise_codec.specs.Heads.{Tells}
use Rattle.balise_codec.specs.Places.{placed}
use Rattle.balise_fields.specs.Explaining.{fault}
use Rattle.balise_fields.proofs.FieldsFound.{reach_fits}
use Rattle.balise_fields.proofs.packet.explain_fault.Goals as goal

pub place_all-requires : goal.place_all-requires
place_all-requires c =
    let b = c.args.bits.now in
    let t : Tells c.args.version b 0 (Some c.unwrap-reach.result) = subst (Tells c.args.version b 0) c.unwrap-reach.ensures c.in_ok-packet_fault.ensures.tells in
    let e : length (spelling (all_keyed c.deref.result.now)) ≤ length b = subst (λ fs. length (spelling (all_keyed fs)) ≤ length b) (sym c.deref.ensures.value) (reach_fits c.args.version b 0 c.unwrap-reach.result t) in
    omega (arith, e, c.len-len.ensures, c.len-len.type_inv)

pub returns : goal.returns
returns c =
    let b = c.args.bits.now in
    let t : Tells c.args.version b 0 (Some c.unwrap-reach.result) = subst (Tells c.args.version b 0) c.unwrap-reach.ensures c.in_ok-packet_fault.ensures.tells in
    (refl, (c.unwrap-reach.result, t, c.in_ok-fields.ensures.ok.0 ∙ ap (λ fs. placed 0 (all_keyed fs)) c.deref.ensures.value, ap (λ d. fault c.args.refusal (Some 0) c.unwrap-reach.result.at d) c.due_of.ensures))
