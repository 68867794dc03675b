use Rattle.std.proofs.Common.{◌∙◌, ◌≤◌, Some, length, drop, sym, ap, subst, arith}
use Rattle.std.proofs.lemmas.List.{length-drop}
use Rattle.balise_rules.specs.Forms.{spelling}
use Rattle.balise_layout.specs.Collected.{all_keyed}
use Rattle.balise_telegram.specs.Faults.{refusal_of}
use Rattle.balise_codec.specs.Heads.{Tells}
use Rattle.balise_codec.specs.Places.{placed}
use Rattle.balise_fields.specs.Explaining.{fault}
use Rattle.balise_fields.proofs.FieldsFound.{end_is_read, none_after, reach_fits, some_of}
use Rattle.balise_fields.proofs.telegram.explain_stop.Goals as goal

pub unwrap-reason-requires : goal.unwrap-reason-requires
unwrap-reason-requires c =
    let s = c.in_ok-packets.ensures.ok in
    some_of c.in_ok-packets.stop.fault (λ n. end_is_read c.args.version c.args.bits.now c.in_ok-packets.stop.at s.0 c.in_ok-packets.stop.fault c.requires.refused.0 n s.1.2 c.requires.long c.requires.balise c.requires.version c.requires.refused.1)

pub unwrap-reach-requires : goal.unwrap-reach-requires
unwrap-reach-requires c =
    let s = c.in_ok-packets.ensures.ok in
    some_of _ (λ n.
    let t = subst (Tells c.args.version (drop c.in_ok-packets.stop.at c.args.bits.now) c.in_ok-packets.stop.at) n c.in_ok-packet_fault.ensures.tells in
    none_after c.args.version c.args.bits.now c.in_ok-packets.stop s.0 s.1 c.in_ok-packets.ensures.longest t.0 t.1 t.2)

pub place_all-requires : goal.place_all-requires
place_all-requires c =
    let at = c.in_ok-packets.stop.at in
    let b = drop at c.args.bits.now in
    let s = c.in_ok-packets.ensures.ok in
    let t : Tells c.args.version b at (Some c.unwrap-reach.result) = subst (Tells c.args.version b at) c.unwrap-reach.ensures c.in_ok-packet_fault.ensures.tells in
    let e : length (spelling (all_keyed c.deref.result.now)) ≤ length b = subst (λ fs. length (spelling (all_keyed fs)) ≤ length b) (sym c.deref.ensures.value) (reach_fits c.args.version b at c.unwrap-reach.result t) in
    omega (arith, e, length-drop at c.args.bits.now, s.1.1.within, c.len-len.ensures, c.len-len.type_inv)

pub returns : goal.returns
returns c =
    let at = c.in_ok-packets.stop.at in
    let b = drop at c.args.bits.now in
    let s = c.in_ok-packets.ensures.ok in
    let t : Tells c.args.version b at (Some c.unwrap-reach.result) = subst (Tells c.args.version b at) c.unwrap-reach.ensures c.in_ok-packet_fault.ensures.tells in (
      c.len-len.ensures,
      (
        c.in_ok-packets.stop,
        s.0,
        s.1,
        c.in_ok-packets.ensures.longest,
        c.in_ok-header.ensures.ok,
        s.2,
        (
          c.unwrap-reason.result,
          c.unwrap-reach.result,
          c.unwrap-reason.ensures,
          t,
          c.in_ok-last.ensures.ok.0 ∙ ap (λ fs. placed at (all_keyed fs)) c.deref.ensures.value,
          ap (λ r. fault r (Some c.in_ok-packets.stop.count) c.unwrap-reach.result.at c.due_of.result) c.refusal.ensures ∙ ap (λ d. fault (refusal_of c.unwrap-reason.result) (Some c.in_ok-packets.stop.count) c.unwrap-reach.result.at d) c.due_of.ensures,
        ),
      ),
    )
