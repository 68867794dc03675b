-- The bits are header, packets, packet 255 and padding; they are a telegram's where length and header are a balise's.
use Rattle.std.proofs.Common.{◌≢◌, ◌∙◌, ap, sym, subst}
use Rattle.balise_telegram.specs.HeaderFields.{fields_in}
use Rattle.balise_codec.specs.declared.telegram.TelegramMisfit.TheVariants.{OutOfMemory}
use Rattle.balise_codec.specs.Telegrams.{too_wide, Refuses}
use Rattle.balise_codec.proofs.Placing.{length_is, length_not}
use Rattle.balise_codec.proofs.Composing.{Composed, compose, composed, passed_on, takes}
use Rattle.balise_codec.proofs.telegram.spell_telegram.Goals.{After-len-len}
use Rattle.balise_codec.proofs.telegram.spell_telegram.Goals as goal

made : (c : After-len-len) → Composed c.args.header.now c.args.packets.now c.args.padding.now c.append.new.self
made c = compose c.args.header.now c.args.packets.now c.args.padding.now c.new-bits.result c.write_fields.new.bits c.add_packets.new.bits c.push.new.self c.append.new.self c.header_fields.result c.new-bits.ensures c.header_fields.ensures c.in_ok-write_fields.ensures.ok c.in_ok-add_packets.ensures.ok c.in_ok-push.ensures.ok c.in_ok-append.ensures.ok

pub returns-in_err-write_fields-clause-fault : goal.returns-in_err-write_fields-clause-fault
returns-in_err-write_fields-clause-fault c =
    let refuses = Refuses (fields_in c.args.header.now) c.args.packets.now c.args.padding.now in
    let e = c.in_err-write_fields.field-0.0 in
    passed_on (λ x. x ≢ OutOfMemory → refuses x) c.from_residual.result e c.from_residual.ensures
    (λ n. let f = c.in_err-write_fields.ensures.fault n in subst refuses (sym f.1) (ap too_wide (sym c.header_fields.ensures) ∙ f.2))

pub returns-in_err-add_packets-clause-fault : goal.returns-in_err-add_packets-clause-fault
returns-in_err-add_packets-clause-fault c =
    let refuses = Refuses (fields_in c.args.header.now) c.args.packets.now c.args.padding.now in
    let e = c.in_err-add_packets.field-0.0 in
    passed_on (λ x. x ≢ OutOfMemory → refuses x) c.from_residual-in_err-add_packets.result e c.from_residual-in_err-add_packets.ensures
    (λ n. let f = c.in_err-add_packets.ensures.fault n in subst refuses (sym f.2) (ap too_wide (sym c.header_fields.ensures) ∙ c.in_ok-write_fields.ensures.ok.1, f.3))

pub returns-then-len-clause-fault : goal.returns-then-len-clause-fault
returns-then-len-clause-fault c = λ _.
    let m = made (goal.at.returns-then-len-clause-fault c).After-len-len in
    let t = takes c.args.header.now c.args.packets.now c.args.padding.now c.append.new.self m in
    (m.fit, (t.0, t.1, c.len-len.ensures ∙ t.2), length_not c.len-len.result c.if-len.true)

pub returns-then-not-is_balise-clause-fault : goal.returns-then-not-is_balise-clause-fault
returns-then-not-is_balise-clause-fault c = λ _.
    let m = made (goal.at.returns-then-not-is_balise-clause-fault c).After-len-len in
    let t = takes c.args.header.now c.args.packets.now c.args.padding.now c.append.new.self m in
    (m.fit, (_, t, length_is c.len-len.result c.len-len.result _ c.len-len.ensures c.len-len.ensures c.if-len.false), sym c.is_balise.ensures ∙ c.if-not-is_balise.true)

pub returns-clause-ok : goal.returns-clause-ok
returns-clause-ok c =
    let m = made (goal.at.returns-clause-ok c).After-len-len in
    composed c.args.header.now c.args.packets.now c.args.padding.now c.append.new.self m (length_is c.len-len.result c.len-len.result _ c.len-len.ensures c.len-len.ensures c.if-len.false) (sym c.is_balise.ensures ∙ c.if-not-is_balise.false)
