-- Packets stand up to a place, and what they name was seen.
use Rattle.std.proofs.Common.{◌∙◌, ◌+◌, ◌++◌, ◌∷◌, [], ℕ, ap, subst, Err, drop, length, length-append, refl, sym, arith}
use Rattle.balise_rules.specs.declared.tag.Tag.TheVariants.{Base}
use Rattle.balise_telegram.specs.Faults.{refusal_of}
use Rattle.balise_telegram.specs.Linking.{AreNamed}
use Rattle.balise_telegram.proofs.PacketsRead.{none_stands, short_ends, end_ends, another_stands, another_fails}
use Rattle.balise_rules.proofs.PacketAgain.{front_of}
use Rattle.balise_telegram.proofs.telegram.reading.check_packets.Goals as goal

pub packets-init : goal.packets-init
packets-init c = (([], none_stands c.args.bits.now c.args.version c.requires.header), refl, λ k d h. absurd (omega (arith, h)))

pub returns-then-len-at-lt8-clause-fault : goal.returns-then-len-at-lt8-clause-fault
returns-then-len-at-lt8-clause-fault c = let s = c.packets.invariant.0 in short_ends c.args.bits.now c.args.version c.packets.at (length s.0) s.0 s.1 (let e = c.if-len-at-lt8.true in omega (arith, e, c.len.ensures))

pub returns-then-number-eq255-clause-ok : goal.returns-then-number-eq255-clause-ok
returns-then-number-eq255-clause-ok c =
    let s = c.packets.invariant.0 in
    ((s.0, drop (c.packets.at + 8) c.args.bits.now), end_ends c.args.bits.now c.args.version c.packets.at (length s.0) s.0 s.1 (omega (arith, c.len.ensures, c.if-len-at-lt8.false, s.1.within)) (sym c.if-number-eq255.true ∙ c.number.ensures), c.packets.invariant.2)

pub packets-preserved : goal.packets-preserved
packets-preserved c =
    let s = c.packets.invariant.0 in
    let counted = c.packets.invariant.1 in
    let f = c.in-Ok.ensures.stands in
    let now = s.0 ++ (Base (length s.0), f.0) ∷ [] in
    let more = another_stands c.args.bits.now c.args.version c.packets.at c.in-Ok.end s (f.0, f.1, f.2, f.3, f.4) in
    let names = c.add.ensures c.args.country s.0 f.0 counted c.packets.invariant.2 f.5 in
    ((now, more), omega (arith, counted, length-append s.0 ((Base (length s.0), f.0) ∷ [])), subst (λ (k : ℕ). AreNamed c.add.new.self c.args.country (s.0 ++ (Base k, f.0) ∷ [])) counted names)

pub overflow_add-count : goal.overflow_add-count
overflow_add-count c =
    let s = c.packets.invariant.0 in
    omega (arith, c.packets.invariant.1, s.1.few, s.1.within, c.requires.most)

pub packets-smaller : goal.packets-smaller
packets-smaller c =
    let f = c.in-Ok.ensures.stands in
    let w = (front_of c.args.version f.0 f.2).least in omega (arith, f.3, f.4, c.packets.invariant.0.1.within, w)

pub returns-in-Err-clause-fault : goal.returns-in-Err-clause-fault
returns-in-Err-clause-fault c =
    let s = c.packets.invariant.0 in
    another_fails c.args.bits.now c.args.version c.packets.at c.number.result c.in-Err.fault s (omega (arith, c.len.ensures, c.if-len-at-lt8.false, s.1.within)) c.number.ensures c.if-number-eq255.false c.in-Err.ensures.stands
    ∙ ap (λ e. Err (refusal_of e)) (sym c.from.ensures)
