use Rattle.std.proofs.Common.{◌+◌, ◌∷◌, [], drop, map}
use Rattle.balise_rules.specs.Digits.{hex_of}
use Rattle.balise_text.specs.Texts.{Text, behind_marks}
use Rattle.balise_lines.specs.Writing.{LastFailed}
use Rattle.balise_lines.proofs.PartsWritten.{wrote_more, wrote_some}
use Rattle.balise_text.proofs.Lists.{item_marked}
use Rattle.balise_text.proofs.journal_text.put_telegrams.Goals as goal

pub returns-in-Err : goal.returns-in-Err
returns-in-Err g c =
    let more : Text = behind_marks 32 (map hex_of (drop (c.loop-bits.bits-index + 1) c.args.telegrams.now)) in
    let e = item_marked hex_of c.args.telegrams.now c.loop-bits.bits-index c.bits-item.result c.loop-bits-test.true c.bits-item.is in
    wrote_some LastFailed _ _ _ (behind_marks 32 (hex_of c.bits-item.result ∷ [])) more _ _ _ e c.loop-bits.invariant c.in-Err.ensures

pub loop-bits-preserved : goal.loop-bits-preserved
loop-bits-preserved g c =
    let more : Text = behind_marks 32 (map hex_of (drop (c.loop-bits.bits-index + 1) c.args.telegrams.now)) in
    let e = item_marked hex_of c.args.telegrams.now c.loop-bits.bits-index c.bits-item.result c.loop-bits-test.true c.bits-item.is in
    wrote_more _ _ _ (behind_marks 32 (hex_of c.bits-item.result ∷ [])) more _ _ _ e c.loop-bits.invariant c.in_default.ensures
