use Rattle.std.proofs.Common.{◌++◌, codes, ap, sym}
use Rattle.balise_lines.specs.Writing.{LastFailed}
use Rattle.balise_fields.specs.ExplainedTexts.{bits_text, fields_text}
use Rattle.balise_fields.proofs.Sequences.{behind, some_front_of}
use Rattle.balise_fields.proofs.explained_text.put_packet_fields.Goals as goal

pub returns-in-Err : goal.returns-in-Err
returns-in-Err g c =
    let rest = bits_text (codes "rest") c.args.packet.now.rest in
    some_front_of LastFailed _ _ (fields_text c.deref.result.now) rest _ _ (ap (λ fs. fields_text fs ++ rest) (sym c.deref.ensures.value)) c.in-Err.ensures

pub returns : goal.returns
returns g c =
    let rest = bits_text (codes "rest") c.args.packet.now.rest in
    behind (λ _. LastFailed) _ c.put_bits.result _ (fields_text c.deref.result.now) rest _ _ _ (ap (λ fs. fields_text fs ++ rest) (sym c.deref.ensures.value)) c.in_default.ensures c.put_bits.ensures
