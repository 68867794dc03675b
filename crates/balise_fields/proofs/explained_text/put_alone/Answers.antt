use Rattle.std.proofs.Common.{◌++◌, sym, ap}
use Rattle.balise_lines.specs.Writing.{LastFailed}
use Rattle.balise_fields.specs.ExplainedTexts.{alone_line, in_packet}
use Rattle.balise_fields.proofs.Sequences.{behind, some_front_of}
use Rattle.balise_fields.proofs.explained_text.put_alone.Goals as goal

pub returns-in-Err : goal.returns-in-Err
returns-in-Err g c = some_front_of LastFailed _ _ (alone_line c.from.result) (in_packet c.args.packet.now) _ _ (ap (λ n. alone_line n ++ in_packet c.args.packet.now) (sym c.from.ensures)) c.in-Err.ensures

pub returns : goal.returns
returns g c = behind (λ _. LastFailed) _ c.put_packet_fields.result _ (alone_line c.from.result) (in_packet c.args.packet.now) _ _ _ (ap (λ n. alone_line n ++ in_packet c.args.packet.now) (sym c.from.ensures)) c.in_default.ensures c.put_packet_fields.ensures
