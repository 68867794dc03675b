use Rattle.std.proofs.Common.{◌∷◌, [], codes, decimal}
use Rattle.balise_rules.specs.Digits.{hex_of}
use Rattle.balise_lines.specs.Writing.{LastFailed}
use Rattle.balise_text.specs.Texts.{text_of, whole_line}
use Rattle.balise_fields.proofs.Sequences.{behind, some_front_of}
use Rattle.balise_items.proofs.LineParts.{packet_words}
use Rattle.balise_items.proofs.spelling_text.put_packet.Goals as goal

pub returns-in-Err : goal.returns-in-Err
returns-in-Err g c =
    let hex = hex_of c.args.bits.now in
    let version = decimal c.args.version in
    some_front_of LastFailed _ _ (text_of (codes "packet " ∷ version ∷ codes " " ∷ [])) (whole_line (hex ∷ [])) _ _ (packet_words version hex) c.in-Err.ensures

pub returns : goal.returns
returns g c =
    let hex = hex_of c.args.bits.now in
    let version = decimal c.args.version in
    behind (λ _. LastFailed) _ c.put_hex_line.result _ (text_of (codes "packet " ∷ version ∷ codes " " ∷ [])) (whole_line (hex ∷ [])) _ _ _ (packet_words version hex) c.in_default.ensures c.put_hex_line.ensures
