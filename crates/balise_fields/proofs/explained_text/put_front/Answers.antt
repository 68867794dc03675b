use Rattle.std.proofs.Common.{◌++◌, ◌∷◌, [], codes, decimal, refl}
use Rattle.balise_lines.specs.Writing.{LastFailed}
use Rattle.balise_text.specs.Texts.{Text, whole_line}
use Rattle.balise_fields.specs.ExplainedTexts.{fields_text, packets_text}
use Rattle.balise_fields.proofs.Sequences.{behind, some_behind, some_front_of}
use Rattle.balise_fields.proofs.explained_text.put_front.Goals as goal

pub returns-in-Err : goal.returns-in-Err
returns-in-Err g c =
    let more : Text = fields_text c.args.header.now ++ packets_text c.args.packets.now in
    some_front_of LastFailed _ _ (whole_line (codes "telegram" ∷ decimal c.args.len ∷ [])) more _ _ refl c.in-Err.ensures

pub returns-in-Err-put_fields : goal.returns-in-Err-put_fields
returns-in-Err-put_fields g c =
    let more : Text = fields_text c.args.header.now ++ packets_text c.args.packets.now in
    some_behind LastFailed _ _ (whole_line (codes "telegram" ∷ decimal c.args.len ∷ [])) more _ _ _ refl c.in_default.ensures
    (some_front_of LastFailed _ more (fields_text c.args.header.now) (packets_text c.args.packets.now) _ _ refl c.in-Err-put_fields.ensures)

pub returns : goal.returns
returns g c =
    let more : Text = fields_text c.args.header.now ++ packets_text c.args.packets.now in
    behind (λ _. LastFailed) _ c.put_packets.result _ (whole_line (codes "telegram" ∷ decimal c.args.len ∷ [])) more _ _ _ refl c.in_default.ensures
    (behind (λ _. LastFailed) _ c.put_packets.result more (fields_text c.args.header.now) (packets_text c.args.packets.now) _ _ _ refl c.in_default-put_fields.ensures c.put_packets.ensures)
