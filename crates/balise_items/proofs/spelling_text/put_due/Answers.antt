use Rattle.std.proofs.Common.{◌∷◌, [], codes, decimal}
use Rattle.balise_lines.specs.Writing.{LastFailed}
use Rattle.balise_text.specs.Texts.{text_of}
use Rattle.balise_fields.proofs.Sequences.{behind, some_front_of}
use Rattle.balise_items.specs.Reasons.{name_of}
use Rattle.balise_items.proofs.LineParts.{reason_due}
use Rattle.balise_items.proofs.spelling_text.put_due.Goals as goal

pub returns-in-Err : goal.returns-in-Err
returns-in-Err g c =
    let line = decimal c.args.bad.line in
    let name = name_of c.args.bad.reason in
    let due = c.args.due.now in
    some_front_of LastFailed _ _ (text_of (codes "bad " ∷ line ∷ codes " " ∷ name ∷ [])) (text_of (codes " " ∷ due ∷ codes "\n" ∷ [])) _ _ (reason_due line name due) c.in-Err.ensures

pub returns : goal.returns
returns g c =
    let line = decimal c.args.bad.line in
    let name = name_of c.args.bad.reason in
    let due = c.args.due.now in
    behind (λ _. LastFailed) _ c.put_texts.result _ (text_of (codes "bad " ∷ line ∷ codes " " ∷ name ∷ [])) (text_of (codes " " ∷ due ∷ codes "\n" ∷ [])) _ _ _ (reason_due line name due) c.in_default.ensures c.put_texts.ensures
