-- A group turned back, which isn't refused: it has the identity that it had.
use Rattle.std.proofs.Common.{◌≡◌, ◌∙◌, refl, ap, subst}
use Rattle.balise_rules.specs.Edits.{effect}
use Rattle.balise_rules.specs.declared.tagged_edit.TaggedEdit.TheVariants.{TurnGroup}
use Rattle.balise_rules.specs.Notes.{noted}
use Rattle.balise_edits.specs.Standing.{changed_to, IsLast}
use Rattle.balise_edits.proofs.Bare.{asks_of, back_of, bare_last}
use Rattle.balise_edits.proofs.Standing.{last_free, own_turned}
use Rattle.balise_edits.proofs.kinds.turns.turn_back.Goals as goal

pub returns-in-Ok-clause-back : goal.returns-in-Ok-clause-back
returns-in-Ok-clause-back c =
    let f = c.args.entry.now in
    let groups = c.args.plan.now.groups in
    let last : IsLast ((f.0.0, TurnGroup c.args.g), f.1) groups = subst (λ x. IsLast ((f.0.0, x), f.1) groups) c.requires.is c.requires.last in
    let own : (noted (TurnGroup c.args.g) groups).own ≡ f.1.own = own_turned f.0.0 c.args.g f.1 groups last in (
      bare_last c.requires.last c.requires.is refl,
      c.in-Ok.ensures.1 ∙ ap (λ i. changed_to (effect (0, TurnGroup c.args.g) i groups) c.args.plan.now) own ∙ back_of c.args.plan.now c.requires.last c.requires.is,
    )

pub returns-in-Err : goal.returns-in-Err
returns-in-Err c =
    let free = last_free _ (TurnGroup c.args.g) _ c.requires.last (asks_of c.requires.last c.requires.is) in
    let refused = c.in-Err.ensures.0 in
    absurd (cc)
