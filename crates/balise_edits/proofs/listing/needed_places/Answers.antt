use Rattle.std.proofs.Common.{arith, ◌∙◌, ◌++◌, ap, sym}
use Rattle.std.proofs.lemmas.List.{take_all}
use Rattle.balise_rules.specs.Paths.{ids}
use Rattle.balise_edits.specs.Needs.{listed, needed_place}
use Rattle.balise_edits.proofs.Meets.{needs_split}
use Rattle.balise_edits.proofs.listing.needed_places.Goals as goal

pub returns-clause-ok : goal.returns-clause-ok
returns-clause-ok c =
    c.loop-name.invariant
    ∙ ap (λ is. listed (needed_place c.args.entry.now) ++ ids is) (take_all c.loop-name.name-index c.named-name-items.result.now (omega arith) ∙ c.named-name-items.ensures)
    ∙ sym (needs_split c.args.entry.now)
