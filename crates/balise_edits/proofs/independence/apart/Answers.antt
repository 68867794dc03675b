use Rattle.std.proofs.Common.{◌∙◌, sym, ap}
use Rattle.balise_edits.specs.declared.home.Home.{Home}
use Rattle.balise_edits.specs.Homes.{elsewhere, home_at}
use Rattle.balise_edits.proofs.Elsewhere.{apart_elsewhere}
use Rattle.balise_edits.proofs.independence.apart.Goals as goal

pub returns-then-is_elsewhere : goal.returns-then-is_elsewhere
returns-then-is_elsewhere c = sym (apart_elsewhere c.args.entry.now c.args.later.now
    (sym (ap (λ (h : Home). elsewhere h (home_at c.args.later.now)) c.home.ensures)
    ∙ (sym (ap (λ (h : Home). elsewhere c.home.result.now h) c.home-2.ensures)
    ∙ (sym c.is_elsewhere.ensures ∙ c.if-is_elsewhere.true))))
