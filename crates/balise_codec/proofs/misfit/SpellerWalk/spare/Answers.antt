use Rattle.std.proofs.Common.{ℕ, ap, sym, ◌∙◌, Err}
use Rattle.balise_rules.specs.Forms.{never}
use Rattle.balise_layout.specs.declared.fault.LayoutFault.TheVariants.{LayoutMismatch}
use Rattle.balise_codec.specs.Misfits.{walk_values, stopped}
use Rattle.balise_codec.specs.declared.misfit.Misfit.TheVariants.{Spare}
use Rattle.balise_codec.proofs.MisfitWalk.{values_never, progress}
use Rattle.balise_codec.proofs.misfit.SpellerWalk.spare.Goals as goal

pub returns : goal.returns
returns c =
    let s = progress c.self.inside.values.now c.self.inside.count c.self.inside.misfit in
    ap (walk_values never) (sym c.self.view_is) ∙ values_never s ∙ ap (λ (i : ℕ). Err (LayoutMismatch, stopped i Spare s)) (sym c.saturating_sub.ensures)
