use Rattle.std.proofs.Common.{◌∙◌, inr, refl}
use Rattle.balise_rules.specs.declared.variable.Var.TheVariants.{QLinkorientation}
use Rattle.balise_edits.proofs.SetNames.{listed, orientation_names}
use Rattle.balise_edits.proofs.naming.names_of_orientation.Goals as goal

pub returns-in_default-clause-names : goal.returns-in_default-clause-names
returns-in_default-clause-names c accepted =
    let bad = listed c.args.g c.args.t c.args.p QLinkorientation c.args.k c.args.value c.args.plan.now.groups c.link_at.result c.link_at.ensures.sound (inr refl) accepted c.link_at.ensures.item c.in_default.is in
    absurd bad

pub returns-clause-names : goal.returns-clause-names
returns-clause-names c accepted =
    c.one_real.ensures.names ∙ orientation_names c.args.g c.args.t c.args.p c.args.k c.args.value c.args.plan.now.groups c.link_at.result c.in-Some.link c.link_at.ensures.sound accepted c.link_at.ensures.item c.in-Some.is
