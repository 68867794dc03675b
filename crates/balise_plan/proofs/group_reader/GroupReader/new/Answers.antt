use Rattle.std.proofs.Common.{sym, subst, refl}
use Rattle.balise_rules.specs.Plan.{Group}
use Rattle.balise_plan.specs.GroupNames.{AreLinks}
use Rattle.balise_plan.specs.GroupReading.{WereRead}
use Rattle.balise_plan.specs.declared.group_names.GroupNames.TheVariants.{Nothing}
use Rattle.balise_plan.proofs.groups.Reading.{none_read}
use Rattle.balise_plan.proofs.group_reader.GroupReader.new.Goals as goal

pub invariant_of-result : goal.invariant_of-result
invariant_of-result c = subst (λ (ys : Group). WereRead ys × AreLinks Nothing ys) (sym c.new.ensures) (none_read, λ g. refl)
