-- What a group names, as it was seen while it was read.
use Rattle.std.specs.Prelude.{◌≡◌, []}
use Rattle.balise_rules.specs.declared.tag.Tag.{Tag}
use Rattle.balise_rules.specs.declared.tag.Tag.TheVariants.{Base}
use Rattle.balise_rules.specs.Plan.{Group}
use Rattle.balise_plan.specs.declared.group_names.GroupNames.{GroupNames}
use Rattle.balise_plan.specs.declared.group_names.GroupNames.TheVariants.{Nothing, One, Many}
use Rattle.balise_plan.specs.GroupLinks.{links_from, links_in_group}

-- the links of a group under whatever tag, unless they are many
abbrev pub AreLinks : GroupNames → Group → Type 0
AreLinks Nothing ys = (g : Tag) → links_in_group g ys ≡ []
AreLinks (One t i ids) ys = (g : Tag) → links_in_group g ys ≡ links_from g t (Base i) 0 ids
AreLinks Many ys = Unit {0}
