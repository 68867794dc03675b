use Rattle.std.proofs.Common.{subst}
use Rattle.balise_rules.specs.Plan.{country_of}
use Rattle.balise_telegram.specs.Linking.{AreNamed}
use Rattle.balise_plan.specs.GroupNames.{AreLinks}
use Rattle.balise_plan.proofs.naming.Noted.{first, kept}
use Rattle.balise_plan.proofs.group_names.GroupNames.add.Goals as goal

pub returns-in-Nothing : goal.returns-in-Nothing
returns-in-Nothing c = λ ys y links named. kept c.args.self.now ys c.args.tag y links (subst (λ n. AreNamed n (country_of y) y.packets) c.in-Nothing.is named)

pub returns-in-Nothing-self : goal.returns-in-Nothing-self
returns-in-Nothing-self c = λ ys y links named.
    first ys c.args.tag y c.in-One.packet c.in-One.few (subst (λ n. AreLinks n ys) c.in-Nothing-self.is links) (subst (λ n. AreNamed n (country_of y) y.packets) c.in-One.is named)
