use Rattle.std.proofs.Common.{◌∙◌, Option, sym, ap}
use Rattle.balise_rules.specs.declared.tag.Tag.{Tag}
use Rattle.balise_rules.specs.Tagged.{put_before, stands}
use Rattle.balise_rules.specs.Tags.{same_tag}
use Rattle.balise_telegram.specs.Shown.{index_of}
use Rattle.balise_telegram.proofs.Placing.{there_from, put_before_from}
use Rattle.balise_telegram.proofs.telegram.Telegram.place_before.Goals as goal

pub returns-in-Some-clause-there : goal.returns-in-Some-clause-there
returns-in-Some-clause-there c = there_from c.in-Some.tag c.args.self.now.packets (index_of c.find.result) c.find.ensures.place ∙ ap (λ (a : Option Tag). stands same_tag a c.args.self.now.packets) (sym c.in-Some.is)

pub returns-in-Some-clause-put : goal.returns-in-Some-clause-put
returns-in-Some-clause-put c = λ z. put_before_from c.in-Some.tag c.args.self.now.packets (index_of c.find.result) c.find.ensures.place z ∙ ap (λ (a : Option Tag). put_before same_tag a z c.args.self.now.packets) (sym c.in-Some.is)
