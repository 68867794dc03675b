use Rattle.std.proofs.Common.{◌∙◌, ℕ, Option, Some, None, sym, ap, add-one}
use Rattle.std.specs.List.{insert}
use Rattle.balise_rules.specs.declared.tag.Tag.{Tag}
use Rattle.balise_rules.specs.Tagged.{put, stands}
use Rattle.balise_rules.specs.Tags.{same_tag}
use Rattle.balise_telegram.proofs.Placing.{there_from, none_after, put_after_from}
use Rattle.balise_telegram.proofs.Tagging.{not_found}
use Rattle.balise_telegram.proofs.telegram.Telegram.place_after.Goals as goal

pub returns-in-Some-find-clause-there : goal.returns-in-Some-find-clause-there
returns-in-Some-find-clause-there c = there_from c.in-Some.tag c.args.self.now.packets (Some c.in-Some-find.place.index) c.in-Some-find.ensures.place ∙ ap (λ (a : Option Tag). stands same_tag a c.args.self.now.packets) (sym c.in-Some.is)

pub returns-in-Some-find-clause-put : goal.returns-in-Some-find-clause-put
returns-in-Some-find-clause-put c = λ z.
    ap (λ (k : ℕ). insert c.args.self.now.packets k z) (c.after.ensures.index ∙ add-one c.in-Some-find.place.index)
    ∙ put_after_from c.in-Some.tag c.args.self.now.packets c.in-Some-find.place.index c.in-Some-find.ensures.place z
    ∙ ap (λ (a : Option Tag). put same_tag a z c.args.self.now.packets) (sym c.in-Some.is)

pub returns-in-None-clause-there : goal.returns-in-None-clause-there
returns-in-None-clause-there c = there_from c.in-Some.tag c.args.self.now.packets None c.in-None.ensures.place ∙ ap (λ (a : Option Tag). stands same_tag a c.args.self.now.packets) (sym c.in-Some.is)

pub returns-in-None-clause-put : goal.returns-in-None-clause-put
returns-in-None-clause-put c = λ z. none_after c.in-Some.tag z c.args.self.now.packets (not_found c.in-Some.tag c.args.self.now.packets c.in-None.ensures.place) ∙ ap (λ (a : Option Tag). put same_tag a z c.args.self.now.packets) (sym c.in-Some.is)
