use Rattle.std.proofs.Common.{rules, ◌≡◌, ◌∙◌, Some, None, ap, refl, sym}
use Rattle.std.specs.Prelude.{Option, option_and_then}
use Rattle.balise_rules.specs.declared.tag.Tag.{Tag}
use Rattle.balise_index.specs.declared.name_index.Named.{Named}
use Rattle.balise_rules.specs.declared.identity.Id.{Id}
use Rattle.balise_index.specs.Identities as slots
use Rattle.balise_index.specs.NameIndex.{tag_in, tags_of}
use Rattle.balise_index.specs.Places.{Links}
use Rattle.balise_index.specs.TagCode.{tag_of_own}
use Rattle.balise_index.proofs.names.Slots.{lent, stays, with_links, Changed}
use Rattle.balise_index.proofs.name_index.NameIndex.move_names.Goals as goal
use Rattle.balise_index.proofs.name_index.NameIndex.move_names.Goals.{In-Some, In-Some-get_mut}

-- the places were taken from the one
slot : (c : In-Some) (b : Named) → Changed c.args.self.now (c.get_mut.follows.lender b) c.args.from (Some c.in-Some.named.now) (Some b)
slot c b = lent c.self.view_is c.in-Some.ensures.value b (c.get_mut.follows.holds b)

-- they were given to the other
given : (c : In-Some-get_mut) (b : Named) → Changed (c.get_mut.follows.lender (with_links c.in-Some.named.now c.replace-links.new.dest)) (c.get_mut-2.follows.lender b) c.args.to (Some c.in-Some-get_mut.named.now) (Some b)
given c b = lent refl c.in-Some-get_mut.ensures.value b (c.get_mut-2.follows.holds b)

all_tags : (c : In-Some-get_mut) (s : Links) → tags_of (c.get_mut-2.follows.lender (with_links c.in-Some-get_mut.named.now s)) ≡ tags_of c.args.self.now
all_tags c s = stays (given c (with_links c.in-Some-get_mut.named.now s)) tag_in refl ∙ stays (slot (goal.at.In-Some-get_mut c).In-Some (with_links c.in-Some.named.now c.replace-links.new.dest)) tag_in refl

pub returns-else-gone-clause-tags : goal.returns-else-gone-clause-tags
returns-else-gone-clause-tags c = all_tags (goal.at.returns-else-gone-clause-tags c).In-Some-get_mut c.replace-links.result

pub returns-then-gone-clause-tags : goal.returns-then-gone-clause-tags
returns-then-gone-clause-tags c =
    let b = (goal.at.returns-then-gone-clause-tags c).In-Some-get_mut in
    let out : slots.Updates (c.get_mut-2.follows.lender (with_links c.in-Some-get_mut.named.now c.replace-links.result)) c.take_out.new.held c.args.from None = search rules in
    let none : None ≡ tag_in c.in-Some.named.now = sym (ap tag_of_own c.if-gone.true) in
    stays (record { was = refl; now = λ r. out r }) tag_in (none ∙ ap (option_and_then tag_in) (slot (goal.at.In-Some-get_mut b).In-Some c.in-Some.named.now).was ∙ sym (ap (λ (f : Id → Option Tag). f c.args.from) (all_tags b c.replace-links.result))) ∙ all_tags b c.replace-links.result
