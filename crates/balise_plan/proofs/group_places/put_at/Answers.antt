use Rattle.std.proofs.Common.{rules, ◌≡◌, ◌∙◌, insert, Some, None, sym, ap, subst, true}
use Rattle.std.specs.Option.{is_some}
use Rattle.balise_rules.specs.declared.tag.Tag.{Tag}
use Rattle.balise_rules.specs.Plan.{Group, group_named, identity_of}
use Rattle.balise_plan.proofs.renumbering.Plans.{none-map, there_and_back}
use Rattle.balise_plan.specs.Held.{IsHeld}
use Rattle.balise_index.specs.NameIndex.{held, names_of, tags_of, indexed, Keeps, Updates}
use Rattle.balise_plan.specs.GroupLinks.{links_in_group, KeepsOthers, SetsAll}
use Rattle.balise_plan.proofs.naming.GroupLists.{taken_back}
use Rattle.balise_plan.proofs.groups.Put.{none-noted, held-inserted}
use Rattle.balise_plan.proofs.group_places.put_at.Goals as goal
use Rattle.balise_plan.proofs.group_places.put_at.Goals.{After-insert, After-reserve}

-- the groups with this one put in
inserted : (c : After-insert) → c.insert.new.self.entries ≡ insert c.args.groups.now.entries c.args.i (c.args.g, c.args.group)
inserted c = c.insert.ensures ∙ ap (λ xs. insert xs c.args.i (c.args.g, c.args.group)) c.reserve.ensures.entries

-- the tag is noted under its identity, which had none
claimed : (c : After-reserve) → (indexed (tags_of c.args.index.now) c.args.own ≡ None) × Updates (tags_of c.args.index.now) (tags_of c.claim.new.self) c.args.own (Some c.args.g)
claimed c = (search rules, search rules)

pub returns-clause-put : goal.returns-clause-put
returns-clause-put c = inserted (goal.at.returns-clause-put c).After-insert

pub returns-clause-held : goal.returns-clause-held
returns-clause-held c =
    let plan = c.args.groups.now.entries in
    let ids = tags_of c.args.index.now in
    let h = c.requires.held in
    let own = c.args.own in
    let new = c.note_group.new.index in
    let k = claimed (goal.at.returns-clause-held c).After-reserve in
    let free : group_named (identity_of c.args.group) plan ≡ None = ap (λ i. group_named i plan) (sym c.requires.own) ∙ none-map (λ (y : Tag × Group). y.0) (group_named own plan) (sym (h.tags own) ∙ k.0) in
    let tags = subst (λ t. Updates ids t own (Some c.args.g)) (sym c.note_group.ensures.tags) (λ q. k.1 q) in
    let added : SetsAll true (links_in_group c.args.g c.args.group) (names_of c.claim.new.self) (names_of new) = search rules in
    let adds = subst (λ m. SetsAll true (links_in_group c.args.g c.args.group) m (names_of new)) c.claim.ensures.names (λ q w. added q w) in
    subst (IsHeld (tags_of new) (names_of new)) (sym (inserted (goal.at.returns-clause-held c).After-insert))
    (held-inserted plan ids (names_of c.args.index.now) h c.args.g c.args.group c.requires.new c.requires.sound free (names_of new) (λ q w. adds q w) own c.requires.own (tags_of new) (λ q. tags q) c.args.i)

-- no room for the group
pub returns-then-is_err-clause-held : goal.returns-then-is_err-clause-held
returns-then-is_err-clause-held c =
    let ids = tags_of c.args.index.now in
    let h = c.requires.held in
    let own = c.args.own in
    let new = c.forget_tag.new.self in
    let k = claimed (goal.at.returns-then-is_err-clause-held c).After-reserve in
    let gone : Updates (tags_of c.claim.new.self) (tags_of new) own None = search rules in
    subst (IsHeld (tags_of new) (names_of new)) (sym c.reserve.ensures.entries) (record {
      sound = h.sound;
      tags = λ q. there_and_back ids (tags_of c.claim.new.self) (tags_of new) own c.args.g (ap is_some k.0) (λ r. k.1 r) (λ r. gone r) q ∙ h.tags q;
      named = λ q w. ap (λ m. held m q w) (c.forget_tag.ensures.names ∙ c.claim.ensures.names) ∙ h.named q w;
    })

-- no memory for its links
pub returns-then-is_err-2-clause-held : goal.returns-then-is_err-2-clause-held
returns-then-is_err-2-clause-held c =
    let names = names_of c.args.index.now in
    let h = c.requires.held in
    let own = c.args.own in
    let new = c.forget_tag-then-is_err-2.new.self in
    let k = claimed (goal.at.returns-then-is_err-2-clause-held c).After-reserve in
    let gone : Updates (tags_of c.forget_group.new.index) (tags_of new) own None = search rules in
    let out = subst (λ t. Updates t (tags_of new) own None) (c.forget_group.ensures.tags ∙ c.note_group.ensures.tags) (λ q. gone q) in
    let some : KeepsOthers (links_in_group c.args.g c.args.group) (names_of c.claim.new.self) (names_of c.note_group.new.index) = search rules in
    let others = subst (λ m. KeepsOthers (links_in_group c.args.g c.args.group) m (names_of c.note_group.new.index)) c.claim.ensures.names (λ q w. some q w) in
    let unnoted = none-noted c.args.groups.now.entries (tags_of c.args.index.now) names h c.args.g c.args.group c.requires.new c.requires.sound in
    let kept : Keeps names (names_of c.forget_group.new.index) = taken_back (links_in_group c.args.g c.args.group) names (names_of c.note_group.new.index) (names_of c.forget_group.new.index) unnoted (λ q w. others q w) c.forget_group.ensures.forgotten in
    let keeps = subst (Keeps names) (sym c.forget_tag-then-is_err-2.ensures.names) (λ q w. kept q w) in
    subst (IsHeld (tags_of new) (names_of new)) (sym c.reserve.ensures.entries) (record {
      sound = h.sound;
      tags = λ q. there_and_back (tags_of c.args.index.now) (tags_of c.claim.new.self) (tags_of new) own c.args.g (ap is_some k.0) (λ r. k.1 r) (λ r. out r) q ∙ h.tags q;
      named = λ q w. keeps q w ∙ h.named q w;
    })
