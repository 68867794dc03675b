use Rattle.std.proofs.Common.{rules, ◌≡◌, ◌∙◌, Some, None, [], refl, sym}
use Rattle.std.specs.Prelude.{Bool, cond, false, true}
use Rattle.balise_index.specs.Identities as slots
use Rattle.balise_index.specs.NameIndex.{tag_in}
use Rattle.balise_index.specs.Places.{Links, compare_place, is_place}
use Rattle.balise_index.proofs.names.Slots.{absent, lent, place_set, stays, taken, with_links, Changed}
use Rattle.balise_index.proofs.names.Written.{empty_inside, no_length}
use Rattle.balise_index.proofs.name_index.NameIndex.forget_name.Goals as goal
use Rattle.balise_index.proofs.name_index.NameIndex.forget_name.Goals.{In-Some}

never : (b : Bool) → false ≡ cond b false false
never true = refl
never false = refl

pub returns-in_default-clause-forgotten : goal.returns-in_default-clause-forgotten
returns-in_default-clause-forgotten c =
    rw (c.get_mut.follows.holds-at-none ∙ c.self.view_is) (place_set (absent c.self.view_is c.in_default.ensures.value) c.args.place false (λ v. never (is_place c.args.place v)))

-- ---- the identity has a slot, and the place was taken out

slot : (c : In-Some) (s : Links) → Changed c.args.self.now (c.get_mut.follows.lender (with_links c.in-Some.named.now s)) c.args.id (Some c.in-Some.named.now) (Some (with_links c.in-Some.named.now s))
slot c s = lent c.self.view_is c.in-Some.ensures.value (with_links c.in-Some.named.now s) (c.get_mut.follows.holds (with_links c.in-Some.named.now s))

pub returns-then-named-clause-forgotten : goal.returns-then-named-clause-forgotten
returns-then-named-clause-forgotten c = place_set (slot (goal.at.returns-then-named-clause-forgotten c).In-Some c.remove.new.self) c.args.place false (λ v. c.remove.ensures v)

pub returns-then-named-clause-tags : goal.returns-then-named-clause-tags
returns-then-named-clause-tags c = stays (slot (goal.at.returns-then-named-clause-tags c).In-Some c.remove.new.self) tag_in refl

pub returns-then-not-is_empty-clause-forgotten : goal.returns-then-not-is_empty-clause-forgotten
returns-then-not-is_empty-clause-forgotten c = place_set (slot (goal.at.returns-then-not-is_empty-clause-forgotten c).In-Some c.remove.new.self) c.args.place false (λ v. c.remove.ensures v)

pub returns-then-not-is_empty-clause-tags : goal.returns-then-not-is_empty-clause-tags
returns-then-not-is_empty-clause-tags c = stays (slot (goal.at.returns-then-not-is_empty-clause-tags c).In-Some c.remove.new.self) tag_in refl

-- the slot goes too
pub returns-clause-forgotten : goal.returns-clause-forgotten
returns-clause-forgotten c =
    let s = (goal.at.returns-clause-forgotten c).In-Some in
    let left = c.remove.new.self in
    let out : slots.Updates (c.get_mut.follows.lender (with_links c.in-Some.named.now left)) c.take_out.new.held c.args.id None = search rules in
    let none : left.keys ≡ [] = no_length left.keys (c.is_empty.ensures.0 c.if-not-is_empty.false) in
    place_set (taken (slot s left) (λ r. out r)) c.args.place false (λ v. sym (empty_inside compare_place left v none) ∙ c.remove.ensures v)
