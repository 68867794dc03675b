use Rattle.std.proofs.Common.{refl, Some}
use Rattle.balise_index.specs.declared.name_index.Named.{Named}
use Rattle.balise_index.specs.NameIndex.{names_in, tag_in}
use Rattle.balise_index.proofs.names.Slots.{lent, stays, Changed}
use Rattle.balise_index.proofs.name_index.NameIndex.claim.Goals as goal
use Rattle.balise_index.proofs.name_index.NameIndex.claim.Goals.{In-Some}

slot : (c : In-Some) (b : Named) → Changed c.args.self.now (c.get_mut.follows.lender b) c.args.id (Some c.in-Some.named.now) (Some b)
slot c b = lent c.self.view_is c.in-Some.ensures.value b (c.get_mut.follows.holds b)

pub returns-then-is_some-clause-names : goal.returns-then-is_some-clause-names
returns-then-is_some-clause-names c = stays (slot (goal.at.returns-then-is_some-clause-names c).In-Some c.in-Some.named.now) names_in refl

pub returns-then-is_some-clause-unchanged : goal.returns-then-is_some-clause-unchanged
returns-then-is_some-clause-unchanged c = stays (slot (goal.at.returns-then-is_some-clause-unchanged c).In-Some c.in-Some.named.now) tag_in refl

pub returns-in_default-own_code-clause-names : goal.returns-in_default-own_code-clause-names
returns-in_default-own_code-clause-names c = stays (slot (goal.at.returns-in_default-own_code-clause-names c).In-Some c.in-Some.named.now) names_in refl

pub returns-in-Some-clause-names : goal.returns-in-Some-clause-names
returns-in-Some-clause-names c = stays (slot (goal.at.returns-in-Some-clause-names c).In-Some (record { owner = c.in-Some-own_code.code; links = c.in-Some.named.now.links })) names_in refl
