use Rattle.std.proofs.Common.{rules, ◌∙◌, Some, None, Result, Ok, Err, ap, refl}
use Rattle.std.specs.Prelude.{cond, true}
use Rattle.std.specs.Result.{OnErr}
use Rattle.balise_index.specs.declared.name_index.Named.{Named}
use Rattle.balise_index.specs.Identities as slots
use Rattle.balise_index.specs.NameIndex.{names_in, tag_in}
use Rattle.balise_index.specs.Places.{compare_place, is_place}
use Rattle.balise_index.proofs.names.Slots.{changed, lent, place_set, stays, with_links, Changed}
use Rattle.balise_index.proofs.names.Written.{empty_inside}
use Rattle.balise_index.proofs.name_index.NameIndex.add_name.Goals as goal
use Rattle.balise_index.proofs.name_index.NameIndex.add_name.Goals.{In-Some, In_ok-insert-3}

on_err : {A E P : Type 0} (r : Result A E) → P → OnErr r P
on_err (Ok a) p = tt
on_err (Err e) p = p

-- ---- the identity has a slot, and its places were changed

slot : (c : In-Some) (b : Named) → Changed c.args.self.now (c.get_mut.follows.lender b) c.args.id (Some c.in-Some.named.now) (Some b)
slot c b = lent c.self.view_is c.in-Some.ensures.value b (c.get_mut.follows.holds b)

pub returns-in_err-insert-clause-tags : goal.returns-in_err-insert-clause-tags
returns-in_err-insert-clause-tags c = stays (slot (goal.at.returns-in_err-insert-clause-tags c).In-Some (with_links c.in-Some.named.now c.insert.new.self)) tag_in refl

pub returns-in_err-insert-clause-unchanged : goal.returns-in_err-insert-clause-unchanged
returns-in_err-insert-clause-unchanged c =
    let s = (goal.at.returns-in_err-insert-clause-unchanged c).In-Some in
    on_err c.from_residual.result (stays (slot s (with_links c.in-Some.named.now c.insert.new.self)) names_in (ap (λ l. names_in (with_links c.in-Some.named.now l)) c.in_err-insert.ensures.unchanged))

pub returns-in-Some-clause-added : goal.returns-in-Some-clause-added
returns-in-Some-clause-added c = place_set (slot (goal.at.returns-in-Some-clause-added c).In-Some (with_links c.in-Some.named.now c.insert.new.self)) c.args.place true (λ v. c.in_ok-insert.ensures.put v)

pub returns-in-Some-clause-tags : goal.returns-in-Some-clause-tags
returns-in-Some-clause-tags c = stays (slot (goal.at.returns-in-Some-clause-tags c).In-Some (with_links c.in-Some.named.now c.insert.new.self)) tag_in refl

-- ---- it has a slot now

there : (c : In_ok-insert-3) → Changed c.args.self.now c.insert-3.new.self c.args.id None (Some (record { owner = 4294967295; links = c.insert-2.new.self }))
there c =
    let put : slots.Updates c.get_mut.follows.lender-at-none c.insert-3.new.self c.args.id (Some (record { owner = 4294967295; links = c.insert-2.new.self })) = search rules in
    changed c.self.view_is c.get_mut.follows.holds-at-none c.in_default.ensures.value (λ r. put r)

pub returns-clause-added : goal.returns-clause-added
returns-clause-added c = place_set (there (goal.at.returns-clause-added c).In_ok-insert-3) c.args.place true (λ v. c.in_ok-insert-2.ensures.put v ∙ ap (cond (is_place c.args.place v) true) (empty_inside compare_place c.new-links.result v c.new-links.ensures))

pub returns-clause-tags : goal.returns-clause-tags
returns-clause-tags c = stays (there (goal.at.returns-clause-tags c).In_ok-insert-3) tag_in refl
