-- It is refused because a group has the identity, or as out of memory.
use Rattle.std.proofs.Common.{◌≡◌, ◌⊎◌, ◌∙◌, inl, inr, [], ◌∷◌, not, Bool, true, false, Option, Some, None, option_map, ap, subst, sym}
use Rattle.std.specs.Option.{is_some}
use Rattle.balise_rules.specs.declared.refusal.Refusal.{Refusal}
use Rattle.balise_rules.specs.declared.refusal.Refusal.TheVariants.{GroupTwice, NoSuchGroup, OutOfMemory}
use Rattle.balise_rules.specs.declared.tag.Tag.{Tag}
use Rattle.balise_rules.specs.Doing.{first_of, when}
use Rattle.balise_rules.specs.Plan.{group_named, identity_of, Group}
use Rattle.balise_index.specs.AtSpot.{spot_stands}
use Rattle.balise_index.specs.NameIndex.{IsUnclaimed}
use Rattle.balise_plan.specs.Held.{Plan}
use Rattle.balise_plan.specs.Spots.{group_refusal}
use Rattle.balise_plan.proofs.plan.Plan.put_group.Goals as goal

refused : (e : Refusal) (held : Option (Tag × Group)) (there : Bool) → IsUnclaimed e (option_map (λ (y : Tag × Group). y.0) held) → there ≡ true → (e ≡ OutOfMemory) ⊎ (first_of (when (not there) NoSuchGroup ∷ when (is_some held) GroupTwice ∷ []) ≡ Some e)
refused e None true unclaimed is = inl unclaimed
refused e (Some y) true unclaimed is = inr (ap Some (sym unclaimed))
refused e held false unclaimed is = absurd cc

pub returns-in-Err : goal.returns-in-Err
returns-in-Err c =
    let plan = c.self.inside.groups.entries in
    let e = c.in-Err.back.0 in
    let there : spot_stands c.args.spot plan ≡ true = sym c.place_of.ensures.there ∙ ap is_some c.in-Some.is in
    let why = refused e (group_named (identity_of c.args.group) plan) (spot_stands c.args.spot plan) c.in-Err.ensures.fault there in (
      subst (λ (p : Plan). (e ≡ OutOfMemory) ⊎ (group_refusal c.args.spot c.args.group p.groups ≡ Some e)) c.self.view_is why,
      c.in-Err.ensures.back,
      ap (λ es. record { groups = es; changes = c.self.inside.changes }) c.in-Err.ensures.unchanged ∙ c.self.view_is,
    )
