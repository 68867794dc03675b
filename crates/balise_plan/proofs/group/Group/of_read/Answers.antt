use Rattle.std.proofs.Common.{◌∙◌, ◌-◌, length, ap, sym, arith, ◌≡◌, List, Bool, Ok}
use Rattle.balise_rules.specs.declared.identity.Id.{Id}
use Rattle.balise_rules.specs.Plan.{agree_from, read_group}
use Rattle.balise_plan.proofs.groups.Reading.{few_read, read_sound, stands}
use Rattle.balise_plan.proofs.group.Group.of_read.Goals as goal
use Rattle.balise_plan.proofs.group.Group.of_read.Goals.{Else-id-eq-NO_GROUP}

pub identity-id-requires : goal.identity-id-requires
identity-id-requires c = let few = few_read c.args.telegrams c.requires in omega (arith, few)

pub agree-requires : goal.agree-requires
agree-requires c = let few = few_read c.args.telegrams c.requires in omega (arith, few)

-- the telegrams are read of some bits
read : (c : Else-id-eq-NO_GROUP) → (bs : List (List Bool)) × (read_group bs ≡ Ok c.args.telegrams)
read c =
    let ys = c.args.telegrams in
    stands ys c.identity-id.result.number c.requires (omega (arith, c.len-count.ensures, c.if-count-eq0.false)) (ap (λ (i : Id). agree_from i (length ys - 1) 0 ys) (sym c.identity-id.ensures) ∙ sym c.agree.ensures ∙ c.if-not-agree.false)
    (ap (λ (i : Id). i.number) c.identity-id.ensures) c.if-id-eq-NO_GROUP.false

pub invariant_of-result : goal.invariant_of-result
invariant_of-result c = (read_sound c.args.telegrams (read c)).sound

pub returns-clause-sound : goal.returns-clause-sound
returns-clause-sound c = (read_sound c.args.telegrams (read c)).sound

pub returns-clause-read : goal.returns-clause-read
returns-clause-read c = read c
