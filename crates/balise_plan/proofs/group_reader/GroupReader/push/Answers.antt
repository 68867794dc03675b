use Rattle.std.proofs.Common.{◌++◌, ◌∷◌, ◌∙◌, [], ℕ, arith, ap, sym, subst}
use Rattle.balise_plan.specs.GroupNames.{AreLinks}
use Rattle.balise_plan.proofs.groups.Reading.{in_order_read, one_read}
use Rattle.balise_plan.proofs.group_reader.GroupReader.push.Goals as goal

pub push-requires : goal.push-requires
push-requires c = in_order_read c.self.inside.telegrams c.self.invariant.0

pub invariant_of-self-2 : goal.invariant_of-self-2
invariant_of-self-2 c =
    let ys = c.self.inside.telegrams in
    let grown = c.in_ok-push.ensures.ok in
    let links = c.add.ensures ys c.in-Ok.read.0 c.self.invariant.1 c.in-Ok.ensures.names in (
      one_read ys c.push.new.self c.args.bits c.in-Ok.read.0 c.self.invariant.0 (omega arith) c.in-Ok.ensures.ok grown,
      subst (AreLinks c.add.new.self) (ap (λ (t : ℕ). ys ++ (t, c.in-Ok.read.0) ∷ []) c.len-tag.ensures ∙ sym grown) links,
    )
