-- The field that was met is the last of its variable.
use Rattle.std.proofs.Common.{arith, ◌≡◌, ◌-◌, ◌+◌, ◌<◌, ℕ, suc, length, drop, sym, ap, ◌∙◌}
use Rattle.balise_rules.specs.declared.variable.Var.{Var}
use Rattle.balise_rules.specs.Tags.{same_var}
use Rattle.balise_rules.specs.Forms.{count_of}
use Rattle.balise_layout.specs.Collected.{all_keyed}
use Rattle.balise_layout.proofs.Counts.{count_of-last}
use Rattle.balise_layout.proofs.collect.Collect.count.Goals as goal

pub returns-then-eq : goal.returns-then-eq
returns-then-eq c =
    let items = c.self.inside.fields.items in
    let j = c.loop-i.i - 1 in
    let next : c.loop-i.i ≡ suc j = omega arith in
    let within : j < length items = omega arith in
    let none = ap (λ (n : ℕ). count_of c.args.var (all_keyed (drop n items))) (sym next) ∙ c.loop-i.invariant in
    ap (λ (x : Var × ℕ × ℕ). x.1 + 1) c.index.ensures
    ∙ count_of-last c.args.var items j c.index.result.now c.self.invariant within none (ap (λ (x : Var × ℕ × ℕ). same_var x.0 c.args.var) (sym c.index.ensures) ∙ sym c.eq.ensures ∙ c.if-eq.true)
    ∙ ap (count_of c.args.var) c.self.view_is
