-- What was gone over to the end is read, and names what was found on the way.
use Rattle.std.proofs.Common.{◌-◌, ◌∙◌, ℕ, List, [], Bool, false, refl, arith}
use Rattle.std.proofs.lemmas.Result.{err_from_is_err_and}
use Rattle.balise_rules.specs.Bits.{part}
use Rattle.balise_rules.specs.declared.identity.Id.{Id}
use Rattle.balise_rules.specs.Packet.{width}
use Rattle.balise_layout.specs.Held.{held}
use Rattle.balise_layout.specs.Kinds.{number_of}
use Rattle.balise_layout.specs.Layouts.{next_of}
use Rattle.balise_layout.specs.Linked.{link_few}
use Rattle.balise_layout.proofs.First.{read_lies}
use Rattle.balise_layout.proofs.GoingOver.{over_ends, over_fails, over_rest, Begun}
use Rattle.balise_layout.proofs.Held.{visited}
use Rattle.balise_layout.proofs.NamedFound.{few_named}
use Rattle.balise_layout.proofs.Nameless.{held_nameless}
use Rattle.balise_layout.proofs.packet.Packet.check_named.Goals as goal

pub new-walker-requires-clause-ordered : goal.new-walker-requires-clause-ordered
new-walker-requires-clause-ordered c = let b = c.in_ok-number.ensures in omega (arith, b.0, b.2.least)

pub new-walker-requires-2-clause-ordered : goal.new-walker-requires-2-clause-ordered
new-walker-requires-2-clause-ordered c = let b = c.in_ok-number.ensures in omega (arith, b.0, b.2.least)

pub returns-in_err-walk_rest : goal.returns-in_err-walk_rest
returns-in_err-walk_rest c =
    let b = c.in_ok-number.ensures in
    let fails = over_fails link_few c.args.version c.in_ok-number.number c.of-kind.result c.args.bits.now c.args.at c.in_ok-number.end _ (c.args.country, [], false) c.in_err-walk_rest.field-0.0 _ (λ l m. refl, λ l m. refl, λ l m. refl) (b.0, b.1, b.2, c.of-kind.ensures) (c.new-walker.ensures ∙ rw c.new.ensures refl) (c.in_err-walk_rest.ensures (λ _. refl)) in
    let p = err_from_is_err_and c.from_residual-in_err-walk_rest.result c.from_residual-in_err-walk_rest.ensures.1 in
    rw (p.1, p.2) (record { stands = fails.1; fault = fails.0 })

pub returns-in_err-walk_rest-2 : goal.returns-in_err-walk_rest-2
returns-in_err-walk_rest-2 c =
    let b = c.in_ok-number.ensures in
    let fails = over_fails _ c.args.version c.in_ok-number.number c.of-kind.result c.args.bits.now c.args.at c.in_ok-number.end _ _ c.in_err-walk_rest-2.field-0.0 _ (λ l m. refl, λ l m. refl, λ l m. refl) (b.0, b.1, b.2, c.of-kind.ensures) c.new-walker-2.ensures (c.in_err-walk_rest-2.ensures (λ _. refl)) in
    let p = err_from_is_err_and c.from_residual-in_err-walk_rest-2.result c.from_residual-in_err-walk_rest-2.ensures.1 in
    rw (p.1, p.2) (record { stands = fails.1; fault = fails.0 })

pub returns-then-has_elements-clause-stands : goal.returns-then-has_elements-clause-stands
returns-then-has_elements-clause-stands c =
    let b = c.in_ok-number.ensures in
    let begun : Begun c.args.version c.in_ok-number.number c.of-kind.result c.args.bits.now c.args.at c.in_ok-number.end = (b.0, b.1, b.2, c.of-kind.ensures) in
    let end = c.in_ok-number.end in
    let next = next_of (number_of c.of-kind.result) in
    let p = held next (part c.args.at (end - c.args.at) c.args.bits.now) in
    let start = c.new-walker.ensures ∙ rw c.new.ensures refl in
    let none : ℕ × List Id × Bool = (c.args.country, [], false) in
    let f = over_ends link_few c.args.version c.in_ok-number.number c.of-kind.result c.args.bits.now c.args.at end _ none c.walk_rest.new.walker (λ l m. refl, λ l m. refl, λ l m. refl) begun start c.in_ok-walk_rest.ensures in
    let over = over_rest link_few c.args.version c.in_ok-number.number c.of-kind.result c.args.bits.now c.args.at end _ none (λ l m. refl, λ l m. refl, λ l m. refl) begun start in
    let lies = read_lies c.args.version c.args.at end c.args.bits.now p f.0 f.1 f.3 in
    let kept = visited link_few next none _ p _ c.walk_rest.new.walker f.2 refl (over ∙ c.in_ok-walk_rest.ensures) in
    (p, f.3, lies.0, lies.1, lies.2, few_named c.args.country (width p) p c.into_named.result c.into_visitor.result f.2.numbered (c.into_visitor.ensures ∙ kept) c.into_named.ensures.few c.into_named.ensures.many)

pub returns-clause-stands : goal.returns-clause-stands
returns-clause-stands c =
    let b = c.in_ok-number.ensures in
    let end = c.in_ok-number.end in
    let own = number_of c.of-kind.result in
    let p = held (next_of own) (part c.args.at (end - c.args.at) c.args.bits.now) in
    let f = over_ends _ c.args.version c.in_ok-number.number c.of-kind.result c.args.bits.now c.args.at end _ _ c.walk_rest-2.new.walker (λ l m. refl, λ l m. refl, λ l m. refl) (b.0, b.1, b.2, c.of-kind.ensures) c.new-walker-2.ensures c.in_ok-walk_rest-2.ensures in
    let lies = read_lies c.args.version c.args.at end c.args.bits.now p f.0 f.1 f.3 in
    (p, f.3, lies.0, lies.1, lies.2, λ country. held_nameless country own _ p (c.has_elements.ensures.none c.if-has_elements.false) f.2)
