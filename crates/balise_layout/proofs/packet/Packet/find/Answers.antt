-- What was gone over to the end is found.
use Rattle.std.proofs.Common.{refl, arith}
use Rattle.std.proofs.lemmas.Result.{err_from_is_err_and}
use Rattle.balise_layout.proofs.GoingOver.{over_ends, over_fails}
use Rattle.balise_layout.proofs.packet.Packet.find.Goals as goal

pub new-walker-requires-clause-ordered : goal.new-walker-requires-clause-ordered
new-walker-requires-clause-ordered c = let b = c.in_ok-number.ensures in omega (arith, b.0, b.2.least)

pub returns-in_err-walk_rest : goal.returns-in_err-walk_rest
returns-in_err-walk_rest c =
    let b = c.in_ok-number.ensures in
    let fails = over_fails _ c.args.version c.in_ok-number.number c.of-kind.result c.args.bits.now c.args.at c.in_ok-number.end _ _ c.in_err-walk_rest.field-0.0 _ (λ l m. refl, λ l m. refl, λ l m. refl) (b.0, b.1, b.2, c.of-kind.ensures) c.new-walker.ensures (c.in_err-walk_rest.ensures (λ _. refl)) in
    let p = err_from_is_err_and c.from_residual-in_err-walk_rest.result c.from_residual-in_err-walk_rest.ensures.1 in
    rw (p.1, p.2) (record { found = fails.1; fault = fails.0 })

pub returns-clause-found : goal.returns-clause-found
returns-clause-found c =
    let b = c.in_ok-number.ensures in
    over_ends _ c.args.version c.in_ok-number.number c.of-kind.result c.args.bits.now c.args.at c.in_ok-number.end _ _ c.walk_rest.new.walker (λ l m. refl, λ l m. refl, λ l m. refl) (b.0, b.1, b.2, c.of-kind.ensures) c.new-walker.ensures c.in_ok-walk_rest.ensures
