use Rattle.balise_index.specs.Places.{Links}
use Rattle.std.proofs.Common.{◌≡◌, true, false, cond, ◌&&◌, not, eqb, sym, ap, subst, arith}
use Rattle.std.proofs.lemmas.Bool.Decides.{nat_tests}
use Rattle.std.proofs.lemmas.Result.{on_ok_weaker, on_err_weaker}
use Rattle.balise_rules.specs.Names.{is_real}
use Rattle.balise_index.specs.Identities.{is_id}
use Rattle.balise_index.specs.Places.{is_place}
use Rattle.balise_index.specs.NameIndex.{held, names_of, IndexOf, Sets}
use Rattle.balise_plan.specs.Relinking.{AddsReal}
use Rattle.balise_plan.proofs.links.relink.add_real.Goals as goal

pub returns-clause-added : goal.returns-clause-added
returns-clause-added c =
    let i = c.args.id in
    let t : eqb i.number 16383 ≡ false = grind (arith, nat_tests) in
    let real : is_real i ≡ true = ap not t in
    on_ok_weaker {P = Sets (names_of c.args.index.now) (names_of c.add_name.new.self) i c.args.place true} {Q = AddsReal (names_of c.args.index.now) (names_of c.add_name.new.self) i c.args.place} c.add_name.result
    (λ h r v. subst (λ b. held (names_of c.add_name.new.self) r v ≡ cond (b && (is_id i r && is_place c.args.place v)) true (held (names_of c.args.index.now) r v)) (sym real) (h r v)) c.add_name.ensures.added

pub returns-clause-unchanged : goal.returns-clause-unchanged
returns-clause-unchanged c = on_err_weaker c.add_name.result (λ same r v. ap (λ (m : IndexOf Links). held m r v) same) c.add_name.ensures.unchanged
