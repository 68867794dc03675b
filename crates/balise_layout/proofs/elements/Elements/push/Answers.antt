use Rattle.std.proofs.Common.{◌≡◌, ◌∙◌, ◌++◌, ◌∷◌, [], length, take, List, ap, sym, arith, length-append}
use Rattle.std.proofs.lemmas.List.{length-take-le, take_all, take_more_set, take-append-le}
use Rattle.balise_rules.specs.declared.identity.Id.{Id}
use Rattle.balise_layout.specs.Linked.{most_elements}
use Rattle.balise_layout.proofs.elements.Elements.push.Goals as goal

pub returns-then-self-lt-MOST_ELEMENTS : goal.returns-then-self-lt-MOST_ELEMENTS
returns-then-self-lt-MOST_ELEMENTS c =
    let n = c.self.inside.count in
    let ids = c.self.inside.identities in
    let id = c.args.id in
    let more : List Id = c.args.self.now ++ id ∷ [] in
    let l : length c.args.self.now ≡ n = ap length (sym c.self.view_is) ∙ length-take-le n ids (omega (arith, c.self.invariant)) in
    let all : take most_elements more ≡ more = take_all most_elements more (omega (arith, l, length-append c.args.self.now (id ∷ []), c.if-self-lt-MOST_ELEMENTS.true)) in
    take_more_set ids n id (omega (arith, c.self.invariant, c.if-self-lt-MOST_ELEMENTS.true)) ∙ ap (λ (is : List Id). is ++ id ∷ []) c.self.view_is ∙ sym all

pub returns-else-self-lt-MOST_ELEMENTS : goal.returns-else-self-lt-MOST_ELEMENTS
returns-else-self-lt-MOST_ELEMENTS c =
    let n = c.self.inside.count in
    let held = c.args.self.now in
    let l : length held ≡ n = ap length (sym c.self.view_is) ∙ length-take-le n c.self.inside.identities (omega (arith, c.self.invariant)) in
    let full : length held ≡ 32 = omega (arith, l, c.self.invariant, c.if-self-lt-MOST_ELEMENTS.false) in
    sym (take-append-le most_elements held (c.args.id ∷ []) (omega (arith, full)) ∙ take_all most_elements held (omega (arith, full)))
