use Rattle.std.proofs.Common.{◌≡◌, ◌∙◌, ℕ, List, false, bytes_eq, ap, sym}
use Rattle.std.proofs.lemmas.Bool.{true≢false}
use Rattle.balise_rules.specs.Variables.{name_of}
use Rattle.balise_rules.proofs.Cases.{unsome}
use Rattle.balise_rules.proofs.VariableNames.{itself, named, unnamed}
use Rattle.balise_rules.proofs.variable.Var.from_bytes.Goals as goal

-- the comparison is that of the candidate's name
pub returns-then-eq : goal.returns-then-eq
returns-then-eq c =
    let name = c.args.name.now in
    let same : c.eq.result ≡ bytes_eq (name_of c.in_ok-var.var) name = c.eq.ensures ∙ ap (λ (l : List ℕ). bytes_eq l name) (c.as_bytes.ensures.value ∙ c.name.ensures) in
    sym (named c.in_ok-var.var name (sym same ∙ c.if-eq.true))

pub returns : goal.returns
returns c =
    let name = c.args.name.now in
    let v = c.in_ok-var.var in
    let same : c.eq.result ≡ bytes_eq (name_of v) name = c.eq.ensures ∙ ap (λ (l : List ℕ). bytes_eq l name) (c.as_bytes.ensures.value ∙ c.name.ensures) in
    let other : bytes_eq (name_of v) name ≡ false = sym same ∙ c.if-eq.false in
    sym (unnamed name (λ w e. let one : v ≡ w = unsome (sym c.in_ok-var.was ∙ c.candidate.ensures w e) in true≢false (sym (itself v name (ap name_of one ∙ e)) ∙ other)))
