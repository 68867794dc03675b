use Rattle.std.proofs.Common.{◌≡◌, ◌∙◌, ℕ, ◌+◌, ◌*◌, ◌%◌, ◌<◌, List, length, get_or, Some, ap, sym, subst}
use Rattle.balise_rules.specs.declared.variable.TheConstants.{BY_PLACE}
use Rattle.balise_rules.specs.declared.variable.Var.TheVariants.{NidPacket}
use Rattle.balise_rules.proofs.VariableNames.{long, placed, place_of}
use Rattle.balise_rules.proofs.variable.candidate.Goals as goal

pub returns-in_default : goal.returns-in_default
returns-in_default c = λ v e. absurd (long v (subst (λ (l : List ℕ). length l < 2) (sym e) c.in_default.len_below))

pub returns : goal.returns
returns c = λ v e.
    let name = c.args.name.now in
    let two = length name % 32 * 2 in
    let place : (two + c.from.result * 63 + c.from-2.result * 3) % 68 ≡ place_of name =
    ap (λ (x : ℕ). (two + x * 63 + c.from-2.result * 3) % 68) c.from.ensures ∙ ap (λ (x : ℕ). (two + get_or name 0 0 * 63 + x * 3) % 68) c.from-2.ensures in
    ap Some (ap (λ (i : ℕ). get_or BY_PLACE i NidPacket) (place ∙ ap place_of (sym e)) ∙ placed v)
