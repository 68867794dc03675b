-- Where a value doesn't fit no packet has the values; and where one has them, they fit.
use Rattle.std.proofs.Common.{◌≡◌, ◌∙◌, ℕ, Option, Some, None, List, Bool, sym, ap}
use Rattle.balise_rules.specs.Packet.{Packet}
use Rattle.balise_codec.specs.declared.misfit.Misfit.{Misfit}
use Rattle.balise_codec.specs.Spelling.{Values, size_of, SpeltBy}
use Rattle.balise_codec.specs.Misfits.{first_misfit}
use Rattle.balise_codec.specs.Faults.{fault_of}
use Rattle.balise_codec.proofs.Fitting.{spelt_fits}
use Rattle.balise_codec.proofs.spell.spell_packet.Goals as goal

none_spelt : (version : ℕ) (vs : Values) (raw : List Bool) (x : ℕ × Misfit) (p : Packet) → Some x ≡ first_misfit version vs → SpeltBy version vs raw p → ⊥
none_spelt version vs raw x p e s =
    let both : ◌≡◌ {A = Option (ℕ × Misfit)} (Some x) None = e ∙ spelt_fits version vs raw p s in
    absurd cc

pub returns-in-Some-clause-none : goal.returns-in-Some-clause-none
returns-in-Some-clause-none c = λ e p s. none_spelt c.args.version c.args.values.now c.args.rest.now (c.in-Some.at, c.in-Some.misfit) p (sym c.in-Some.is ∙ c.find_misfit.ensures) s

pub returns-in-Some-clause-fault : goal.returns-in-Some-clause-fault
returns-in-Some-clause-fault c = λ e. ap (λ (o : Option (ℕ × Misfit)). fault_of o (size_of c.args.values.now c.args.rest.now)) (sym c.in-Some.is ∙ c.find_misfit.ensures)
