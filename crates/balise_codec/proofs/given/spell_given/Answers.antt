-- What is refused without L_PACKET is refused with it, at the place among the values as they are given.
use Rattle.std.proofs.Common.{◌≡◌, ◌≢◌, ◌∙◌, ℕ, Some, inr, ap, sym, subst, arith}
use Rattle.balise_rules.specs.Packet.{Packet}
use Rattle.balise_codec.specs.declared.misfit.Misfit.{Misfit}
use Rattle.balise_codec.specs.declared.fault.SpellFault.{SpellFault}
use Rattle.balise_codec.specs.declared.fault.SpellFault.TheVariants as spell
use Rattle.balise_codec.specs.Faults.{fault_of}
use Rattle.balise_codec.specs.Given.{but_length, length_given, placed_fault}
use Rattle.balise_codec.specs.Misfits.{first_misfit}
use Rattle.balise_codec.specs.Spelling.{Values, size_of, SpeltBy}
use Rattle.balise_codec.proofs.MisfitPlaces.{fault_within}
use Rattle.balise_codec.proofs.given.spell_given.Goals as goal

known : (at : ℕ) (m : Misfit) (e : SpellFault) → e ≡ spell.Misfit at m → e ≢ spell.OutOfMemory
known at m e h k = let both : spell.Misfit at m ≡ spell.OutOfMemory = sym h ∙ k in absurd cc

real : (said : ℕ) (e : SpellFault) → placed_fault (Some said) e ≢ spell.OutOfMemory → e ≢ spell.OutOfMemory
real said e n h = n (ap (placed_fault (Some said)) h)

pub placed-requires : goal.placed-requires
placed-requires c = λ at m h.
    let e = c.in-Err.ensures.fault (known at m c.in-Err.fault h) in
    let within = fault_within c.args.version (size_of c.deref.result.now c.args.rest.now) at m c.deref.result.now (sym h ∙ e) in
    omega (arith, within, c.deref.ensures.len, c.in-Ok.others.small)

pub returns-in-Err-clause-fault : goal.returns-in-Err-clause-fault
returns-in-Err-clause-fault c = λ n.
    let vs = c.args.values.now in
    let raw = c.args.rest.now in
    let is = c.placed.ensures c.in-Some.said in
    let given : length_given vs ≡ Some c.in-Some.said = sym c.length_given.ensures ∙ c.in-Some.is in
    let items : c.deref.result.now ≡ but_length vs = c.deref.ensures.value ∙ c.in-Ok.ensures in
    let more : c.in-Err.fault ≢ spell.OutOfMemory = real c.in-Some.said c.in-Err.fault (λ h. n (is ∙ h)) in
    let none = subst (λ (x : Values). (p : Packet) → SpeltBy c.args.version x raw p → ⊥) items (c.in-Err.ensures.none more) in
    let fault : c.in-Err.fault ≡ fault_of (first_misfit c.args.version (but_length vs)) (size_of (but_length vs) raw) = c.in-Err.ensures.fault more ∙ ap (λ (x : Values). fault_of (first_misfit c.args.version x) (size_of x raw)) items in
    inr (none, is ∙ ap (placed_fault (Some c.in-Some.said)) fault ∙ ap (λ o. placed_fault o (fault_of (first_misfit c.args.version (but_length vs)) (size_of (but_length vs) raw))) (sym given))
