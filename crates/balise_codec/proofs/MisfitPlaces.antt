-- The place of a misfit is that of a value, or of the end. By induction on the form.
use Rattle.std.proofs.Common.{◌≡◌, ℕ, ◌+◌, ◌-◌, ◌≤◌, Bool, true, false, cond, nat_lt, [], ◌∷◌, length, Option, Some, None, refl, ap, arith}
use Rattle.balise_rules.specs.declared.variable.Var.{Var}
use Rattle.balise_rules.specs.declared.variable.Var.TheVariants.{LPacket}
use Rattle.balise_rules.specs.Tags.{same_var}
use Rattle.balise_rules.specs.Forms.{Form, done, shut, never, valued}
use Rattle.balise_rules.specs.Packets.{packet}
use Rattle.balise_codec.specs.declared.misfit.Misfit.{Misfit}
use Rattle.balise_codec.specs.declared.misfit.Misfit.TheVariants.{TooMany, Spare, NoFields}
use Rattle.balise_codec.specs.declared.fault.SpellFault.{SpellFault}
use Rattle.balise_codec.specs.declared.fault.SpellFault.TheVariants as spell
use Rattle.balise_codec.specs.Faults.{fault_of}
use Rattle.balise_codec.specs.Misfits.{first_misfit, front_value, has_no_fields, misfit_along, misfit_of, others, too_many, unless_misfit}
use Rattle.balise_codec.specs.Spelling.{Values}

abbrev Place : Type 0
Place = ℕ × Misfit

same_place : (x y : Place) → ◌≡◌ {A = Option Place} (Some x) (Some y) → x.0 ≡ y.0
same_place x y h = ap of h
  where
    of : Option Place → ℕ
    of None = x.0
    of (Some z) = z.0

many_within : (i : ℕ) (vs : Values) (y : Place) → too_many i vs ≡ Some y → y.0 ≤ i + length vs
many_within i [] y h = absurd cc
many_within i (x ∷ vs) y h = omega (arith, same_place (i, TooMany) y h)

-- what is left after a value that fits
one_fewer : (v : Var) (vs : Values) → misfit_of v vs ≡ None → length (others vs) + 1 ≡ length vs
one_fewer v [] h = absurd cc
one_fewer v (x ∷ vs) h = omega arith

along_within : (form : Form) (i : ℕ) (vs : Values) (y : Place) → misfit_along form i vs ≡ Some y → y.0 ≤ i + length vs
unfolding misfit_along
along_within done i vs y h = many_within i vs y h
along_within shut i vs y h = many_within i vs y h
along_within never i vs y h = omega (arith, same_place (i - 1, Spare) y h)
along_within (valued v next) i vs y h =
    by (same_var v LPacket) (misfit_of v vs) refl h (along_within (next 0) i vs y) (along_within (next (front_value vs)) (i + 1) (others vs) y)
  where
    by : (b : Bool) (o : Option Misfit) → misfit_of v vs ≡ o → cond b (misfit_along (next 0) i vs) (unless_misfit o (misfit_along (next (front_value vs)) (i + 1) (others vs)) (λ m. Some (i, m))) ≡ Some y → (misfit_along (next 0) i vs ≡ Some y → y.0 ≤ i + length vs) → (misfit_along (next (front_value vs)) (i + 1) (others vs) ≡ Some y → y.0 ≤ i + 1 + length (others vs)) → y.0 ≤ i + length vs
    by true o e h skip on = skip h
    by false None e h skip on = omega (arith, on h, one_fewer v vs e)
    by false (Some m) e h skip on = omega (arith, same_place (i, m) y h)

first_within : (version : ℕ) (vs : Values) (y : Place) → first_misfit version vs ≡ Some y → y.0 ≤ length vs
first_within version vs y h = by (has_no_fields vs) h
  where
    by : (b : Bool) → cond b (Some (0, NoFields)) (misfit_along (packet version) 0 vs) ≡ Some y → y.0 ≤ length vs
    by true h = omega (arith, same_place (0, NoFields) y h)
    by false h = omega (arith, along_within (packet version) 0 vs y h)

pub fault_within : (version size at : ℕ) (m : Misfit) (vs : Values) → spell.Misfit at m ≡ fault_of (first_misfit version vs) size → at ≤ length vs
fault_within version size at m vs h = by (first_misfit version vs) refl h
  where
    place_of : SpellFault → ℕ
    place_of (spell.Misfit i n) = i
    place_of e = at

    neither : (b : Bool) → spell.Misfit at m ≡ cond b spell.BitsLeft spell.TooLong → ⊥
    neither true h = cc
    neither false h = cc

    by : (o : Option Place) → first_misfit version vs ≡ o → spell.Misfit at m ≡ fault_of o size → at ≤ length vs
    by None e h = absurd (neither (nat_lt size 8192) h)
    by (Some y) e h = let same : at ≡ y.0 = ap place_of h in omega (arith, same, first_within version vs y e)
