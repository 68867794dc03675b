-- Going over the fields of bits by a form. Each field is given as the number of bits from it on, its variable and its
-- value.
use Rattle.std.specs.Prelude.{ℕ, ◌-◌, List, [], ◌∷◌, ◌++◌, length, take, drop, Bool, Result, Ok, Err, nat_lt, if◌then◌else◌}
use Rattle.balise_rules.specs.declared.variable.Var.{Var}
use Rattle.balise_rules.specs.Variables.{width_of}
use Rattle.balise_rules.specs.Bits.{num}
use Rattle.balise_rules.specs.Forms.{Form, done, shut, never, valued, Fields, count_of}
use Rattle.balise_layout.specs.declared.fault.LayoutFault.{LayoutFault}
use Rattle.balise_layout.specs.declared.fault.LayoutFault.TheVariants.{LayoutMismatch}

-- what was kept so far and the bits that are left go on to those at the end of the form, or to those at the first fault
unfoldable pub walk : {A : Type 0} → (A → ℕ → Var → ℕ → A) → Form → A × List Bool → Result (A × List Bool) (LayoutFault × (A × List Bool))
walk step done s = Ok s
walk step shut (a, []) = Ok (a, [])
walk step shut (a, b ∷ bs) = Err (LayoutMismatch, (a, b ∷ bs))
walk step never s = Err (LayoutMismatch, s)
walk step (valued v next) s =
    if nat_lt (length s.1) (width_of v) then Err (LayoutMismatch, s)
    else walk step (next (num (take (width_of v) s.1))) (step s.0 (length s.1) v (num (take (width_of v) s.1)), drop (width_of v) s.1)

-- what is kept of fields, where `left` bits stand from the first of them on
abbrev pub kept : {A : Type 0} → (A → ℕ → Var → ℕ → A) → A → ℕ → Fields → A
kept step a left [] = a
kept step a left (f ∷ fs) = kept step (step a left f.0.0 f.1) (left - width_of f.0.0) fs

-- each field kept under its variable and occurrence
abbrev pub collect : Fields → ℕ → Var → ℕ → Fields
collect fs left v n = fs ++ ((v, count_of v fs), n) ∷ []
