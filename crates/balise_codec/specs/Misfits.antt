-- Values beside what is due in a packet: the first that doesn't fit there, and why.
use Rattle.std.specs.Prelude.{ℕ, ◌+◌, ◌-◌, ◌==◌, ◌&&◌, ◌||◌, Bool, false, [], ◌∷◌, Option, Some, None, Result, Ok, Err, if◌then◌else◌}
use Rattle.balise_rules.specs.declared.variable.Var.{Var}
use Rattle.balise_rules.specs.declared.variable.Var.TheVariants.{NidPacket, LPacket}
use Rattle.balise_rules.specs.Variables.{width_of}
use Rattle.balise_rules.specs.Bits.{fits}
use Rattle.balise_rules.specs.Tags.{same_var}
use Rattle.balise_rules.specs.Forms.{Form, done, shut, never, valued}
use Rattle.balise_rules.specs.Packets.{packet}
use Rattle.balise_layout.specs.declared.fault.LayoutFault.{LayoutFault}
use Rattle.balise_layout.specs.declared.fault.LayoutFault.TheVariants.{LayoutMismatch}
use Rattle.balise_codec.specs.declared.misfit.Misfit.{Misfit}
use Rattle.balise_codec.specs.declared.misfit.Misfit.TheVariants.{NotDue, TooWide, Missing, TooMany, Spare, NoFields}
use Rattle.balise_codec.specs.Spelling.{Values}

-- why the first of these values isn't one of this variable
abbrev pub misfit_of : Var → Values → Option Misfit
misfit_of v [] = Some (Missing v)
misfit_of v (x ∷ xs) = if same_var x.0 v then if fits (width_of v) x.1 then None else Some TooWide else Some (NotDue v)

abbrev pub too_many : ℕ → Values → Option (ℕ × Misfit)
too_many i [] = None
too_many i (x ∷ xs) = Some (i, TooMany)

abbrev pub front_value : Values → ℕ
front_value [] = 0
front_value (x ∷ xs) = x.1

abbrev pub others : Values → Values
others [] = []
others (x ∷ xs) = xs

abbrev pub unless_misfit : {R : Type 0} → Option Misfit → R → (Misfit → R) → R
unless_misfit None r f = r
unless_misfit (Some m) r f = f m

-- The first value that doesn't fit, by its place, if they are counted on from i, and why. L_PACKET isn't among them.
unfoldable pub misfit_along : Form → ℕ → Values → Option (ℕ × Misfit)
misfit_along done i vs = too_many i vs
misfit_along shut i vs = too_many i vs
misfit_along never i vs = Some (i - 1, Spare)
misfit_along (valued v next) i vs =
    if same_var v LPacket then misfit_along (next 0) i vs
    else unless_misfit (misfit_of v vs) (misfit_along (next (front_value vs)) (i + 1) (others vs)) (λ m. Some (i, m))

-- whether the values are of packet 0 or of packet 255, which have no such fields (SUBSET-026, 7.4.2)
abbrev pub has_no_fields : Values → Bool
has_no_fields [] = false
has_no_fields (x ∷ xs) = same_var x.0 NidPacket && (x.1 == 0 || x.1 == 255)

-- the first value that isn't due in a packet of this version, by its place from 0, and why
abbrev pub first_misfit : ℕ → Values → Option (ℕ × Misfit)
first_misfit version vs = if has_no_fields vs then Some (0, NoFields) else misfit_along (packet version) 0 vs

-- ---- the same as a walk

-- the values that are left, how many were taken, and the first misfit
pub record Progress : Type 0 where
  pub left : Values
  pub count : ℕ
  pub misfit : Option (ℕ × Misfit)

abbrev pub stopped : ℕ → Misfit → Progress → Progress
stopped i m s = record { left = s.left; count = s.count; misfit = Some (i, m) }

abbrev pub Walked : Type 0
Walked = Result Progress (LayoutFault × Progress)

abbrev pub shut_at : Values → Progress → Walked
shut_at [] s = Ok s
shut_at (x ∷ xs) s = Err (LayoutMismatch, stopped s.count TooMany s)

abbrev pub taken : Progress → Progress
taken s = record { left = others s.left; count = s.count + 1; misfit = s.misfit }

unfoldable pub walk_values : Form → Progress → Walked
walk_values done s = Ok s
walk_values shut s = shut_at s.left s
walk_values never s = Err (LayoutMismatch, stopped (s.count - 1) Spare s)
walk_values (valued v next) s =
    if same_var v LPacket then walk_values (next 0) s
    else unless_misfit (misfit_of v s.left) (walk_values (next (front_value s.left)) (taken s)) (λ m. Err (LayoutMismatch, stopped s.count m s))
