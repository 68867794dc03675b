-- How far the fields of bits go along a form, what is due where they can't go on, and the same as a walk.
use Rattle.std.specs.Prelude.{◌≡◌, ◌<◌, ◌+◌, ℕ, List, [], ◌∷◌, ◌++◌, Bool, IsTrue, Option, Some, None, Result, Ok, Err, length, take, drop, nat_lt, if◌then◌else◌}
use Rattle.balise_rules.specs.declared.variable.Var.{Var}
use Rattle.balise_rules.specs.Variables.{width_of}
use Rattle.balise_rules.specs.Bits.{num, fits}
use Rattle.balise_rules.specs.Forms.{Form, done, shut, never, valued, Fields, NumberedFrom, count_of, spelling, read_form}
use Rattle.balise_rules.specs.Packets.{packet}
use Rattle.balise_layout.specs.declared.fault.LayoutFault.{LayoutFault}
use Rattle.balise_layout.specs.declared.fault.LayoutFault.TheVariants.{LayoutMismatch}
use Rattle.balise_layout.specs.Collected.{all_keyed}
use Rattle.balise_codec.specs.declared.trace.Due.{Due}
use Rattle.balise_codec.specs.declared.trace.Due.TheVariants.{Field, End, Another}
use Rattle.balise_codec.specs.declared.reach.Reach.{Reach}

-- The fields are of the form as far as they go. After them stand these bits, which aren't what is due there: a variable
-- that they are too few for, the end, or another value of the field before them.
abbrev pub StopsAt : Form → Fields → List Bool → Due → Type 0
StopsAt (valued v next) (f ∷ fs) left due = (f.0.0 ≡ v) × IsTrue (fits (width_of v) f.1) × StopsAt (next f.1) fs left due
StopsAt (valued v next) [] left due = (due ≡ Field v) × (length left < width_of v)
StopsAt shut [] left due = (due ≡ End) × (0 < length left)
StopsAt never [] left due = due ≡ Another
StopsAt done [] left due = ⊥
StopsAt done (f ∷ fs) left due = ⊥
StopsAt shut (f ∷ fs) left due = ⊥
StopsAt never (f ∷ fs) left due = ⊥

-- Bits that aren't of a form: the fields before their fault, the bits from it on, and what was due there.
pub record Stopped (form : Form) (seen : Fields) (b : List Bool) (fields : Fields) (left : List Bool) (due : Due) : Type 0 where
  pub unread : read_form form seen b ≡ None
  pub stops : StopsAt form fields left due
  pub numbered : NumberedFrom seen fields
  pub parts : b ≡ spelling fields ++ left

-- The bits are fields of a packet of this version as they should be. Otherwise these are the fields up to the fault,
-- its place, if the bits end at `end`, and what was due there.
abbrev pub Reaches : ℕ → List Bool → ℕ → Option Reach → Type 0
Reaches version b end None = (r : Fields × List Bool) × (read_form (packet version) [] b ≡ Some r)
Reaches version b end (Some r) = (left : List Bool) × Stopped (packet version) [] b (all_keyed r.fields.items) left r.due × (r.at + length left ≡ end)

-- ---- the same as a walk

-- the fields so far, the bits that are left, and what was due at the fault
pub record Trace : Type 0 where
  pub fields : Fields
  pub left : List Bool
  pub due : Due

abbrev pub Traced : Type 0
Traced = Result Trace (LayoutFault × Trace)

abbrev pub stopped : Due → Trace → Traced
stopped due s = Err (LayoutMismatch, record { fields = s.fields; left = s.left; due = due })

abbrev pub end_of : List Bool → Trace → Traced
end_of [] s = Ok s
end_of (b ∷ bs) s = stopped End s

-- one field more
abbrev pub with_next : Var → Trace → Trace
with_next v s = record { fields = s.fields ++ ((v, count_of v s.fields), num (take (width_of v) s.left)) ∷ []; left = drop (width_of v) s.left; due = s.due }

unfoldable pub trace : Form → Trace → Traced
trace done s = Ok s
trace shut s = end_of s.left s
trace never s = stopped Another s
trace (valued v next) s =
    if nat_lt (length s.left) (width_of v) then stopped (Field v) s
    else trace (next (num (take (width_of v) s.left))) (with_next v s)
