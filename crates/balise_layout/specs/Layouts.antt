-- The layout of a packet: that of one number, or of the packets that are kept bit for bit, which has no number of its own.
use Rattle.std.specs.Prelude.{◌≡◌, ◌↔◌, ℕ, ◌==◌, ◌||◌, Bool, false, not, List, Option, Some, None, is_some, if◌then◌else◌}
use Rattle.balise_rules.specs.declared.variable.Var.TheVariants.{NidBg}
use Rattle.balise_rules.specs.Tags.{same_var}
use Rattle.balise_rules.specs.Forms.{Form, done, shut, never, valued, Fields, Matches}
use Rattle.balise_rules.specs.Packets.{is_known, known_body, body}

-- what follows the first three fields
unfoldable pub form_of : Option ℕ → Form
form_of None = done
form_of (Some own) = known_body own

-- whether a packet of this number may have the layout
unfoldable pub takes : Option ℕ → ℕ → Bool
takes None n = not (n == 0 || n == 255)
takes (Some own) n = n == own

-- what follows the first three fields, as the number says, where packets of the layout have this form
unfoldable pub next_by : Option ℕ → Form → ℕ → Form
next_by own form n = if takes own n then form else never

-- the same by the form that the rules have for the layout
abbrev pub next_of : Option ℕ → ℕ → Form
next_of own = next_by own (form_of own)

-- the layout by which a version reads a number
unfoldable pub layout_in : ℕ → ℕ → Option ℕ
layout_in version n = if is_known version n then Some n else None

-- What has this layout is well-formed in a version exactly where it knows the number or, of a packet kept bit for bit, where it doesn't.
abbrev pub SpeltWhere : Option ℕ → Type 0
SpeltWhere own = (version n : ℕ) (fs : Fields) (rest : List Bool) → Matches (next_of own n) fs rest → (Matches (body version n) fs rest ↔ (is_known version n ≡ is_some own))

-- no field of the form is the number of a group
abbrev pub Nameless : Form → Type 0
Nameless done = Unit {0}
Nameless shut = Unit {0}
Nameless never = Unit {0}
Nameless (valued v next) = (same_var NidBg v ≡ false) × ((n : ℕ) → Nameless (next n))
