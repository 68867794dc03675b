-- What going over a part of a packet did.
use Rattle.std.specs.Prelude.{◌≡◌, ◌≢◌, ℕ, List, [], Bool, false, Some, None, Result, Ok, Err}
use Rattle.balise_rules.specs.declared.variable.Var.{Var}
use Rattle.balise_rules.specs.Forms.{Form, valued, read_form}
use Rattle.balise_rules.specs.Packet.{Packet}
use Rattle.balise_layout.specs.declared.fault.LayoutFault.{LayoutFault}
use Rattle.balise_layout.specs.declared.fault.LayoutFault.TheVariants.{LayoutMismatch, OutOfMemory}

-- the fault isn't that a visitor ran out of memory
abbrev pub Sure : Bool → LayoutFault → Type 0
Sure allocates e = e ≡ OutOfMemory → allocates ≡ false

-- what going over a form makes of a walker
abbrev pub Walking : Type 0 → Type 0
Walking S = Form → S → Result S (LayoutFault × S)

-- The part is gone over: whatever stands after it is gone over from the new state. Or no walk goes on this way, unless memory runs out.
abbrev pub Reads : {S : Type 0} → Bool → Walking S → (Form → Form) → S → Result (Unit {0}) LayoutFault → S → Type 0
Reads allocates run part old (Ok x) new = (rest : Form) → run (part rest) old ≡ run rest new
Reads allocates run part old (Err e) new = (rest : Form) → Sure allocates e → run (part rest) old ≡ Err (e, new)

-- The variable is read.
abbrev pub Takes : {S : Type 0} → Bool → Walking S → Var → S → Result ℕ LayoutFault → S → Type 0
Takes allocates run var old (Ok n) new = (next : ℕ → Form) → run (valued var next) old ≡ run (next n) new
Takes allocates run var old (Err e) new = (next : ℕ → Form) → Sure allocates e → run (valued var next) old ≡ Err (e, new)

-- The walk went to its end, as it answers.
abbrev pub Ends : {S : Type 0} → Bool → Walking S → Form → S → Result (Unit {0}) LayoutFault → S → Type 0
Ends allocates run form old (Ok x) new = run form old ≡ Ok new
Ends allocates run form old (Err e) new = Sure allocates e → run form old ≡ Err (e, new)

-- What reading all of some bits by a form answers, unless memory runs out.
abbrev pub Gives : {X : Type 0} → (X → Packet) → Form → List Bool → Result X LayoutFault → Type 0
Gives shown form b (Ok x) = read_form form [] b ≡ Some ((shown x).fields, (shown x).rest)
Gives shown form b (Err e) = e ≢ OutOfMemory → (e ≡ LayoutMismatch) × (read_form form [] b ≡ None)
