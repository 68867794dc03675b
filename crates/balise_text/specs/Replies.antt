-- Printed lines with their ends: replies to commands, and why a plan, a journal or a run is refused.
use Rattle.std.specs.Prelude.{ℕ, Bool, true, false, [], ◌∷◌, codes, decimal}
use Rattle.balise_rules.specs.declared.refusal.Refusal.{Refusal}
use Rattle.balise_rules.specs.declared.refusal.Refusal.TheVariants.{DependsOn}
use Rattle.balise_rules.specs.Refusals.{number_of, name_of}
use Rattle.balise_rules.specs.Session.{Reply, Done, Undone, Redone, Struck, Refused}
use Rattle.balise_text.specs.Texts.{Text, whole_line}

-- the refusal's number and name, and for a dependence the serial
abbrev pub refused_line : Refusal → Text
refused_line (DependsOn s) = whole_line (codes "refused" ∷ decimal (number_of (DependsOn s)) ∷ name_of (DependsOn s) ∷ decimal s ∷ [])
refused_line r = whole_line (codes "refused" ∷ decimal (number_of r) ∷ name_of r ∷ [])

-- the line that answers a command
abbrev pub reply_line : Reply → Text
reply_line (Done s) = whole_line (codes "ok" ∷ decimal s ∷ [])
reply_line (Undone s) = whole_line (codes "undone" ∷ decimal s ∷ [])
reply_line (Redone s) = whole_line (codes "redone" ∷ decimal s ∷ [])
reply_line (Struck s) = whole_line (codes "struck" ∷ decimal s ∷ [])
reply_line (Refused r) = refused_line r

-- the line for a plan or a journal that is refused on line n
abbrev pub bad_line : ℕ → Refusal → Text
bad_line n r = whole_line (codes "bad" ∷ decimal n ∷ decimal (number_of r) ∷ name_of r ∷ [])

-- the line for a run that ends with a fault
abbrev pub fault_line : Refusal → Text
fault_line r = whole_line (codes "fault" ∷ decimal (number_of r) ∷ name_of r ∷ [])

abbrev pub is_refused : Reply → Bool
is_refused (Refused r) = true
is_refused r = false
