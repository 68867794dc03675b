-- Which later edits depend on one (this project's own).
use Rattle.std.specs.Prelude.{ℕ, eqb, not, List, map, filter, find, option_map, ok_or, Result}
use Rattle.balise_rules.specs.declared.refusal.Refusal.{Refusal}
use Rattle.balise_rules.specs.declared.refusal.Refusal.TheVariants.{NoSuchEdit}
use Rattle.balise_rules.specs.Behind.{independent}
use Rattle.balise_rules.specs.Paths.{Entry}
use Rattle.balise_rules.specs.Session.{later}

-- the serials of the entries after e that aren't independent of it, in order
abbrev pub dependents : Entry → List Entry → List ℕ
dependents e fs = map (λ (f : Entry). f.0.0) (filter (λ (f : Entry). not (independent e f)) fs)

-- those of the entry of a serial, among entries by rising serial
abbrev pub dependents_of : ℕ → List Entry → Result (List ℕ) Refusal
dependents_of serial es = ok_or (option_map (λ (e : Entry). dependents e (later serial es)) (find (λ (e : Entry). eqb serial e.0.0) es)) NoSuchEdit
