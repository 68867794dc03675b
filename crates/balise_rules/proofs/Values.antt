-- The value of a field: of one that is found, and after a change of each field.
-- From what is found after a change of each item.
use Rattle.std.proofs.Common.{◌≡◌, ℕ, Some, ap, ◌∙◌}
use Rattle.std.specs.Option.{option_map}
use Rattle.std.specs.Prelude.{unwrap_or}
use Rattle.balise_rules.specs.declared.variable.Var.{Var}
use Rattle.balise_rules.specs.Tagged.{find, each}
use Rattle.balise_rules.specs.Tags.{Key, same_key}
use Rattle.balise_rules.specs.Forms.{Fields}
use Rattle.balise_rules.specs.Packet.{value}
use Rattle.balise_rules.proofs.Cases.{found}
use Rattle.balise_rules.proofs.Tests.{key_test}
use Rattle.balise_rules.proofs.Lists.{find-each}

pub value_found : (v : Var) → (k n : ℕ) → (fs : Fields) → find same_key (v, k) fs ≡ Some n → value v k fs ≡ n
value_found v k n fs h = ap (λ o. unwrap_or o 0) h

-- the value of a field after a change of each
pub value-each : (h : Key → ℕ → ℕ) → (v : Var) → (k : ℕ) → (fs : Fields) → value v k (each h fs) ≡ unwrap_or (option_map (h (v, k)) (find same_key (v, k) fs)) 0
value-each h v k fs = ap (λ o. unwrap_or o 0) (find-each key_test h (v, k) fs)

-- a value whose field isn't changed
pub value_kept : (h : Key → ℕ → ℕ) → (v : Var) → (k : ℕ) → (fs : Fields) → ((n : ℕ) → h (v, k) n ≡ n) → value v k (each h fs) ≡ value v k fs
value_kept h v k fs p = value-each h v k fs ∙ found (find same_key (v, k) fs) (λ e. simp e) (λ n e. simp e (p n))
