-- Every variable passes a test that all in the list of variables pass. A fact on each of them is then computed at once.
use Rattle.std.proofs.Common.{◌≡◌, ℕ, zero, suc, Bool, true, List, [], ◌∷◌, get_or, subst, arith}
use Rattle.std.specs.List.{list_all}
use Rattle.std.proofs.lemmas.Bool.{and_parts}
use denote.Enum.Declared.{tag_of}
use Rattle.balise_rules.specs.declared.variable.Var.{Var}
use Rattle.balise_rules.specs.declared.variable.Var.TheVariants.{NidPacket}
use Rattle.balise_rules.specs.contracts.variable.Var.{the_type}
use Rattle.balise_rules.specs.Variables.{all_variables}

pass_at : (p : Var → Bool) (xs : List Var) (k : ℕ) (d : Var) → list_all p xs ≡ true → p d ≡ true → p (get_or xs k d) ≡ true
pass_at p [] k d h e = e
pass_at p (x ∷ xs) zero d h e = (and_parts (p x) (list_all p xs) h).0
pass_at p (x ∷ xs) (suc k) d h e = pass_at p xs k d (and_parts (p x) (list_all p xs) h).1 e

-- a variable stands in the list at the place of its variant
listed : (v : Var) → get_or all_variables (tag_of the_type v) NidPacket ≡ v
listed v = grind arith

pub each_variable : (p : Var → Bool) → list_all p all_variables ≡ true → (v : Var) → p v ≡ true
each_variable p h v = subst (λ w. p w ≡ true) (listed v) (pass_at p all_variables (tag_of the_type v) NidPacket h (and_parts (p NidPacket) _ h).0)
