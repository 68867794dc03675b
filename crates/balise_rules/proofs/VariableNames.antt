-- Variables by their names: each is read back from its own, and none is found by a name that no variable has.
use Rattle.std.proofs.Common.{◌≡◌, ◌∙◌, ℕ, ◌+◌, ◌-◌, ◌*◌, ◌%◌, ◌<◌, Bool, true, false, List, [], ◌∷◌, length, get_or, Option, Some, None, find, bytes_eq, refl, sym, ap, arith}
use Rattle.std.specs.Prelude.{nat_le}
use Rattle.std.proofs.lemmas.Bool.{false≢true}
use Rattle.std.proofs.lemmas.Bool.Decides.{nat_tests}
use Rattle.std.proofs.lemmas.Slice.Eq.{bytes_eq-Decides}
use Rattle.balise_rules.specs.declared.variable.Var.{Var}
use Rattle.balise_rules.specs.declared.variable.Var.TheVariants.{NidPacket}
use Rattle.balise_rules.specs.declared.variable.TheConstants.{BY_PLACE}
use Rattle.balise_rules.specs.Tags.{same_var}
use Rattle.balise_rules.specs.Variables.{all_variables, name_of, var_named}
use Rattle.balise_rules.proofs.EachVariable.{each_variable}
use Rattle.balise_rules.proofs.Tests.{split_on, var_test}

abbrev finds : Var → Option Var → Bool
finds v None = false
finds v (Some w) = same_var w v

found : (v : Var) (o : Option Var) → finds v o ≡ true → o ≡ Some v
found v None e = absurd (false≢true e)
found v (Some w) e = ap Some (var_test.one w v e)

pub name_read : (v : Var) → var_named (name_of v) ≡ Some v
unfolding name_of
name_read v = found v (var_named (name_of v)) (each_variable (λ w. finds w (var_named (name_of w))) refl v)

-- where a name has its place in the table
abbrev pub place_of : List ℕ → ℕ
place_of name = (length name % 32 * 2 + get_or name 0 0 * 63 + get_or name (length name - 1) 0 * 3) % 68

pub placed : (v : Var) → get_or BY_PLACE (place_of (name_of v)) NidPacket ≡ v
unfolding name_of
placed v = var_test.one (get_or BY_PLACE (place_of (name_of v)) NidPacket) v (each_variable (λ w. same_var (get_or BY_PLACE (place_of (name_of w)) NidPacket) w) refl v)

-- no name is short
pub long : (v : Var) → length (name_of v) < 2 → ⊥
unfolding name_of
long v h = let e : nat_le 2 (length (name_of v)) ≡ true = each_variable (λ w. nat_le 2 (length (name_of w))) refl v in absurd (grind (arith, nat_tests, e, h))

same_name : (v : Var) (name : List ℕ) → bytes_eq (name_of v) name ≡ true → name_of v ≡ name
same_name v name e = (bytes_eq-Decides (name_of v) name).0 e

none_found : {X : Type 0} (p : X → Bool) → ((x : X) → p x ≡ false) → (xs : List X) → find p xs ≡ None
none_found p h [] = refl
none_found p h (x ∷ xs) = simp (h x) (none_found p h xs)

pub named : (v : Var) (name : List ℕ) → bytes_eq (name_of v) name ≡ true → var_named name ≡ Some v
named v name e = ap var_named (sym (same_name v name e)) ∙ name_read v

pub unnamed : (name : List ℕ) → ((v : Var) → name_of v ≡ name → ⊥) → var_named name ≡ None
unnamed name h = none_found (λ v. bytes_eq (name_of v) name) (λ v. split_on (bytes_eq (name_of v) name) (λ e. absurd (h v (same_name v name e))) (λ e. e)) all_variables

pub itself : (v : Var) (name : List ℕ) → name_of v ≡ name → bytes_eq (name_of v) name ≡ true
itself v name e = (bytes_eq-Decides (name_of v) name).1 e
