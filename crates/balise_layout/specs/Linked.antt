-- The identities of a packet's elements, found along the way.
use Rattle.std.specs.Prelude.{ℕ, List, [], ◌∷◌, ◌++◌, length, take, Bool, not, ◌||◌, nat_lt, if◌then◌else◌}
use Rattle.balise_rules.specs.declared.variable.Var.{Var}
use Rattle.balise_rules.specs.declared.variable.Var.TheVariants.{NidC, NidBg}
use Rattle.balise_rules.specs.declared.identity.Id.{Id}
use Rattle.balise_rules.specs.Tags.{same_var}

-- how many elements a packet has at most (SUBSET-026, chapter 7: one, and those that N_ITER counts in 5 bits)
abbrev pub most_elements : ℕ
most_elements = 32

-- the country in force and the identities so far, after one field more
abbrev pub link : ℕ × List Id → ℕ → Var → ℕ → ℕ × List Id
link s left v n =
    if same_var v NidC then (n, s.1)
    else if same_var v NidBg then (s.0, take most_elements (s.1 ++ record { country = s.0; number = n } ∷ []))
    else s

-- the most elements that count as few
abbrev pub few : ℕ
few = 4

-- the same of the first few identities, and whether there were more
abbrev pub link_few : ℕ × List Id × Bool → ℕ → Var → ℕ → ℕ × List Id × Bool
link_few s left v n =
    if same_var v NidC then (n, s.1, s.2)
    else if same_var v NidBg then (s.0, (if nat_lt (length s.1) few then s.1 ++ record { country = s.0; number = n } ∷ [] else s.1), s.2 || not (nat_lt (length s.1) few))
    else s
