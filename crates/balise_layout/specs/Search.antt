-- The search for an occurrence of a variable.
use Rattle.std.specs.Prelude.{ℕ, ◌-◌, ◌==◌, Option, Some, None, if◌then◌else◌}
use Rattle.balise_rules.specs.declared.variable.Var.{Var}
use Rattle.balise_rules.specs.Tags.{same_var}
use Rattle.balise_layout.specs.declared.search.Search.{Search}

abbrev pub look_from : Search → ℕ → Var → Option ℕ → Search
look_from s left v (Some at) = s
look_from s left v None =
    if same_var v s.var then
    if s.skip == 0 then record { var = s.var; skip = s.skip; found = Some left }
    else record { var = s.var; skip = s.skip - 1; found = None }
    else s

-- one field more looked at, with `left` bits from it on
abbrev pub look : Search → ℕ → Var → ℕ → Search
look s left v n = look_from s left v s.found

-- nothing found yet
abbrev pub searching : Var → ℕ → Search
searching v k = record { var = v; skip = k; found = None }
