-- What stands under identities.
use Rattle.std.specs.Prelude.{◌≡◌, Bool, cond, List, Option}
use Rattle.std.specs.Map.{lookup}
use Rattle.balise_rules.specs.declared.identity.Id.{Id}
use Rattle.balise_rules.specs.Tags.{same_id}

-- whether two identities are one
abbrev pub is_id : Id → Id → Bool
is_id = same_id

-- what stands under identities, each once
abbrev pub IndexOf : Type 0 → Type 0
IndexOf V = List (Id × V)

-- what an index has under an identity
abbrev pub indexed : {V : Type 0} → List (Id × V) → Id → Option V
indexed m i = lookup (same_id i) m

-- n has o under the identity, and under each other what m has
abbrev pub Updates : {V : Type 0} → List (Id × V) → List (Id × V) → Id → Option V → Type 0
Updates m n i o = (q : Id) → indexed n q ≡ cond (is_id i q) o (indexed m q)
