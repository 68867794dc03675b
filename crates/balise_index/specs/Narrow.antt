-- Identities in three bytes, each beside its value.
use Rattle.std.specs.Prelude.{ℕ, ◌+◌, ◌*◌, ◌/◌, ◌%◌, Bool, false, cond, List, [], ◌∷◌, Option, None, Some, slice_get}
use Rattle.balise_rules.specs.declared.identity.Id.{Id}
use Rattle.balise_rules.specs.Tags.{same_id}
use Rattle.balise_index.specs.declared.identity_map.narrow.Narrow.{Narrow}

-- the identity that a narrow one stands for
abbrev pub wide : Narrow → Id
wide n = record { country = n.high * 4 + n.middle / 64; number = n.middle % 64 * 256 + n.low }

-- values in their slots: the identities and the values are two lists of one length
abbrev pub slots_of : {V : Type 0} → List Narrow → List V → List (Id × V)
slots_of [] vs = []
slots_of (n ∷ ns) [] = []
slots_of (n ∷ ns) (v ∷ vs) = (wide n, v) ∷ slots_of ns vs

-- whether this is an identity
abbrev pub is_wide : Option Narrow → Id → Bool
is_wide None q = false
is_wide (Some n) q = same_id (wide n) q

-- the slot that a cell names, if that slot has the identity
abbrev pub right_cell : List Narrow → Option ℕ → Id → Option ℕ
right_cell ns None q = None
right_cell ns (Some i) q = cond (is_wide (slice_get ns i) q) (Some i) None
