-- Values under identities: slots one after another, and cells that say where they are.
use Rattle.std.specs.Prelude.{◌≡◌, ◌≤◌, ℕ, List, Option, length, Some, slice_get}
use Rattle.balise_rules.specs.declared.identity.Id.{Id}

-- there are few enough to count, and the cell of each identity that is held says where its slot is
pub record IsPlaced {V : Type 0} (slots : List (Id × V)) (cells : Id → Option ℕ) : Type 0 where
  pub few : length slots ≤ 4294967295
  pub placed : (i : ℕ) (s : Id × V) → slice_get slots i ≡ Some s → cells s.0 ≡ Some i
