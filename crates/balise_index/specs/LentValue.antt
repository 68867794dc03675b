-- What a map from identities ends as, once a `&mut` to one of its values has ended.
use Rattle.std.specs.Prelude.{◌≡◌, Option, Some}
use Rattle.std.specs.Option.{IsSome}
use Rattle.std.specs.Borrow.{Fml, MutBor, LendsSo, RattleType}
use Rattle.balise_rules.specs.declared.identity.Id.{Id}
use Rattle.balise_index.specs.Identities.{indexed, Updates}
use Rattle.balise_index.specs.contracts.identity_map.IdentityMap.{the_row}

module _ (V : RattleType) where
  -- the value under the identity is what was last written to it, and where there is none all stays
  abbrev pub lends_value : MutBor (the_row V).Denot → Id → Option (MutBor V.Denot) → Fml
  lends_value m i r = LendsSo (the_row V) V m r (λ n w. IsSome (indexed m.now i) → Updates m.now n i (Some w)) (λ n. n ≡ m.now)
