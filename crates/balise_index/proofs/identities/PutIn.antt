-- One slot more, where the slots are held as two lists.
use Rattle.std.proofs.Common.{◌≡◌, ◌∙◌, ℕ, ◌<◌, List, [], ◌∷◌, ◌++◌, Option, Some, None, length, length-append, sym, ap, arith, subst}
use Rattle.balise_rules.specs.declared.identity.Id.{Id}
use Rattle.balise_index.specs.declared.identity_map.narrow.Narrow.{Narrow}
use Rattle.balise_index.specs.Identities.{indexed, Updates}
use Rattle.balise_index.specs.Cells.{KeepsOthers}
use Rattle.balise_index.specs.IdentityMap.{IsPlaced}
use Rattle.balise_index.specs.Narrow.{wide, slots_of}
use Rattle.balise_index.proofs.identities.Added.{placed_push, updates_push}
use Rattle.balise_index.proofs.identities.TwoLists.{length_slots, slots_push}

module _ {V : Type 0} (ns ms : List Narrow) (vs us : List V) (cells noted : Id → Option ℕ) (same : length ns ≡ length vs) (at : IsPlaced (slots_of ns vs) cells)
    (id : Id) (n : Narrow) (v : V) (narrow : wide n ≡ id) (free : indexed (slots_of ns vs) id ≡ None) (k : ℕ) (count : k ≡ length ns) (few : k < 4294967295)
    (kept : KeepsOthers cells noted id) (set : noted id ≡ Some k) (ids : ms ≡ ns ++ n ∷ []) (values : us ≡ vs ++ v ∷ []) where
  abbrev old : List (Id × V)
  old = slots_of ns vs

  abbrev new : List (Id × V)
  new = slots_of ms us

  both : new ≡ old ++ (id, v) ∷ []
  both = ap (λ l. slots_of l us) ids ∙ ap (λ l. slots_of (ns ++ n ∷ []) l) values ∙ slots_push ns vs n v same ∙ ap (λ (j : Id). old ++ (j, v) ∷ []) narrow

  last : k ≡ length old
  last = count ∙ sym (length_slots ns vs same)

  room : length old < 4294967295
  room = omega (arith, few, last)

  set_last : noted id ≡ Some (length old)
  set_last = set ∙ ap (λ (j : ℕ). Some j) last

  pub placed_put : (length ms ≡ length us) × IsPlaced new noted
  placed_put = (
    omega (arith, ap length ids, length-append ns (n ∷ []), ap length values, length-append vs (v ∷ []), same),
    subst (λ l. IsPlaced l noted) (sym both) (placed_push old cells noted at id v free room kept set_last),
  )

  pub updates_put : Updates old new id (Some v)
  updates_put q = ap (λ l. indexed l q) both ∙ updates_push old cells noted at id v free room kept set_last q
