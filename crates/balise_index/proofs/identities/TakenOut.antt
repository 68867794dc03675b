-- One slot less, where the slots are held as two lists.
use Rattle.std.proofs.Common.{◌≡◌, ◌∙◌, ℕ, ◌-◌, ◌<◌, ◌≤◌, List, Option, Some, None, length, option_map, slice_get, slice_set, slice_index_or, refl, sym, ap, arith, subst}
use Rattle.std.specs.List.{swap_remove}
use Rattle.std.proofs.Math.ListN.{length-set}
use Rattle.std.proofs.lemmas.List.{length-take-le}
use Rattle.std.specs.Option.{is_some}
use Rattle.std.proofs.lemmas.Option.{slice_get_past, slice_get_read}
use Rattle.balise_rules.specs.declared.identity.Id.{Id}
use Rattle.balise_rules.proofs.Cases.{unsome}
use Rattle.balise_index.specs.declared.identity_map.narrow.Narrow.{Narrow}
use Rattle.balise_index.specs.Identities.{indexed, Updates}
use Rattle.balise_index.specs.Cells.{KeepsOthers}
use Rattle.balise_index.specs.IdentityMap.{IsPlaced}
use Rattle.balise_index.specs.Narrow.{wide, slots_of}
use Rattle.balise_index.proofs.identities.Slots.{at_place, no_place, updates_by}
use Rattle.balise_index.proofs.identities.Taken.{moved, moved_here, moved_cell, placed_last, placed_moved, updates_out}
use Rattle.balise_index.proofs.identities.TwoLists.{length_slots, get_slot, slot_value, slots_swap_remove}

length_swap_remove : {A : Type 0} (xs : List A) (i : ℕ) (x : A) → length (swap_remove xs i x) ≡ length xs - 1
length_swap_remove xs i x =
    let y = slice_index_or xs (length xs - 1) x in
    length-take-le (length xs - 1) (slice_set xs i y) (omega (arith, length-set xs i y))

-- what isn't there isn't taken out
pub not_there : {V : Type 0} (ns : List Narrow) (vs : List V) (i : ℕ) (q : Id) → length ns ≡ length vs → length ns ≤ i → slice_get (slots_of ns vs) i ≡ option_map (λ (v : V). (q, v)) (indexed (slots_of ns vs) q) →
    indexed (slots_of ns vs) q ≡ None
not_there ns vs i q same h p = no_place (slots_of ns vs) q (sym (ap is_some p) ∙ ap is_some (slice_get_past (slots_of ns vs) i (omega (arith, h, length_slots ns vs same))))

pub updates_none : {V : Type 0} (xs : List (Id × V)) (i : Id) → indexed xs i ≡ None → Updates xs xs i None
updates_none xs i n = updates_by xs xs i None n (λ q d. refl)

-- the slot at place i, which is that of q, is taken out of both lists
pub record Out {V : Type 0} (ns ms : List Narrow) (vs us : List V) (cells : Id → Option ℕ) (i : ℕ) (n : Narrow) (v : V) (q : Id) : Type 0 where
  pub same : length ns ≡ length vs
  pub at : IsPlaced (slots_of ns vs) cells
  pub inside : i < length ns
  pub n_is : n ≡ slice_index_or ns i n
  pub v_is : v ≡ slice_index_or vs i v
  pub ids : ms ≡ swap_remove ns i n
  pub values : us ≡ swap_remove vs i v
  pub place : slice_get (slots_of ns vs) i ≡ option_map (λ (w : V). (q, w)) (indexed (slots_of ns vs) q)

module _ {V : Type 0} {ns ms : List Narrow} {vs us : List V} {cells : Id → Option ℕ} {i : ℕ} {n : Narrow} {v : V} {q : Id} (o : Out ns ms vs us cells i n v q) where
  abbrev old : List (Id × V)
  old = slots_of ns vs

  abbrev new : List (Id × V)
  new = slots_of ms us

  abbrev taken : Id × V
  taken = (wide n, v)

  here : slice_get old i ≡ Some taken
  here = get_slot ns vs i n v (slice_get_read ns (length ns) i n refl o.inside o.n_is) (slice_get_read vs (length ns) i v o.same o.inside o.v_is)

  its : (wide n ≡ q) × (indexed old q ≡ Some v)
  its = at_place old q taken (sym here ∙ o.place)

  pub taken_value : indexed old q ≡ Some v
  taken_value = its.1

  count : length ms ≡ length ns - 1
  count = ap length o.ids ∙ length_swap_remove ns i n

  pub one_each : length ms ≡ length us
  one_each = omega (arith, count, ap length o.values, length_swap_remove vs i v, o.same)

  both : new ≡ swap_remove old i taken
  both = ap (λ l. slots_of l us) o.ids ∙ ap (λ l. slots_of (swap_remove ns i n) l) o.values ∙ slots_swap_remove ns vs i n v o.same

  less : length (swap_remove old i taken) ≤ length old
  less = omega (arith, count, ap length both, length_slots ms us one_each, length_slots ns vs o.same)

  out : (noted : Id → Option ℕ) → IsPlaced (swap_remove old i taken) noted → Updates old new q None
  out noted placed r = ap (λ l. indexed l r) both ∙ subst (λ (k : Id). Updates old (swap_remove old i taken) k None) its.0 (updates_out old cells o.at i taken here noted placed) r

  -- the cells that are left, once that of the identity is out
  module _ (left : Id → Option ℕ) (kept : KeepsOthers cells left q) where
    forgot : KeepsOthers cells left taken.0
    forgot = subst (KeepsOthers cells left) (sym its.0) kept

    -- where the last slot is taken out
    module _ (past : length ns - 1 ≤ i) where
      ends : IsPlaced (swap_remove old i taken) left
      ends = placed_last old cells o.at i taken here left forgot less (omega (arith, past, length_slots ns vs o.same))

      pub placed_end : (length ms ≡ length us) × IsPlaced new left
      placed_end = (one_each, subst (λ l. IsPlaced l left) (sym both) ends)

      pub updates_end : Updates old new q None
      updates_end = out left ends

    -- where the last slot takes its place
    module _ (d : Narrow) (within : i < length ns - 1) (d_is : d ≡ slice_index_or ms i d) where
      there : slice_get ms i ≡ Some d
      there = slice_get_read ms (length ms) i d refl (omega (arith, within, count)) d_is

      moved_id : wide d ≡ (moved old cells o.at i taken here).0
      moved_id =
          let u = slot_value ms us i d one_each there in
          let e = get_slot ms us i d u.0 there u.1 in
          ap (λ (z : Id × V). z.0) (unsome (sym e ∙ ap (λ l. slice_get l i) both ∙ moved_here old cells o.at i taken here (omega (arith, within, length_slots ns vs o.same))))

      pub end_cell : left (wide d) ≡ Some (length old - 1)
      end_cell = ap left moved_id ∙ moved_cell old cells o.at i taken here left forgot (omega (arith, within, length_slots ns vs o.same))

      module _ (noted : Id → Option ℕ) (others : KeepsOthers left noted (wide d)) (set : noted (wide d) ≡ Some i) where
        placed : IsPlaced (swap_remove old i taken) noted
        placed = placed_moved old cells o.at i taken here left noted forgot less (subst (KeepsOthers left noted) moved_id others) (ap noted (sym moved_id) ∙ set)

        pub placed_within : (length ms ≡ length us) × IsPlaced new noted
        placed_within = (one_each, subst (λ l. IsPlaced l noted) (sym both) placed)

        pub updates_within : Updates old new q None
        updates_within = out noted placed
