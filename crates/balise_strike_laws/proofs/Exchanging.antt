-- An edit and a later one exchanged: the later one first, as it is where they are independent, or anchored as the first where it stands after it.
-- Proves that both are then accepted, note what they noted and make the same plan, and that packets to be put in are spelt there too.
-- From the commuting law and the law of later neighbours, and from what an accepted edit keeps.
use Rattle.std.proofs.Common.{◌≡◌, true, Option, Some, refl, subst}
use Rattle.balise_rules.specs.declared.tag.Tag.{Tag}
use Rattle.balise_rules.specs.Plan.{Plan}
use Rattle.balise_rules.specs.Edits.{Edit, Item}
use Rattle.balise_rules.specs.declared.tagged_edit.TaggedEdit.TheVariants.{InsertPacket}
use Rattle.balise_rules.specs.Notes.{noted}
use Rattle.balise_rules.specs.Doing.{done}
use Rattle.balise_rules.specs.Accepting.{Accepted, Spelt}
use Rattle.balise_rules.specs.Paths.{apart}
use Rattle.balise_rules.specs.Behind.{stands_behind, re_anchored, anchored, anchor_of, becomes}
use Rattle.balise_rules.proofs.Tests.{split_on}
use Rattle.balise_rules.proofs.Cases.{unsome}
use Rattle.balise_edit_laws.specs.TakenBack.{IsReady}
use Rattle.balise_edit_laws.proofs.SpeltKept.{spelt_after, spelt_before}
use Rattle.balise_strike_laws.specs.Laws.{InTurn}
use Rattle.balise_strike_laws.proofs.Commuting.{commuting}
use Rattle.balise_strike_laws.proofs.StandsBehind.{commuting_behind}

-- f becomes g, which goes before e
pub record Exchanged (e f g : Item) (plan : Plan) : Type 0 where
  pub serial : g.0 ≡ f.0
  pub first : IsReady g plan
  pub first_notes : noted g.1 plan ≡ noted f.1 (done e plan)
  pub second : Accepted e.1 (done g plan)
  pub second_spelt : Spelt e.1 (done g plan)
  pub second_notes : noted e.1 (done g plan) ≡ noted e.1 plan
  pub same_plan : done f (done e plan) ≡ done e (done g plan)

module _ (e f : Item) (plan : Plan) (h : InTurn e f plan) (se : Spelt e.1 plan) (sf : Spelt f.1 (done e plan)) where
  first_ready : IsReady e plan
  first_ready = record { sound = h.sound; unused = h.first_unused; spelt = se; accepted = h.first_accepted }

  spelt_first : Spelt f.1 plan
  spelt_first = spelt_before e f.1 plan first_ready h.second_accepted sf

  exchange_independent : apart (e, noted e.1 plan) (f, noted f.1 (done e plan)) ≡ true → Exchanged e f f plan
  exchange_independent far =
      let c = commuting e f plan h far in
      let r : IsReady f plan = record { sound = h.sound; unused = h.second_unused; spelt = spelt_first; accepted = c.second_first } in
      record {
        serial = refl;
        first = r;
        first_notes = c.second_notes;
        second = c.first_then;
        second_spelt = spelt_after f e.1 plan r h.first_accepted se;
        second_notes = c.first_notes;
        same_plan = c.same_plan;
      }

  -- a packet to be put in is spelt whatever its anchor
  spelt_anchored : (a : Option Tag) → (d : Edit) → Spelt d plan → Spelt (anchored a d) plan
  spelt_anchored a (InsertPacket g t b x) k = k
  spelt_anchored a e k = tt

  exchange_behind : stands_behind (e, noted e.1 plan) (f, noted f.1 (done e plan)) ≡ true → Exchanged e f (re_anchored e f) plan
  exchange_behind far =
      let c = commuting_behind e f plan h far in
      let r : IsReady (re_anchored e f) plan = record { sound = h.sound; unused = h.second_unused; spelt = spelt_anchored (anchor_of e.1) f.1 spelt_first; accepted = c.second_first } in
      record {
        serial = refl;
        first = r;
        first_notes = c.second_notes;
        second = c.first_then;
        second_spelt = spelt_after (re_anchored e f) e.1 plan r h.first_accepted se;
        second_notes = c.first_notes;
        same_plan = c.same_plan;
      }

  pub exchange : (g : Item) → becomes (e, noted e.1 plan) (f, noted f.1 (done e plan)) ≡ Some g → Exchanged e f g plan
  exchange g b = split_on (apart (e, noted e.1 plan) (f, noted f.1 (done e plan)))
      (λ i. let q : Some f ≡ Some g = simp i at b in subst (λ u. Exchanged e f u plan) (unsome q) (exchange_independent i))
      (λ i. split_on (stands_behind (e, noted e.1 plan) (f, noted f.1 (done e plan)))
      (λ j. let q : Some (re_anchored e f) ≡ Some g = simp (i, j) at b in subst (λ u. Exchanged e f u plan) (unsome q) (exchange_behind j))
      (λ j. absurd (let q = simp (i, j) at b in cc)))
