-- A packet put in, taken out or moved can be taken back.
-- From what an edit makes of the one telegram that it names, and the laws of neighbours.
-- The telegram stands as before, and its version and padding too.
use Rattle.std.proofs.Common.{◌≡◌, ◌+◌, ◌≤◌, ℕ, true, ◌&&◌, cond, eqb, List, length, Option, Some, option_and_then, option_map, refl, sym, ap, subst, ◌∙◌, arith}
use Rattle.balise_rules.specs.declared.tag.Tag.{Tag}
use Rattle.balise_rules.specs.declared.tag.Tag.TheVariants.{Fresh}
use Rattle.balise_rules.specs.declared.identity.Id.{Id}
use Rattle.balise_rules.specs.declared.variable.Var.TheVariants.{MVersion}
use Rattle.balise_rules.specs.Tagged.{find, each, behind, same_spot, without, move, changed, Change, Each, Put, Take, Move}
use Rattle.balise_rules.specs.Tags.{same_tag}
use Rattle.balise_rules.specs.Packet.{Packet, width, IsSpelt}
use Rattle.balise_rules.specs.Telegram.{Telegram, used}
use Rattle.balise_rules.specs.Plan.{Group, Plan, telegram_at}
use Rattle.balise_rules.specs.Edits.{Item, in_order, telegram_after, group_after}
use Rattle.balise_rules.specs.declared.tagged_edit.TaggedEdit.TheVariants.{InsertPacket, DeletePacket, MovePacket}
use Rattle.balise_rules.specs.Notes.{Note, noted, note_at, note_in}
use Rattle.balise_rules.specs.Doing.{done}
use Rattle.balise_rules.specs.Accepting.{Accepted, Stands}
use Rattle.balise_edit_laws.specs.TakenBack.{IsReady}
use Rattle.balise_edit_laws.specs.GoesBack.{HasGap, IsAstray}
use Rattle.balise_rules.proofs.Tests.{tag_test, nat_test}
use Rattle.balise_rules.proofs.Lists.{find-each, find-without_same}
use Rattle.balise_rules.proofs.Anchors.{find-put_same, find-move_same}
use Rattle.balise_rules.proofs.Used.{used-without_there}
use Rattle.balise_rules.proofs.Found.{in_group, stood, packet_spelt}
use Rattle.balise_rules.proofs.Accepted.{accepted_here, accepted_at}
use Rattle.balise_edit_laws.proofs.HeadChanges.{fixed_kept, version_fixed}
use Rattle.balise_edit_laws.proofs.NextApart.{neighbour_apart, neighbour_without, neighbour_moved, moved_away}

-- a telegram of a group that isn't turned, after an edit within the groups
pub telegram_then : (e : Item) → (own : Id) → (plan : Plan) → (g : Tag) → (t : ℕ) → (y : Telegram) → ((zs : Group) → in_order e.1 g zs ≡ zs) → telegram_at g t plan ≡ Some y → telegram_at g t (each (group_after e own) plan) ≡ Some (telegram_after e own g t y)
telegram_then e own plan g t y same h =
    let st = in_group g t plan y h in
    let group : find same_tag g (each (group_after e own) plan) ≡ Some (group_after e own g st.group) = find-each tag_test (group_after e own) g plan ∙ ap (option_map (group_after e own g)) st.has_group in
    ap (option_and_then (find eqb t)) group
    ∙ ap (find eqb t) (same (each (telegram_after e own g) st.group))
    ∙ find-each nat_test (telegram_after e own g) t st.group
    ∙ ap (option_map (telegram_after e own g t)) st.has_telegram

-- the place that the edit names
here : (g : Tag) → (t : ℕ) → (same_tag g g && eqb t t) ≡ true
here g t = let a = tag_test.itself g in let b = nat_test.itself t in simp (a, b)

changed_here : (g : Tag) → (t : ℕ) → (x : Change Tag Packet) → (ps : List (Tag × Packet)) → changed same_tag (cond (same_tag g g && eqb t t) x (Each (λ q y. y))) ps ≡ changed same_tag x ps
changed_here g t x ps = ap (λ b. changed same_tag (cond b x (Each (λ q y. y))) ps) (here g t)

pub insert_ready : (s : ℕ) → (g : Tag) → (t : ℕ) → (a : Option Tag) → (x : Packet) → (plan : Plan) → IsReady (s, InsertPacket g t a x) plan → Accepted (DeletePacket g t (Fresh s)) (done (s, InsertPacket g t a x) plan)
insert_ready s g t a x plan r =
    let e : Item = (s, InsertPacket g t a x) in
    let own = (noted e.1 plan).own in
    let y = accepted_here (InsertPacket g t a x) (telegram_at g t plan) r.accepted.1 in
    let after = telegram_then e own plan g t y.0 (λ zs. refl) y.1 in
    let packets : find same_tag (Fresh s) (telegram_after e own g t y.0).packets ≡ Some x =
    ap (find same_tag (Fresh s)) (changed_here g t (Put a (Fresh s, x)) y.0.packets) ∙ find-put_same a (Fresh s, x) y.0.packets y.2.0 (r.unused.packets g t y.0 y.1) in
    (tt, accepted_at (DeletePacket g t (Fresh s)) (telegram_at g t (done e plan)) (telegram_after e own g t y.0) after (x, packets))

pub delete_ready : (s : ℕ) → (g : Tag) → (t : ℕ) → (p : Tag) → (plan : Plan) → IsReady (s, DeletePacket g t p) plan → (x : Packet) × ((noted (DeletePacket g t p) plan).packet ≡ Some x) × HasGap g t p x (noted (DeletePacket g t p) plan).before (done (s, DeletePacket g t p) plan)
delete_ready s g t p plan r =
    let e : Item = (s, DeletePacket g t p) in
    let own = (noted e.1 plan).own in
    let y = accepted_here (DeletePacket g t p) (telegram_at g t plan) r.accepted.1 in
    let w = (stood g t plan r.sound y.0 y.1).placed.sound in
    let x = y.2.0 in
    let z = telegram_after e own g t y.0 in
    let note : noted e.1 plan ≡ note_in e.1 y.0 = ap (note_at e.1) y.1 in
    let packets : z.packets ≡ without same_tag p y.0.packets = changed_here g t (Take p) y.0.packets in
    let before : (noted e.1 plan).before ≡ behind same_tag p y.0.packets = ap (λ (m : Note). m.before) note in
    let sum = used-without_there p x y.0.packets w.tags y.2.1 in
    let fits = w.fits in
    let total : used z.packets ≡ used (without same_tag p y.0.packets) = ap used packets in (
      x,
      ap (λ (m : Note). m.packet) note ∙ y.2.1,
      record {
        telegram = z;
        stands = telegram_then e own plan g t y.0 (λ zs. refl) y.1;
        gone = ap (find same_tag p) packets ∙ find-without_same same_tag p y.0.packets;
        neighbour = subst (λ b. Stands b z.packets) (sym before) (subst (Stands (behind same_tag p y.0.packets)) (sym packets) (neighbour_without p y.0.packets w.tags));
        room = subst (λ u. u + width x ≤ length y.0.padding) (sym total) (omega (arith, sum, fits));
        spelt = subst (λ v. IsSpelt v x) (sym (fixed_kept e.1 tt MVersion version_fixed g t y.0.head)) (packet_spelt y.0 w p x y.2.1);
      },
    )

pub move_ready : (s : ℕ) → (g : Tag) → (t : ℕ) → (p : Tag) → (a : Option Tag) → (plan : Plan) → IsReady (s, MovePacket g t p a) plan → IsAstray g t p (noted (MovePacket g t p a) plan).before (done (s, MovePacket g t p a) plan)
move_ready s g t p a plan r =
    let e : Item = (s, MovePacket g t p a) in
    let own = (noted e.1 plan).own in
    let y = accepted_here (MovePacket g t p a) (telegram_at g t plan) r.accepted.1 in
    let w = (stood g t plan r.sound y.0 y.1).placed.sound in
    let ps = y.0.packets in
    let z = telegram_after e own g t y.0 in
    let packets : z.packets ≡ move same_tag p a ps = changed_here g t (Move p a) ps in
    let before : (noted e.1 plan).before ≡ behind same_tag p ps = ap (λ (m : Note). m.before) (ap (note_at e.1) y.1) in
    subst (λ b. IsAstray g t p b (done e plan)) (sym before) (record {
      telegram = z;
      stands = telegram_then e own plan g t y.0 (λ zs. refl) y.1;
      packet = (y.2.0.0, ap (find same_tag p) packets ∙ find-move_same p a y.2.0.0 ps y.2.0.1 y.2.1 y.2.2);
      neighbour = subst (Stands (behind same_tag p ps)) (sym packets) (neighbour_moved a p ps w.tags);
      other = neighbour_apart p ps w.tags;
      apart = ap (λ l. same_spot same_tag (behind same_tag p l) (behind same_tag p ps)) packets ∙ moved_away a p ps w.tags y.2.1 y.2.0 y.2.2 y.2.3;
    })
