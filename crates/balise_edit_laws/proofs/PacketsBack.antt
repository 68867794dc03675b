-- Taking back what put a packet in, took one out or moved one.
-- From the laws of tagged lists taken back, at the one telegram that the edit names.
-- Elsewhere nothing was changed.
use Rattle.std.proofs.Common.{◌≡◌, ℕ, cond, ◌&&◌, eqb, List, Option, ap, subst, ◌∙◌}
use Rattle.balise_rules.specs.declared.tag.Tag.{Tag}
use Rattle.balise_rules.specs.declared.tag.Tag.TheVariants.{Fresh}
use Rattle.balise_rules.specs.Tagged.{find, behind, each, without, move}
use Rattle.balise_rules.specs.Tags.{same_tag}
use Rattle.balise_rules.specs.Forms.{Fields}
use Rattle.balise_rules.specs.Packet.{Packet}
use Rattle.balise_rules.specs.Telegram.{Telegram}
use Rattle.balise_rules.specs.Plan.{Plan, IsSound}
use Rattle.balise_rules.specs.Notes.{noted, note_at}
use Rattle.balise_rules.specs.Doing.{done}
use Rattle.balise_rules.specs.Accepting.{Accepted, AcceptedAt, AcceptedIn, Unused}
use Rattle.balise_rules.specs.Edits.{telegram_after}
use Rattle.balise_rules.specs.declared.tagged_edit.TaggedEdit.TheVariants.{InsertPacket, DeletePacket, MovePacket}
use Rattle.balise_rules.specs.Back.{back, with_packets, put_back}
use Rattle.balise_rules.proofs.Tests.{split_on, tag_test}
use Rattle.balise_rules.proofs.ListsBack.{without-put_same, put_before-without}
use Rattle.balise_rules.proofs.Each.{each-id}
use Rattle.balise_rules.proofs.Anchors.{find-move_same}
use Rattle.balise_rules.proofs.Moved.{move_back}
use Rattle.balise_rules.proofs.Found.{stood, place_is}
use Rattle.balise_edit_laws.proofs.Levels.{telegram-back, two-ids, telegrams-back}

pub insert_back : (s : ℕ) → (g : Tag) → (t : ℕ) → (a : Option Tag) → (x : Packet) → (plan : Plan) → IsSound plan → Unused s plan → back (s, InsertPacket g t a x) (noted (InsertPacket g t a x) plan) (done (s, InsertPacket g t a x) plan) ≡ plan
insert_back s g t a x plan sound unused =
    let i = (noted (InsertPacket g t a x) plan).own in
    telegrams-back plan sound (telegram_after (s, DeletePacket g t (Fresh s)) i) (telegram_after (s, InsertPacket g t a x) i)
    (λ g1 t1 y q. telegram-back (s, DeletePacket g t (Fresh s)) i (s, InsertPacket g t a x) i tt g1 t1 y (two-ids y.head)
    (split_on (same_tag g g1 && eqb t t1)
    (λ e. simp e (without-put_same tag_test a (Fresh s, x) y.packets (unused.packets g1 t1 y q)))
    (λ e. simp e (each-id (each (λ p z. z) y.packets) ∙ each-id y.packets))))

-- a telegram built again of what it was
rebuilt : (y : Telegram) → (hs : Fields) → (ps : List (Tag × Packet)) → hs ≡ y.head → ps ≡ y.packets → ◌≡◌ {A = Telegram} (record { head = hs; packets = ps; padding = y.padding }) y
rebuilt y hs ps e d = ap (λ u. record { head = u; packets = ps; padding = y.padding }) e ∙ ap (with_packets y) d

pub delete_back : (s : ℕ) → (g : Tag) → (t : ℕ) → (p : Tag) → (plan : Plan) → IsSound plan → Accepted (DeletePacket g t p) plan → back (s, DeletePacket g t p) (noted (DeletePacket g t p) plan) (done (s, DeletePacket g t p) plan) ≡ plan
delete_back s g t p plan sound accepted =
    let n = noted (DeletePacket g t p) plan in
    telegrams-back plan sound (λ g1 t1 y. cond (same_tag g g1 && eqb t t1) (with_packets y (put_back p n.before n.packet y.packets)) y) (telegram_after (s, DeletePacket g t p) n.own)
    (λ g1 t1 y q. split_on (same_tag g g1 && eqb t t1)
    (λ e. let here = place_is g g1 t t1 plan e ∙ q in
    let w : AcceptedIn (DeletePacket g t p) y = subst (AcceptedAt (DeletePacket g t p)) here accepted.1 in
    let n_is = ap (note_at (DeletePacket g t p)) here in
    simp e (rebuilt y (each (λ key v. v) y.head) (put_back p (noted (DeletePacket g t p) plan).before (noted (DeletePacket g t p) plan).packet (without same_tag p y.packets)) (each-id y.head)
    (ap (λ u. put_back p u.before u.packet (without same_tag p y.packets)) n_is
    ∙ ap (λ u. put_back p (behind same_tag p y.packets) u (without same_tag p y.packets)) w.1
    ∙ put_before-without tag_test p w.0 y.packets (stood g1 t1 plan sound y q).placed.sound.tags w.1)))
    (λ e. simp e (rebuilt y (each (λ key v. v) y.head) (each (λ q z. z) y.packets) (each-id y.head) (each-id y.packets))))

pub move_packet_back : (s : ℕ) → (g : Tag) → (t : ℕ) → (p : Tag) → (a : Option Tag) → (plan : Plan) → IsSound plan → Accepted (MovePacket g t p a) plan → back (s, MovePacket g t p a) (noted (MovePacket g t p a) plan) (done (s, MovePacket g t p a) plan) ≡ plan
move_packet_back s g t p a plan sound accepted =
    let n = noted (MovePacket g t p a) plan in
    telegrams-back plan sound (λ g1 t1 y. cond (same_tag g g1 && eqb t t1) (with_packets y (put_back p n.before (find same_tag p y.packets) (without same_tag p y.packets))) y) (telegram_after (s, MovePacket g t p a) n.own)
    (λ g1 t1 y q. split_on (same_tag g g1 && eqb t t1)
    (λ e. let here = place_is g g1 t t1 plan e ∙ q in
    let w : AcceptedIn (MovePacket g t p a) y = subst (AcceptedAt (MovePacket g t p a)) here accepted.1 in
    let n_is = ap (note_at (MovePacket g t p a)) here in
    let x_is = find-move_same p a w.0.0 y.packets w.0.1 w.1 w.2 in
    simp e (rebuilt y (each (λ key v. v) y.head) (put_back p (noted (MovePacket g t p a) plan).before (find same_tag p (move same_tag p a y.packets)) (without same_tag p (move same_tag p a y.packets))) (each-id y.head)
    (ap (λ u. put_back p u.before (find same_tag p (move same_tag p a y.packets)) (without same_tag p (move same_tag p a y.packets))) n_is
    ∙ ap (λ u. put_back p (behind same_tag p y.packets) u (without same_tag p (move same_tag p a y.packets))) x_is
    ∙ move_back tag_test p a w.0.0 y.packets (stood g1 t1 plan sound y q).placed.sound.tags w.0.1)))
    (λ e. simp e (rebuilt y (each (λ key v. v) y.head) (each (λ q z. z) y.packets) (each-id y.head) (each-id y.packets))))
