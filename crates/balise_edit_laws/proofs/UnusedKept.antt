-- The law that a serial that tags nothing tags nothing after an accepted edit of another serial.
-- From what each change of a list puts in: an item of the edit's own serial, or one that was there; what is read has tags of its places.
-- A telegram that is found after an edit is one that was found before, changed.
use Rattle.std.proofs.Common.{◌≡◌, ◌≢◌, ℕ, false, cond, ◌&&◌, eqb, List, reverse, Some, None, option_and_then, sym, ap, ◌∙◌}
use Rattle.std.proofs.lemmas.Bool.{ne_eqb}
use Rattle.balise_rules.specs.declared.tag.Tag.{Tag}
use Rattle.balise_rules.specs.declared.tag.Tag.TheVariants.{Fresh}
use Rattle.balise_rules.specs.declared.identity.Id.{Id}
use Rattle.balise_rules.specs.Tagged.{find, each, Distinct, put, without, changed, Each, Put, Take, Move}
use Rattle.balise_rules.specs.Tags.{same_tag}
use Rattle.balise_rules.specs.Packet.{Packet}
use Rattle.balise_rules.specs.Telegram.{Telegram}
use Rattle.balise_rules.specs.Plan.{Plan, Group, country_of, telegram_at}
use Rattle.balise_rules.specs.Notes.{noted}
use Rattle.balise_rules.specs.Doing.{done}
use Rattle.balise_rules.specs.Accepting.{Unused}
use Rattle.balise_rules.specs.Edits.{Item, group_of, packet_after, packets_change, telegram_after, group_after}
use Rattle.balise_rules.specs.declared.tagged_edit.TaggedEdit.TheVariants.{InsertPacket, DeletePacket, MovePacket, AddGroup, DropGroup}
use Rattle.balise_edit_laws.specs.TakenBack.{IsReady}
use Rattle.balise_rules.proofs.Tests.{split_on, split_keys, tag_test, nat_test}
use Rattle.balise_rules.proofs.Lists.{find-put, find-without, find-without_same, find-each}
use Rattle.balise_rules.proofs.Distincts.{absent-without, distinct-each, absent-each}
use Rattle.balise_rules.proofs.Cases.{unsome, some_is}
use Rattle.balise_rules.proofs.Reversed.{find-reverse}
use Rattle.balise_rules.proofs.Moved.{absent-move}
use Rattle.balise_rules.proofs.Anchors.{find-put_same}
use Rattle.balise_rules.proofs.Found.{in_group, group_sound}
use Rattle.balise_edit_laws.proofs.GroupsKept.{turns, order_is}
use Rattle.balise_edit_laws.proofs.GroupsRead.{group_read}
use Rattle.balise_edit_laws.proofs.PacketsKept.{either}

fresh_other : (s z : ℕ) → s ≢ z → same_tag (Fresh s) (Fresh z) ≡ false
fresh_other s z n = ne_eqb s z n

packets_unused : (e : Item) → (s : ℕ) → s ≢ e.0 → (i : Id) → (g : Tag) → (t c : ℕ) → (ps : List (Tag × Packet)) → find same_tag (Fresh s) ps ≡ None → find same_tag (Fresh s) (changed same_tag (packets_change e i g t c) ps) ≡ None
packets_unused (z, InsertPacket g0 t0 a x) s n i g t c ps h =
    either (λ x. find same_tag (Fresh s) (changed same_tag x ps) ≡ None) (same_tag g0 g && eqb t0 t) (Put a (Fresh z, x)) (Each (λ q y. y))
    (λ e. find-put same_tag (Fresh s) a (Fresh z, x) (fresh_other s z n) ps ∙ h) (absent-each tag_test (λ q y. y) (Fresh s) ps h)
packets_unused (z, DeletePacket g0 t0 p) s n i g t c ps h =
    either (λ x. find same_tag (Fresh s) (changed same_tag x ps) ≡ None) (same_tag g0 g && eqb t0 t) (Take p) (Each (λ q y. y))
    (λ e. absent-without same_tag (Fresh s) p ps h) (absent-each tag_test (λ q y. y) (Fresh s) ps h)
packets_unused (z, MovePacket g0 t0 p a) s n i g t c ps h =
    either (λ x. find same_tag (Fresh s) (changed same_tag x ps) ≡ None) (same_tag g0 g && eqb t0 t) (Move p a) (Each (λ q y. y))
    (λ e. absent-move tag_test (Fresh s) p a ps h) (absent-each tag_test (λ q y. y) (Fresh s) ps h)
packets_unused e s n i g t c ps h = absent-each tag_test (packet_after e.1 i g t c) (Fresh s) ps h

-- a telegram that is found in a changed group
pub record WasIn (f : ℕ → Telegram → Telegram) (t : ℕ) (ys : Group) (z : Telegram) : Type 0 where
  pub telegram : Telegram
  pub was : find eqb t ys ≡ Some telegram
  pub is : z ≡ f t telegram

was_in_each : (f : ℕ → Telegram → Telegram) → (t : ℕ) → (ys : Group) → (z : Telegram) → find eqb t (each f ys) ≡ Some z → WasIn f t ys z
was_in_each f t ys z h = some_is (find eqb t ys) (f t) z (sym (find-each nat_test f t ys) ∙ h) (λ x e d. record { telegram = x; was = e; is = d })

pub was_in : (e : Item) → (own : Id) → (g : Tag) → (t : ℕ) → (ys : Group) → Distinct eqb ys → (z : Telegram) → find eqb t (group_after e own g ys) ≡ Some z → WasIn (telegram_after e own g) t ys z
was_in e own g t ys u z h =
    let zs = each (telegram_after e own g) ys in
    let k : find eqb t (cond (turns e.1 g) (reverse zs) zs) ≡ Some z = ap (find eqb t) (sym (order_is e.1 g zs)) ∙ h in
    was_in_each (telegram_after e own g) t ys z
    (split_on (turns e.1 g)
    (λ n. sym (find-reverse nat_test t zs (distinct-each nat_test (telegram_after e own g) ys u)) ∙ ap (λ b. find eqb t (cond b (reverse zs) zs)) (sym n) ∙ k)
    (λ n. ap (λ b. find eqb t (cond b (reverse zs) zs)) (sym n) ∙ k))

pub unused_kept : (e : Item) → (plan : Plan) → IsReady e plan → (s : ℕ) → s ≢ e.0 → Unused s plan → Unused s (done e plan)
unused_kept (z, AddGroup a bs) plan r s n w = record { groups = find-put same_tag (Fresh s) a (Fresh z, group_of bs) (fresh_other s z n) plan ∙ w.groups; packets = packets }
  where
    packets : (g : Tag) → (t : ℕ) → (y : Telegram) → telegram_at g t (put same_tag a (Fresh z, group_of bs) plan) ≡ Some y → find same_tag (Fresh s) y.packets ≡ None
    packets g t y h =
        let st = in_group g t (put same_tag a (Fresh z, group_of bs) plan) y h in
        split_keys tag_test g (Fresh z)
        (λ e q. let k : group_of bs ≡ st.group = unsome (sym (ap (λ u. find same_tag u (put same_tag a (Fresh z, group_of bs) plan)) q ∙ find-put_same a (Fresh z, group_of bs) plan r.accepted.1.0 r.unused.groups) ∙ st.has_group) in
        (group_read bs (group_of bs) r.accepted.0).fresh s t y (ap (find eqb t) k ∙ st.has_telegram))
        (λ e. let k : find same_tag g plan ≡ Some st.group = sym (find-put same_tag g a (Fresh z, group_of bs) e plan) ∙ st.has_group in
        w.packets g t y (ap (option_and_then (find eqb t)) k ∙ st.has_telegram))
unused_kept (z, DropGroup p) plan r s n w = record { groups = absent-without same_tag (Fresh s) p plan w.groups; packets = packets }
  where
    packets : (g : Tag) → (t : ℕ) → (y : Telegram) → telegram_at g t (without same_tag p plan) ≡ Some y → find same_tag (Fresh s) y.packets ≡ None
    packets g t y h =
        let st = in_group g t (without same_tag p plan) y h in
        split_keys tag_test g p
        (λ e q. absurd (let k = sym st.has_group ∙ ap (λ u. find same_tag u (without same_tag p plan)) q ∙ find-without_same same_tag p plan in cc))
        (λ e. let k : find same_tag g plan ≡ Some st.group = sym (find-without tag_test g p e plan) ∙ st.has_group in
        w.packets g t y (ap (option_and_then (find eqb t)) k ∙ st.has_telegram))
unused_kept e plan r s n w = record { groups = absent-each tag_test (group_after e (noted e.1 plan).own) (Fresh s) plan w.groups; packets = packets }
  where
    packets : (g : Tag) → (t : ℕ) → (y : Telegram) → telegram_at g t (each (group_after e (noted e.1 plan).own) plan) ≡ Some y → find same_tag (Fresh s) y.packets ≡ None
    packets g t y h =
        let st = in_group g t (each (group_after e (noted e.1 plan).own) plan) y h in
        some_is (find same_tag g plan) (group_after e (noted e.1 plan).own g) st.group (sym (find-each tag_test (group_after e (noted e.1 plan).own) g plan) ∙ st.has_group)
        (λ ys q k. let x = was_in e (noted e.1 plan).own g t ys (group_sound plan r.sound g ys q).tags y (ap (find eqb t) (sym k) ∙ st.has_telegram) in
        let before : telegram_at g t plan ≡ Some x.telegram = ap (option_and_then (find eqb t)) q ∙ x.was in
        ap (λ (z : Telegram). find same_tag (Fresh s) z.packets) x.is ∙ packets_unused e s n (noted e.1 plan).own g t (country_of x.telegram) x.telegram.packets (w.packets g t x.telegram before))
