-- Taking back a turn of a group.
-- From the values of a sound plan: an orientation is 0 or 1, and a place at most the total.
-- A turn of what was turned turns each link, direction, double and place back, and the telegrams' order.
use Rattle.std.proofs.Common.{◌≡◌, ℕ, ◌-◌, ◌≤◌, Bool, true, false, cond, ◌&&◌, IsTrue, reverse, Some, refl, sym, ap, subst, ◌∙◌, arith}
use Rattle.std.proofs.lemmas.Bool.{ltb-true}
use Rattle.std.proofs.lemmas.Bool.Decides.{nat_tests}
use Rattle.std.proofs.lemmas.List.{reverse-reverse}
use Rattle.balise_rules.specs.declared.tag.Tag.{Tag}
use Rattle.balise_rules.specs.declared.identity.Id.{Id}
use Rattle.balise_rules.specs.declared.variable.Var.{Var}
use Rattle.balise_rules.specs.declared.variable.Var.TheVariants.{QLinkorientation, QDir, MDup, NPig, NTotal}
use Rattle.balise_rules.specs.Variables.{width_of}
use Rattle.balise_rules.specs.Bits.{fits}
use Rattle.balise_rules.specs.Tagged.{find, each}
use Rattle.balise_rules.specs.Tags.{Key, same_tag, same_key, is_of}
use Rattle.balise_rules.specs.Packets.{packet}
use Rattle.balise_rules.specs.Packet.{Packet, value}
use Rattle.balise_rules.specs.Telegram.{Telegram, version_of}
use Rattle.balise_rules.specs.Plan.{Plan, Group, country_of, telegram_at, IsSound}
use Rattle.balise_rules.specs.Names.{calls}
use Rattle.balise_rules.specs.Notes.{noted}
use Rattle.balise_rules.specs.Doing.{done}
use Rattle.balise_rules.specs.Edits.{exchanged, head_after, telegram_after, in_order, group_after}
use Rattle.balise_rules.specs.declared.tagged_edit.TaggedEdit.TheVariants.{TurnGroup}
use Rattle.balise_rules.specs.Back.{back}
use Rattle.balise_rules.proofs.Tests.{split_on, tag_test, nat_test, var_test}
use Rattle.balise_rules.proofs.Reversed.{each-reverse}
use Rattle.balise_rules.proofs.Each.{each-back}
use Rattle.balise_rules.proofs.Keys.{not_other}
use Rattle.balise_rules.proofs.Values.{value_found}
use Rattle.balise_rules.proofs.Found.{group_sound, stood, head_distinct, packet_spelt, fields_distinct, field_fits}
use Rattle.balise_edit_laws.proofs.Headers.{header_once}
use Rattle.balise_edit_laws.proofs.HeadChanges.{fixed_kept, total_fixed}
use Rattle.balise_edit_laws.proofs.Levels.{packets-back, head-back, telegram-back}
use Rattle.balise_edit_laws.proofs.FieldChanges.{calls_turned}

turned_field : (o q a b : Bool) → (n : ℕ) → (o ≡ true → n ≤ 1) →
    cond o (cond a (1 - cond o (cond a (1 - n) n) (cond (q && b) (exchanged 0 1 n) n)) (cond o (cond a (1 - n) n) (cond (q && b) (exchanged 0 1 n) n))) (cond (q && b) (exchanged 0 1 (cond o (cond a (1 - n) n) (cond (q && b) (exchanged 0 1 n) n))) (cond o (cond a (1 - n) n) (cond (q && b) (exchanged 0 1 n) n))) ≡ n
turned_field true q true b n h = let k = h refl in omega (arith, k)
turned_field false true a true n h = grind (arith, nat_tests)
turned_field o q a b n h = refl

turned_head : (d p b : Bool) → (total n : ℕ) → (d ≡ true → p ≡ false) → (p ≡ true → n ≤ total) →
    cond (d && b) (exchanged 1 2 (cond (d && b) (exchanged 1 2 n) (cond (p && b) (total - n) n))) (cond (p && b) (total - cond (d && b) (exchanged 1 2 n) (cond (p && b) (total - n) n)) (cond (d && b) (exchanged 1 2 n) (cond (p && b) (total - n) n))) ≡ n
turned_head true p true total n h k = grind (arith, nat_tests)
turned_head true p false total n h k = let e = h refl in simp e
turned_head false true true total n h k = let l = k refl in omega (arith, l)
turned_head d p b total n h k = refl

orientation_small : (v : Var) → (n : ℕ) → v ≡ QLinkorientation → IsTrue (fits (width_of v) n) → n ≤ 1
unfolding width_of
orientation_small v n e h = let k : IsTrue (fits 1 n) = subst (λ (w : Var). IsTrue (fits (width_of w) n)) e h in let l = ltb-true n 2 k in omega (arith, l)

-- a field of a packet after the turn
abbrev turned : Id → Tag → Tag → ℕ → Packet → Key → ℕ → ℕ
turned i g g1 c x key n = cond (is_of QLinkorientation key) (cond (calls c key.1 x.fields i) (1 - n) n) (cond (is_of QDir key && same_tag g g1) (exchanged 0 1 n) n)

turned_telegram : (s : ℕ) → (g : Tag) → (i : Id) → (plan : Plan) → IsSound plan → (g1 : Tag) → (t : ℕ) → (y : Telegram) → telegram_at g1 t plan ≡ Some y → telegram_after (s, TurnGroup g) i g1 t (telegram_after (s, TurnGroup g) i g1 t y) ≡ y
turned_telegram s g i plan sound g1 t y q =
    let w = (stood g1 t plan sound y q).placed in
    telegram-back (s, TurnGroup g) i (s, TurnGroup g) i tt g1 t y
    (head-back (TurnGroup g) (TurnGroup g) g1 t y.head (head_distinct y w.sound)
    (λ key n h. ap (λ total. cond (is_of MDup key && same_tag g g1) (exchanged 1 2 (head_after (TurnGroup g) g1 t y.head key n)) (cond (is_of NPig key && same_tag g g1) (total - head_after (TurnGroup g) g1 t y.head key n) (head_after (TurnGroup g) g1 t y.head key n)))
    (fixed_kept (TurnGroup g) tt NTotal total_fixed g1 t y.head)
    ∙ turned_head (is_of MDup key) (is_of NPig key) (same_tag g g1) (value NTotal 0 y.head) n (λ e. not_other MDup NPig key refl e) (λ e.
    let k = header_once NPig y.head w.sound.header w.sound.numbered refl key n h e in
    let v = value_found NPig 0 n y.head (ap (λ u. find same_key u y.head) (sym k) ∙ h) in
    let a = w.sound.place in let b = w.sound.total in let c = w.within in omega (arith, v, a, b, c))))
    (packets-back (TurnGroup g) i (TurnGroup g) i g1 t (country_of y) y.packets w.sound.tags
    (λ p x h. let spelt = packet_spelt y w.sound p x h in (
      fields_distinct (version_of y) x spelt,
      λ key n d. ap (λ b. cond (is_of QLinkorientation key) (cond b (1 - turned i g g1 (country_of y) x key n) (turned i g g1 (country_of y) x key n)) (cond (is_of QDir key && same_tag g g1) (exchanged 0 1 (turned i g g1 (country_of y) x key n)) (turned i g g1 (country_of y) x key n)))
          (calls_turned g i i g1 t (country_of y) p key.1 x.fields)
          ∙ turned_field (is_of QLinkorientation key) (is_of QDir key) (calls (country_of y) key.1 x.fields i) (same_tag g g1) n
          (λ e. orientation_small key.0 n (sym (var_test.one QLinkorientation key.0 e)) (field_fits (packet (version_of y)) x.fields x.rest spelt.form key n d)),
    )))

ordered : (g g1 : Tag) → (ys : Group) → (f : ℕ → Telegram → Telegram) → in_order (TurnGroup g) g1 (each f (in_order (TurnGroup g) g1 (each f ys))) ≡ each f (each f ys)
ordered g g1 ys f = split_on (same_tag g g1)
    (λ e. simp e (ap reverse (each-reverse f (each f ys)) ∙ reverse-reverse (each f (each f ys))))
    (λ e. simp e)

pub turn_back : (s : ℕ) → (g : Tag) → (plan : Plan) → IsSound plan → back (s, TurnGroup g) (noted (TurnGroup g) plan) (done (s, TurnGroup g) plan) ≡ plan
turn_back s g plan sound =
    let i = (noted (TurnGroup g) plan).own in
    each-back tag_test (group_after (s, TurnGroup g) i) (group_after (s, TurnGroup g) i) plan sound.tags
    (λ g1 ys q. ordered g g1 ys (telegram_after (s, TurnGroup g) i g1)
    ∙ each-back nat_test (telegram_after (s, TurnGroup g) i g1) (telegram_after (s, TurnGroup g) i g1) ys (group_sound plan sound g1 ys q).tags
    (λ t y d. turned_telegram s g i plan sound g1 t y (simp q d)))
