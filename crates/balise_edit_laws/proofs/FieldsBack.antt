-- Taking back what changed fields: a value set in a packet or a header, a new number, a turn.
-- From what was noted: the old value is the one that is found at the place that was set.
-- A renumbering is taken back by the identity of the new number, which nothing else named.
use Rattle.std.proofs.Common.{◌≡◌, ℕ, true, false, cond, ◌&&◌, eqb, Some, refl, sym, ap, ◌∙◌, arith}
use Rattle.std.proofs.lemmas.Bool.{and_parts, and_from}
use Rattle.std.proofs.lemmas.Bool.Decides.{nat_tests}
use Rattle.balise_rules.specs.declared.tag.Tag.{Tag}
use Rattle.balise_rules.specs.declared.identity.Id.{Id}
use Rattle.balise_rules.specs.declared.variable.Var.{Var}
use Rattle.balise_rules.specs.declared.variable.Var.TheVariants.{NidBg}
use Rattle.balise_rules.specs.Tagged.{find}
use Rattle.balise_rules.specs.Tags.{Key, same_tag, same_id, same_key, is_of}
use Rattle.balise_rules.specs.Packet.{Packet}
use Rattle.balise_rules.specs.Telegram.{Telegram, version_of}
use Rattle.balise_rules.specs.Plan.{Plan, country_of, identity_of, telegram_at, IsSound}
use Rattle.balise_rules.specs.Names.{country_at, is_it}
use Rattle.balise_rules.specs.Notes.{noted, note_at, note_group, set_note}
use Rattle.balise_rules.specs.Doing.{done}
use Rattle.balise_rules.specs.Accepting.{Accepted}
use Rattle.balise_rules.specs.Edits.{telegram_after}
use Rattle.balise_rules.specs.declared.tagged_edit.TaggedEdit.TheVariants.{SetVar, SetHead, Renumber}
use Rattle.balise_rules.specs.Back.{back}
use Rattle.balise_rules.proofs.Tests.{split_on, tag_test, key_test, var_test}
use Rattle.balise_rules.proofs.Cases.{parts4}
use Rattle.balise_rules.proofs.Names.{real_number, unnamed}
use Rattle.balise_rules.proofs.Values.{value_found}
use Rattle.balise_rules.proofs.Found.{stood, head_distinct, packet_spelt, fields_distinct, place_is}
use Rattle.balise_edit_laws.proofs.Headers.{header_once}
use Rattle.balise_edit_laws.proofs.Levels.{FieldsBack, packets-back, head-back, telegram-back, two-ids, undo_set, telegrams-back}
use Rattle.balise_edit_laws.proofs.FieldChanges.{country_stays}

pub set_back : (s : ℕ) → (g : Tag) → (t : ℕ) → (p : Tag) → (v : Var) → (k n : ℕ) → (plan : Plan) → IsSound plan → Accepted (SetVar g t p v k n) plan → back (s, SetVar g t p v k n) (noted (SetVar g t p v k n) plan) (done (s, SetVar g t p v k n) plan) ≡ plan
set_back s g t p v k n plan sound accepted =
    let note = noted (SetVar g t p v k n) plan in
    telegrams-back plan sound (telegram_after (s, SetVar g t p v k note.old) note.own) (telegram_after (s, SetVar g t p v k n) note.own)
    (λ g1 t1 y q. let w = (stood g1 t1 plan sound y q).placed.sound in
    telegram-back (s, SetVar g t p v k note.old) note.own (s, SetVar g t p v k n) note.own accepted.0 g1 t1 y (two-ids y.head)
    (packets-back (SetVar g t p v k note.old) note.own (SetVar g t p v k n) note.own g1 t1 (country_of y) y.packets w.tags
    (λ p1 x h. (
      fields_distinct (version_of y) x (packet_spelt y w p1 x h),
      λ key old d. undo_set (same_tag g g1 && (eqb t t1 && (same_tag p p1 && same_key (v, k) key))) n note.old old (λ e.
          let w = parts4 (same_tag g g1) (eqb t t1) (same_tag p p1) (same_key (v, k) key) e in
          let here : telegram_at g t plan ≡ Some y = place_is g g1 t t1 plan (and_from (same_tag g g1) (eqb t t1) w.0 w.1) ∙ q in
          let packet : find same_tag p y.packets ≡ Some x = ap (λ u. find same_tag u y.packets) (tag_test.one p p1 w.2) ∙ h in
          let field : find same_key (v, k) x.fields ≡ Some old = ap (λ u. find same_key u x.fields) (key_test.one (v, k) key w.3) ∙ d in
          ap (λ o. (note_at (SetVar g t p v k n) o).old) here ∙ ap (λ o. (set_note v k n (country_of y) o).old) packet ∙ value_found v k old x.fields field),
    ))))

pub set_head_back : (s : ℕ) → (g : Tag) → (t : ℕ) → (v : Var) → (n : ℕ) → (plan : Plan) → IsSound plan → Accepted (SetHead g t v n) plan → back (s, SetHead g t v n) (noted (SetHead g t v n) plan) (done (s, SetHead g t v n) plan) ≡ plan
set_head_back s g t v n plan sound accepted =
    let note = noted (SetHead g t v n) plan in
    telegrams-back plan sound (telegram_after (s, SetHead g t v note.old) note.own) (telegram_after (s, SetHead g t v n) note.own)
    (λ g1 t1 y q. let w = (stood g1 t1 plan sound y q).placed.sound in
    telegram-back (s, SetHead g t v note.old) note.own (s, SetHead g t v n) note.own accepted.0 g1 t1 y
    (head-back (SetHead g t v note.old) (SetHead g t v n) g1 t1 y.head (head_distinct y w)
    (λ key old h. undo_set (same_key (v, 0) key && (same_tag g g1 && eqb t t1)) n note.old old (λ e.
    let d = and_parts (same_key (v, 0) key) (same_tag g g1 && eqb t t1) e in
    let here : telegram_at g t plan ≡ Some y = place_is g g1 t t1 plan d.1 ∙ q in
    ap (λ o. (note_at (SetHead g t v n) o).old) here ∙ value_found v 0 old y.head (ap (λ u. find same_key u y.head) (key_test.one (v, 0) key d.0) ∙ h))))
    (packets-back (SetHead g t v note.old) note.own (SetHead g t v n) note.own g1 t1 (country_of y) y.packets w.tags
    (λ p1 x h. (fields_distinct (version_of y) x (packet_spelt y w p1 x h), λ key old d. refl))))

-- a number is replaced and then restored: nothing else had the new one
renamed_back : (c n a0 a1 new : ℕ) → (eqb c a0 && eqb n new) ≡ false → cond (eqb c a0 && eqb (cond (eqb c a0 && eqb n a1) new n) new) a1 (cond (eqb c a0 && eqb n a1) new n) ≡ n
renamed_back c n a0 a1 new h = grind (arith, nat_tests)

-- a field of a packet after the renumbering
abbrev renamed : Tag → ℕ → Plan → Telegram → Packet → Key → ℕ → ℕ
renamed g new plan y x key n = cond (is_of NidBg key && is_it (country_at (country_of y) key.1 x.fields) (noted (Renumber g new) plan).own (Some n)) new n

pub renumber_back : (s : ℕ) → (g : Tag) → (new : ℕ) → (plan : Plan) → IsSound plan → Accepted (Renumber g new) plan → back (s, Renumber g new) (noted (Renumber g new) plan) (done (s, Renumber g new) plan) ≡ plan
renumber_back s g new plan sound accepted =
    let note = noted (Renumber g new) plan in
    telegrams-back plan sound (telegram_after (s, Renumber g note.old) (record { country = note.own.country; number = new })) (telegram_after (s, Renumber g new) note.own)
    (λ g1 t1 y q. let w = (stood g1 t1 plan sound y q).placed.sound in
    telegram-back (s, Renumber g note.old) (record { country = note.own.country; number = new }) (s, Renumber g new) note.own accepted.0 g1 t1 y
    (head-back (Renumber g note.old) (Renumber g new) g1 t1 y.head (head_distinct y w)
    (λ key old h. undo_set (is_of NidBg key && same_tag g g1) new note.old old (λ e. number_is g1 t1 y q key old h e)))
    (packets-back (Renumber g note.old) (record { country = note.own.country; number = new }) (Renumber g new) note.own g1 t1 (country_of y) y.packets w.tags
    (λ p1 x h. (fields_distinct (version_of y) x (packet_spelt y w p1 x h), fields g1 t1 y q p1 x h))))
  where
    number_is : (g1 : Tag) → (t1 : ℕ) → (y : Telegram) → telegram_at g1 t1 plan ≡ Some y → (key : Key) → (old : ℕ) → find same_key key y.head ≡ Some old → (is_of NidBg key && same_tag g g1) ≡ true → (noted (Renumber g new) plan).old ≡ old
    number_is g1 t1 y q key old h e =
        let w = and_parts (is_of NidBg key) (same_tag g g1) e in
        let st = stood g1 t1 plan sound y q in
        let k = header_once NidBg y.head st.placed.sound.header st.placed.sound.numbered refl key old h w.0 in
        let v = value_found NidBg 0 old y.head (ap (λ u. find same_key u y.head) (sym k) ∙ h) in
        let there : find same_tag g plan ≡ Some st.group = ap (λ u. find same_tag u plan) (tag_test.one g g1 w.1) ∙ st.has_group in
        ap (λ o. (note_group o).old) there ∙ ap (λ (i : Id). i.number) (sym st.placed.sound.identity) ∙ v

    fields : (g1 : Tag) → (t1 : ℕ) → (y : Telegram) → telegram_at g1 t1 plan ≡ Some y → (p1 : Tag) → (x : Packet) → find same_tag p1 y.packets ≡ Some x →
        FieldsBack (Renumber g (noted (Renumber g new) plan).old) (record { country = (noted (Renumber g new) plan).own.country; number = new }) (Renumber g new) (noted (Renumber g new) plan).own g1 t1 (country_of y) p1 x.fields
    fields g1 t1 y q p1 x h key n d =
        let note = noted (Renumber g new) plan in
        let n_is = ap note_group accepted.1.1 in
        let old_is : note.old ≡ note.own.number = ap (λ o. o.old) n_is ∙ sym (ap (λ o. o.own.number) n_is) in
        let c_is = country_stays (Renumber g new) accepted.0 note.own g1 t1 (country_of y) p1 key.1 x.fields in
        ap (λ c. cond (is_of NidBg key && is_it c (record { country = note.own.country; number = new }) (Some (renamed g new plan y x key n))) note.old (renamed g new plan y x key n)) c_is
        ∙ split_on (is_of NidBg key)
        (λ e. let b : same_id (record { country = country_at (country_of y) key.1 x.fields; number = n }) (record { country = note.own.country; number = new }) ≡ false = other g1 t1 y q p1 x h key n d e in
        simp (e, old_is) (renamed_back (country_at (country_of y) key.1 x.fields) n note.own.country note.own.number new b))
        (λ e. simp e)
      where
        other : (g1 : Tag) → (t1 : ℕ) → (y : Telegram) → telegram_at g1 t1 plan ≡ Some y → (p1 : Tag) → (x : Packet) → find same_tag p1 y.packets ≡ Some x → (key : Key) → (n : ℕ) → find same_key key x.fields ≡ Some n → is_of NidBg key ≡ true →
            same_id (record { country = country_at (country_of y) key.1 x.fields; number = n }) (record { country = (noted (Renumber g new) plan).own.country; number = new }) ≡ false
        other g1 t1 y q p1 x h key n d e =
            let n_is = ap note_group accepted.1.1 in
            let i_is : (noted (Renumber g new) plan).own.country ≡ (identity_of accepted.1.0).country = ap (λ o. o.own.country) n_is in
            let k : find same_key (NidBg, key.1) x.fields ≡ Some n = ap (λ (v : Var). find same_key (v, key.1) x.fields) (var_test.one NidBg key.0 e) ∙ d in
            ap (λ c. same_id (record { country = country_at (country_of y) key.1 x.fields; number = n }) (record { country = c; number = new })) i_is
            ∙ unnamed (record { country = (identity_of accepted.1.0).country; number = new }) plan accepted.1.3 (real_number (record { country = (identity_of accepted.1.0).country; number = new }) accepted.0.1) g1 t1 y q p1 x h key.1 n k
