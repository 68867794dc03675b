-- A group put in, taken out, renumbered or turned can be taken back.
-- From identities, which differ from group to group before and after.
-- Nothing names the old number of a renumbered group: what named it names the new one.
use Rattle.std.proofs.Common.{◌≡◌, ℕ, Bool, true, false, cond, eqb, List, [], ◌∷◌, Option, Some, IsTrue, option_map, refl, sym, ap, subst, ◌∙◌, arith}
use Rattle.balise_rules.specs.declared.tag.Tag.{Tag}
use Rattle.balise_rules.specs.declared.tag.Tag.TheVariants.{Fresh}
use Rattle.balise_rules.specs.declared.identity.Id.{Id}
use Rattle.balise_rules.specs.declared.variable.Var.TheVariants.{NidBg, NidC}
use Rattle.balise_rules.specs.Variables.{width_of}
use Rattle.balise_rules.specs.Bits.{fits}
use Rattle.balise_rules.specs.Tagged.{find, behind, without}
use Rattle.balise_rules.specs.Tags.{same_tag, same_id, same_key}
use Rattle.balise_rules.specs.Packet.{Packet}
use Rattle.balise_rules.specs.Telegram.{Telegram, header}
use Rattle.balise_rules.specs.Plan.{Group, Plan, country_of, identity_of, IsSoundGroup}
use Rattle.balise_rules.specs.Names.{country_at}
use Rattle.balise_rules.specs.Edits.{group_of, field_after, packet_after, group_after}
use Rattle.balise_rules.specs.declared.tagged_edit.TaggedEdit.TheVariants.{AddGroup, DropGroup, Renumber, TurnGroup}
use Rattle.balise_rules.specs.Notes.{Note, noted, note_drop, note_group}
use Rattle.balise_rules.specs.Doing.{done, renumbered}
use Rattle.balise_rules.specs.Accepting.{Accepted, NoGroup, NoName, Stands}
use Rattle.balise_edit_laws.specs.TakenBack.{IsReady}
use Rattle.balise_edit_laws.specs.GoesBack.{LacksGroup}
use Rattle.balise_rules.proofs.Tests.{split_on, split_keys, flip_no, equal_yes, tag_test, key_test, id_test}
use Rattle.balise_rules.proofs.Cases.{unsome, some_is}
use Rattle.balise_rules.proofs.Lists.{find-each, find-without, find-without_same}
use Rattle.balise_rules.proofs.Anchors.{find-put_same}
use Rattle.balise_rules.proofs.Values.{value_found}
use Rattle.balise_rules.proofs.Found.{group_sound, in_group, field_fits}
use Rattle.balise_edit_laws.proofs.Headers.{header_has}
use Rattle.balise_edit_laws.proofs.HeadChanges.{fixed_kept, country_fixed}
use Rattle.balise_edit_laws.proofs.FieldChanges.{country_stays}
use Rattle.balise_edit_laws.proofs.Identities.{differ_apart}
use Rattle.balise_edit_laws.proofs.SoundKept.{groups_kept}
use Rattle.balise_edit_laws.proofs.UnusedKept.{was_in}
use Rattle.balise_edit_laws.proofs.NextApart.{neighbour_without}

pub add_ready : (s : ℕ) → (a : Option Tag) → (bs : List (List Bool)) → (plan : Plan) → IsReady (s, AddGroup a bs) plan → Accepted (DropGroup (Fresh s)) (done (s, AddGroup a bs) plan)
add_ready s a bs plan r = (tt, (group_of bs, find-put_same a (Fresh s, group_of bs) plan r.accepted.1.0 r.unused.groups))

pub drop_ready : (s : ℕ) → (g : Tag) → (plan : Plan) → IsReady (s, DropGroup g) plan → (ys : Group) × ((noted (DropGroup g) plan).group ≡ Some ys) × LacksGroup g ys (noted (DropGroup g) plan).before (done (s, DropGroup g) plan)
drop_ready s g plan r =
    let ys = r.accepted.1.0 in
    let note = ap (note_drop (behind same_tag g plan)) r.accepted.1.1 in (
      ys,
      ap (λ (m : Note). m.group) note,
      record {
        gone = find-without_same same_tag g plan;
        neighbour = subst (λ b. Stands b (without same_tag g plan)) (sym (ap (λ (m : Note). m.before) note)) (neighbour_without g plan r.sound.tags);
        free = λ h zs q.
            split_keys tag_test h g
            (λ e k. absurd (let w = sym q ∙ ap (λ u. find same_tag u (without same_tag g plan)) k ∙ find-without_same same_tag g plan in cc))
            (λ e. differ_apart plan r.sound.identities h g zs ys (sym (find-without tag_test h g e plan) ∙ q) r.accepted.1.1 e);
        sound = group_sound plan r.sound g ys r.accepted.1.1;
      },
    )

pub turn_ready : (s : ℕ) → (g : Tag) → (plan : Plan) → IsReady (s, TurnGroup g) plan → Accepted (TurnGroup g) (done (s, TurnGroup g) plan)
turn_ready s g plan r =
    let f = group_after (s, TurnGroup g) (noted (TurnGroup g) plan).own in
    (tt, (f g r.accepted.1.0, find-each tag_test f g plan ∙ ap (option_map (f g)) r.accepted.1.1))

-- the number of a group fits its width
number_fits : (ys : Group) → IsSoundGroup ys → IsTrue (fits (width_of NidBg) (identity_of ys).number)
number_fits [] s = let some = s.some in absurd (omega (arith, some))
number_fits (y ∷ rest) s =
    let w = s.telegrams.0 in
    let n = header_has NidBg y.1.head w.header w.numbered refl in
    subst (λ m. IsTrue (fits (width_of NidBg) m)) (sym (value_found NidBg 0 n.0 y.1.head n.1)) (field_fits header y.1.head [] w.header (NidBg, 0) n.0 n.1)

abbrev named : Id → ℕ → Id
named i n = record { country = i.country; number = n }

-- an identity of this number is an identity
same_number : (i : Id) → (n : ℕ) → i.number ≡ n → same_id i (named i n) ≡ false → ⊥
same_number i n e d = let w : same_id i (named i n) ≡ true = equal_yes id_test i (named i n) (ap (named i) e) in let k = sym w ∙ d in cc

-- a field that names the old identity after the renumbering named the new one before, or it named the old one and was renumbered
old_named : (i : Id) → (n c m : ℕ) → c ≡ i.country → cond (same_id (named (record { country = c; number = m }) m) i) n m ≡ i.number → same_id i (named i n) ≡ false → ⊥
old_named i n c m c_is e d =
    split_on (same_id (record { country = c; number = m }) i)
    (λ t. let w : n ≡ i.number = simp t at e in same_number i n (sym w) d)
    (λ t. let w : m ≡ i.number = simp t at e in
    let k : same_id (record { country = c; number = m }) i ≡ true = equal_yes id_test (record { country = c; number = m }) i (ap (λ a. record { country = a; number = m }) c_is ∙ ap (named i) w) in
    let u = sym k ∙ t in cc)

pub renumber_ready : (s : ℕ) → (g : Tag) → (n : ℕ) → (plan : Plan) → IsReady (s, Renumber g n) plan → Accepted (Renumber g (noted (Renumber g n) plan).old) (done (s, Renumber g n) plan)
renumber_ready s g n plan r =
    let ys = r.accepted.1.0 in
    let own = (noted (Renumber g n) plan).own in
    let f = group_after (s, Renumber g n) own in
    let old_is : (noted (Renumber g n) plan).old ≡ (identity_of ys).number = ap (λ o. (note_group o).old) r.accepted.1.1 in
    let sound = group_sound plan r.sound g ys r.accepted.1.1 in
    let now : identity_of (f g ys) ≡ named (identity_of ys) n = identity_then g ys r.accepted.1.1 ∙ ap (λ b. cond b (named (identity_of ys) n) (identity_of ys)) (tag_test.itself g) in
    let target : renumbered (Some (f g ys)) (identity_of ys).number ≡ identity_of ys = ap (λ i. named i (identity_of ys).number) now in
    let stands = find-each tag_test f g plan ∙ ap (option_map (f g)) r.accepted.1.1 in
    let group = subst (λ i. NoGroup i (done (s, Renumber g n) plan)) (sym target) no_group in
    let name = subst (λ i. NoName i (done (s, Renumber g n) plan)) (sym target) no_name in
    subst (λ m. Accepted (Renumber g m) (done (s, Renumber g n) plan)) (sym old_is) ((number_fits ys sound, sound.number), (f g ys, stands, group, name))
  where
    identity_then : (h : Tag) → (zs : Group) → find same_tag h plan ≡ Some zs → identity_of (group_after (s, Renumber g n) (noted (Renumber g n) plan).own h zs) ≡ cond (same_tag g h) (named (identity_of zs) n) (identity_of zs)
    identity_then h zs q = (groups_kept (s, Renumber g n) (noted (Renumber g n) plan).own plan r.sound r.accepted (λ g1 t1 y k. tt) h zs q).identity

    -- the new identity isn't the old one
    other : same_id (identity_of r.accepted.1.0) (named (identity_of r.accepted.1.0) n) ≡ false
    other = r.accepted.1.2 g r.accepted.1.0 r.accepted.1.1

    no_group : NoGroup (identity_of r.accepted.1.0) (done (s, Renumber g n) plan)
    no_group h zs q =
        let own = (noted (Renumber g n) plan).own in
        some_is (find same_tag h plan) (group_after (s, Renumber g n) own h) zs (sym (find-each tag_test (group_after (s, Renumber g n) own) h plan) ∙ q)
        (λ xs k is. ap (λ u. same_id (identity_of u) (identity_of r.accepted.1.0)) is ∙ ap (λ i. same_id i (identity_of r.accepted.1.0)) (identity_then h xs k)
        ∙ split_keys tag_test g h
        (λ e d. let same : xs ≡ r.accepted.1.0 = unsome (sym k ∙ ap (λ u. find same_tag u plan) (sym d) ∙ r.accepted.1.1) in
        simp e (ap (λ u. same_id (named (identity_of u) n) (identity_of r.accepted.1.0)) same ∙ flip_no id_test (identity_of r.accepted.1.0) (named (identity_of r.accepted.1.0) n) other))
        (λ e. simp e (differ_apart plan r.sound.identities h g xs r.accepted.1.0 k r.accepted.1.1 (flip_no tag_test g h e))))

    no_name : NoName (identity_of r.accepted.1.0) (done (s, Renumber g n) plan)
    no_name h t p k w =
        let i = identity_of r.accepted.1.0 in
        let own = (noted (Renumber g n) plan).own in
        let own_is : own ≡ i = ap (λ o. (note_group o).own) r.accepted.1.1 in
        let st = in_group h t (done (s, Renumber g n) plan) w.telegram w.stands in
        some_is (find same_tag h plan) (group_after (s, Renumber g n) own h) st.group (sym (find-each tag_test (group_after (s, Renumber g n) own) h plan) ∙ st.has_group)
        (λ xs q is. let y = was_in (s, Renumber g n) own h t xs (group_sound plan r.sound h xs q).tags w.telegram (ap (find eqb t) (sym is) ∙ st.has_telegram) in
        let c_is : country_of w.telegram ≡ country_of y.telegram = ap country_of y.is ∙ fixed_kept (Renumber g n) r.accepted.0 NidC country_fixed h t y.telegram.head in
        let e = packet_after (Renumber g n) own h t (country_of y.telegram) in
        some_is (find same_tag p y.telegram.packets) (e p) w.packet (sym (find-each tag_test e p y.telegram.packets) ∙ ap (λ (u : Telegram). find same_tag p u.packets) (sym y.is) ∙ w.has_packet)
        (λ x a b. let c = country_of y.telegram in
        let h1 = field_after (Renumber g n) own h t c p x.fields in
        let country : country_at c k x.fields ≡ i.country =
        sym (country_stays (Renumber g n) r.accepted.0 own h t c p k x.fields)
        ∙ ap (λ (u : Packet). country_at c k u.fields) (sym b)
        ∙ ap (λ u. country_at u k w.packet.fields) (sym c_is)
        ∙ w.country in
        some_is (find same_key (NidBg, k) x.fields) (h1 (NidBg, k)) i.number (sym (find-each key_test h1 (NidBg, k) x.fields) ∙ ap (λ (u : Packet). find same_key (NidBg, k) u.fields) (sym b) ∙ w.number)
        (λ m d number. old_named i n (country_at c k x.fields) m country (ap (λ j. cond (same_id (record { country = country_at c k x.fields; number = m }) j) n m) (sym own_is) ∙ sym number) other)))
