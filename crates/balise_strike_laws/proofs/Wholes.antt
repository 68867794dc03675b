-- A group that an edit leaves whole.
-- Proves that a group whose place is clear stays as it is, by its names before the edit or by those after it.
-- From the packets, each of which names none of what the edit changes.
use Rattle.std.proofs.Common.{◌≡◌, ℕ, false, List, [], ◌∷◌, refl, sym, ap, subst, ◌∙◌}
use Rattle.balise_rules.specs.declared.tag.Tag.{Tag}
use Rattle.balise_rules.specs.declared.tag.Tag.TheVariants.{Fresh}
use Rattle.balise_rules.specs.declared.identity.Id.{Id}
use Rattle.balise_rules.specs.declared.variable.Var.TheVariants.{NidBg, MDup, NPig}
use Rattle.balise_rules.specs.Tagged.{each, changed}
use Rattle.balise_rules.specs.Tags.{same_tag, same_key, is_of}
use Rattle.balise_rules.specs.Forms.{Fields}
use Rattle.balise_rules.specs.Packet.{Packet}
use Rattle.balise_rules.specs.Telegram.{Telegram}
use Rattle.balise_rules.specs.Plan.{Group, country_of}
use Rattle.balise_rules.specs.Names.{links_among, names_in_packets, names_in}
use Rattle.balise_rules.specs.Edits.{Edit, Item, group_after, in_order, telegram_after, packet_after, head_after, packets_change}
use Rattle.balise_rules.specs.declared.tagged_edit.TaggedEdit.TheVariants.{SetVar, SetHead, InsertPacket, DeletePacket, MovePacket, Renumber, TurnGroup}
use Rattle.balise_rules.specs.Notes.{Note}
use Rattle.balise_rules.specs.Accepting.{Lawful}
use Rattle.balise_rules.specs.Paths.{At, Nth, Of, Front, Turn, Name, Head}
use Rattle.balise_rules.proofs.Tests.{split_on}
use Rattle.balise_rules.proofs.Each.{each-id, each-same}
use Rattle.balise_strike_laws.proofs.Cases.{drop1}
use Rattle.balise_strike_laws.proofs.Headers.{country-kept}
use Rattle.balise_strike_laws.proofs.Levels.{Inner}
use Rattle.balise_strike_laws.proofs.Places.{In, first_of, later_of, Clear, clear-longer}
use Rattle.balise_strike_laws.proofs.Named.{in-real}
use Rattle.balise_strike_laws.proofs.Writers.{packet-id}
use Rattle.balise_strike_laws.proofs.Kept.{Unnamed, RealOwn, NamesApart, names-apart, names-apart-back, packet-same}
use Rattle.balise_strike_laws.proofs.Settings.{lawful-head}
use Rattle.balise_strike_laws.proofs.Readers.{home}
use Rattle.balise_strike_laws.proofs.NamesThere.{in-packets-at, in-group-at}

pub each-in : {K A : Type 0} → (h : K → A → A) → (xs : List (K × A)) → ((t : K) → (x : A) → In (t, x) xs → h t x ≡ x) → each h xs ≡ xs
each-in h [] k = refl
each-in h (y ∷ ys) k = ap (λ v. (y.0, v) ∷ each h ys) (k y.0 y.1 first_of) ∙ ap (λ l. y ∷ l) (each-in h ys (λ t x i. k t x (later_of i)))

-- the group is another than that of f
other-group : (f : Item) → (m : Note) → (g : Tag) → Clear (f, m) (At g ∷ []) → Inner f.1 → same_tag (home f.1).0 g ≡ false
other-group (serial1, SetVar g1 t1 p1 v1 k1 x1) m g k h = drop1 (same_tag g1 g) (k (At g1 ∷ Nth t1 ∷ At p1 ∷ Of v1 ∷ Nth k1 ∷ []) first_of)
other-group (serial1, SetHead g1 t1 v1 x1) m g k h = drop1 (same_tag g1 g) (k (At g1 ∷ Nth t1 ∷ Head ∷ Of v1 ∷ []) first_of)
other-group (s1, InsertPacket g1 t1 a1 x1) m g k h = drop1 (same_tag g1 g) (k (At g1 ∷ Nth t1 ∷ At (Fresh s1) ∷ []) first_of)
other-group (serial1, DeletePacket g1 t1 p1) m g k h = drop1 (same_tag g1 g) (k (At g1 ∷ Nth t1 ∷ At p1 ∷ []) first_of)
other-group (serial1, MovePacket g1 t1 p1 a1) m g k h = drop1 (same_tag g1 g) (k (At g1 ∷ Nth t1 ∷ At p1 ∷ Front ∷ []) first_of)
other-group (serial1, Renumber g1 x1) m g k h = drop1 (same_tag g1 g) (k (At g1 ∷ Name ∷ []) first_of)
other-group (serial1, TurnGroup g1) m g k h = drop1 (same_tag g1 g) (k (At g1 ∷ Turn ∷ []) first_of)
other-group e m g k h = absurd h

head-still : (f : Edit) → Inner f → (g : Tag) → (t : ℕ) → (hs : Fields) → same_tag (home f).0 g ≡ false → each (head_after f g t hs) hs ≡ hs
head-still (SetHead g1 t1 v1 x1) i g t hs n = each-same (head_after (SetHead g1 t1 v1 x1) g t hs) hs (λ key v. split_on (same_key (v1, 0) key) (λ e. simp (e, n)) (λ e. simp e))
head-still (Renumber g1 x1) i g t hs n = each-same (head_after (Renumber g1 x1) g t hs) hs (λ key v. split_on (is_of NidBg key) (λ e. simp (e, n)) (λ e. simp e))
head-still (TurnGroup g1) i g t hs n = each-same (head_after (TurnGroup g1) g t hs) hs (λ key v. split_on (is_of MDup key) (λ e. split_on (is_of NPig key) (λ d. simp (e, d, n)) (λ d. simp (e, d, n))) (λ e. split_on (is_of NPig key) (λ d. simp (e, d, n)) (λ d. simp (e, d))))
head-still e i g t hs n = each-id hs

-- elsewhere each edit works field by field
packets-each : (f : Item) → Inner f.1 → (j : Id) → (g : Tag) → (t : ℕ) → (c : ℕ) → (ps : List (Tag × Packet)) → same_tag (home f.1).0 g ≡ false →
    changed same_tag (packets_change f j g t c) ps ≡ each (packet_after f.1 j g t c) ps
packets-each (s1, InsertPacket g1 t1 a1 x1) i j g t c ps n = simp n (each-id ps ∙ sym (each-same (packet_after (InsertPacket g1 t1 a1 x1) j g t c) ps (λ p z. packet-id z)))
packets-each (serial1, DeletePacket g1 t1 p1) i j g t c ps n = simp n (each-id ps ∙ sym (each-same (packet_after (DeletePacket g1 t1 p1) j g t c) ps (λ p z. packet-id z)))
packets-each (serial1, MovePacket g1 t1 p1 a1) i j g t c ps n = simp n (each-id ps ∙ sym (each-same (packet_after (MovePacket g1 t1 p1 a1) j g t c) ps (λ p z. packet-id z)))
packets-each e i j g t c ps n = refl

order-still : (f : Edit) → (g : Tag) → (xs : Group) → Inner f → same_tag (home f).0 g ≡ false → in_order f g xs ≡ xs
order-still (TurnGroup g1) g xs i n = simp n
order-still f g xs i n = refl

module _ (f : Item) (m : Note) (g : Tag) (k : Clear (f, m) (At g ∷ [])) (h : Inner f.1) where
  telegram-same : (t : ℕ) → (y : Telegram) → ((p : Tag) → (z : Packet) → In (p, z) y.packets → NamesApart f m (country_of y) z.fields) → telegram_after f m.own g t y ≡ y
  telegram-same t y n =
      let o = other-group f m g k h in
      ap (λ hs. record { head = hs; packets = changed same_tag (packets_change f m.own g t (country_of y)) y.packets; padding = y.padding }) (head-still f.1 h g t y.head o)
      ∙ ap (λ ps. record { head = y.head; packets = ps; padding = y.padding }) (packets-each f h m.own g t (country_of y) y.packets o
      ∙ each-in (packet_after f.1 m.own g t (country_of y)) y.packets (λ p z i.
      packet-same f m g t (country_of y) p z (clear-longer (f, m) (At g ∷ []) (Nth t ∷ At p ∷ []) k) (clear-longer (f, m) (At g ∷ []) (Turn ∷ []) k) (n p z i)))

  group-same : (xs : Group) → ((t : ℕ) → (y : Telegram) → In (t, y) xs → (p : Tag) → (z : Packet) → In (p, z) y.packets → NamesApart f m (country_of y) z.fields) →
      group_after f m.own g xs ≡ xs
  group-same xs n = order-still f.1 g (each (telegram_after f m.own g) xs) h (other-group f m g k h) ∙ each-in (telegram_after f m.own g) xs (λ t y i. telegram-same t y (n t y i))

in-each : {K A : Type 0} → (h : K → A → A) → (xs : List (K × A)) → (t : K) → (x : A) → In (t, x) xs → In (t, h t x) (each h xs)
in-each h [] t x i = elim i [ ]
in-each h ((t1, x1) ∷ xs) t x (first_of) = first_of
in-each h (w ∷ xs) t x (later_of i) = later_of (in-each h xs t x i)

-- by its names before
pub group-same-names : (f : Item) → (m : Note) → RealOwn (f, m) → (g : Tag) → Clear (f, m) (At g ∷ []) → Inner f.1 → (xs : Group) →
    ((q : Id) → In q (names_in xs) → Unnamed (f, m) q) → group_after f m.own g xs ≡ xs
group-same-names f m r g k h xs n = group-same f m g k h xs (λ t y i p z j. names-apart f m (country_of y) z.fields r
    (λ q w e. n q (in-group-at xs t y i q (in-packets-at (country_of y) y.packets p z j q (in-real q (links_among (country_of y) z.fields z.fields) e w))) e))

-- or by its names after
pub group-same-after : (f : Item) → (m : Note) → RealOwn (f, m) → Lawful f.1 → (g : Tag) → Clear (f, m) (At g ∷ []) → Inner f.1 → (xs : Group) →
    ((q : Id) → In q (names_in (group_after f m.own g xs)) → Unnamed (f, m) q) → group_after f m.own g xs ≡ xs
group-same-after f m r l g k h xs n = group-same f m g k h xs (λ t y i p z j. names-apart-back f m g t (country_of y) p z.fields r l
    (λ q w e. let v = in-real q (links_among (country_of y) (packet_after f.1 m.own g t (country_of y) p z).fields (packet_after f.1 m.own g t (country_of y) p z).fields) e w in
    let o = other-group f m g k h in
    let w1 = in-packets-at (country_of y) (each (packet_after f.1 m.own g t (country_of y)) y.packets) p (packet_after f.1 m.own g t (country_of y) p z) (in-each (packet_after f.1 m.own g t (country_of y)) y.packets p z j) q v in
    let w2 = subst (λ ps. In q (names_in_packets (country_of y) ps)) (sym (packets-each f h m.own g t (country_of y) y.packets o)) w1 in
    let w3 = subst (λ c. In q (names_in_packets c (telegram_after f m.own g t y).packets)) (sym (country-kept f.1 (lawful-head f.1 l) g t y.head)) w2 in
    n q (subst (λ u. In q (names_in u)) (sym (order-still f.1 g (each (telegram_after f m.own g) xs) h o))
    (in-group-at (each (telegram_after f m.own g) xs) t (telegram_after f m.own g t y) (in-each (telegram_after f m.own g) xs t y i) q w3)) e))
