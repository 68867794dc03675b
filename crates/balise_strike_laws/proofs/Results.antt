-- Two edits within the groups make the same in both orders.
-- Proves it for all of them by three kinds of change: field by field, of a list of packets, and one of each.
-- From what independence says of the places of fields, headers and lists, and the law of lists.
use Rattle.std.proofs.Common.{◌≡◌, ℕ, true, false, cond, ◌&&◌, eqb, [], ◌∷◌, Option, Some, refl, sym, ap, subst, ◌∙◌}
use Rattle.std.proofs.lemmas.Bool.{and_parts, and_from}
use Rattle.std.specs.Option.{unwrap_or}
use Rattle.balise_rules.specs.declared.tag.Tag.{Tag}
use Rattle.balise_rules.specs.declared.tag.Tag.TheVariants.{Fresh}
use Rattle.balise_rules.specs.declared.identity.Id.{Id}
use Rattle.balise_rules.specs.declared.variable.Var.{Var}
use Rattle.balise_rules.specs.declared.variable.Var.TheVariants.{NidBg, QDir, QLinkorientation}
use Rattle.balise_rules.specs.Tagged.{find, Each}
use Rattle.balise_rules.specs.Tags.{same_tag, same_id, same_var, same_key}
use Rattle.balise_rules.specs.Packet.{Packet, value}
use Rattle.balise_rules.specs.Telegram.{Telegram}
use Rattle.balise_rules.specs.Plan.{Plan, country_of, telegram_at}
use Rattle.balise_rules.specs.Names.{country_at, is_real, links_among, calls}
use Rattle.balise_rules.specs.Edits.{Edit, Item, effect, packet_after, packets_change}
use Rattle.balise_rules.specs.declared.tagged_edit.TaggedEdit.TheVariants.{SetVar, SetHead, InsertPacket, DeletePacket, MovePacket, AddGroup, DropGroup, Renumber, TurnGroup}
use Rattle.balise_rules.specs.Notes.{Note, set_note, note_at, noted}
use Rattle.balise_rules.specs.Doing.{done}
use Rattle.balise_rules.specs.Accepting.{Lawful}
use Rattle.balise_rules.specs.Paths.{At, Nth, Of, Turn, Name, Head, Whose, changes}
use Rattle.balise_rules.proofs.Tests.{tag_test, nat_test, var_test, both_one}
use Rattle.balise_rules.proofs.Cases.{parts3}
use Rattle.balise_rules.proofs.Found.{place_is}
use Rattle.balise_edit_laws.proofs.FieldChanges.{country_kept}
use Rattle.balise_strike_laws.proofs.Cases.{drop1, drop_field}
use Rattle.balise_strike_laws.proofs.Fields.{identity, FieldApart}
use Rattle.balise_strike_laws.proofs.Headers.{HeadApart}
use Rattle.balise_strike_laws.proofs.Changes.{ChangesApart}
use Rattle.balise_strike_laws.proofs.Neighbours.{Leaves, lists-apart, OfList}
use Rattle.balise_strike_laws.proofs.Levels.{packet-commute, inner-commute, Inner, keep, apart-here, apart-each-here, apart-here-each}
use Rattle.balise_strike_laws.proofs.Places.{first_of, later_of, Reads, In}
use Rattle.balise_strike_laws.proofs.Facts.{Facts}
use Rattle.balise_strike_laws.proofs.Named.{whose_apart}
use Rattle.balise_strike_laws.proofs.Kept.{Unnamed, own-apart, turn-apart, ren-apart, turned-other, names-apart, packet-same}
use Rattle.balise_strike_laws.proofs.Settings.{lawful-head, own_change, read-name, read-link, read-dir}
use Rattle.balise_strike_laws.proofs.Readers.{Local, home, leaves, read-names-insert}
use Rattle.balise_strike_laws.proofs.Locals.{real-own}

abbrev pub FieldKind : Edit → Type 0
FieldKind (SetVar g t p v k x) = Unit {0}
FieldKind (SetHead g t v x) = Unit {0}
FieldKind (Renumber g x) = Unit {0}
FieldKind (TurnGroup g) = Unit {0}
FieldKind e = ⊥

abbrev pub ListKind : Edit → Type 0
ListKind (InsertPacket g t a x) = Unit {0}
ListKind (DeletePacket g t p) = Unit {0}
ListKind (MovePacket g t p a) = Unit {0}
ListKind e = ⊥

pub by-kind : {P : Type 0} → (e : Item) → Inner e.1 → (FieldKind e.1 → P) → (ListKind e.1 → P) → P
by-kind (s, InsertPacket g t c x) h a b = b tt
by-kind (serial, DeletePacket g t p) h a b = b tt
by-kind (serial, MovePacket g t p c) h a b = b tt
by-kind (s, AddGroup c bs) h a b = absurd h
by-kind (serial, DropGroup g) h a b = absurd h
by-kind e h a b = a tt

field-change : (e : Item) → FieldKind e.1 → (i : Id) → (g : Tag) → (t : ℕ) → (c : ℕ) → packets_change e i g t c ≡ Each (packet_after e.1 i g t c)
field-change (serial0, SetVar g0 t0 p v k x) h i g t c = refl
field-change (serial0, SetHead g0 t0 v x) h i g t c = refl
field-change (serial0, Renumber g0 x) h i g t c = refl
field-change (serial0, TurnGroup g0) h i g t c = refl
field-change e h i g t c = absurd h

list-change : (e : Item) → ListKind e.1 → (i : Id) → (g : Tag) → (t : ℕ) → (c : ℕ) →
    packets_change e i g t c ≡ cond (same_tag (home e.1).0 g && eqb (home e.1).1 t) (own_change e) keep
list-change (s, InsertPacket g0 t0 b x) h i g t c = refl
list-change (serial0, DeletePacket g0 t0 p) h i g t c = refl
list-change (serial0, MovePacket g0 t0 p b) h i g t c = refl
list-change e h i g t c = absurd h

list-local : (e : Item) → ListKind e.1 → Local e.1 × OfList (own_change e)
list-local (s, InsertPacket g0 t0 b x) h = (tt, tt)
list-local (serial0, DeletePacket g0 t0 p) h = (tt, tt)
list-local (serial0, MovePacket g0 t0 p b) h = (tt, tt)
list-local e h = absurd h

pub head-apart : (e : Item) → (n : Note) → (f : Item) → (m : Note) → Reads (e, n) (f, m) → Reads (f, m) (e, n) → HeadApart e.1 f.1
head-apart (serial0, SetHead g0 t0 v0 x) n (serial1, SetHead g1 t1 v1 y) m r1 r2 = (r1 (At g0 ∷ Nth t0 ∷ Head ∷ Of v0 ∷ []) first_of (At g1 ∷ Nth t1 ∷ Head ∷ Of v1 ∷ []) first_of)
head-apart (serial0, SetHead g0 t0 v0 x) n (serial1, TurnGroup g1) m r1 r2 = λ e. turned-other serial1 g0 g1 m (r1 (At g0 ∷ Turn ∷ []) (later_of (simp e first_of)))
head-apart (serial1, TurnGroup g1) n (serial0, SetHead g0 t0 v0 x) m r1 r2 = λ e. turned-other serial1 g0 g1 n (r2 (At g0 ∷ Turn ∷ []) (later_of (simp e first_of)))
head-apart (serial0, Renumber g0 x) n (serial1, Renumber g1 y) m r1 r2 = drop1 (same_tag g1 g0) (r1 (At g0 ∷ Name ∷ []) first_of (At g1 ∷ Name ∷ []) first_of)
head-apart e n f m r1 r2 = tt

-- what a setting noted, where it sets
pub set-noted : (g0 : Tag) → (t0 : ℕ) → (p0 : Tag) → (v : Var) → (k x : ℕ) → (plan : Plan) → (g : Tag) → (t : ℕ) → (p : Tag) → (y : Telegram) → (z : Packet) →
    telegram_at g t plan ≡ Some y → find same_tag p y.packets ≡ Some z → (same_tag g0 g && (eqb t0 t && same_tag p0 p)) ≡ true →
    noted (SetVar g0 t0 p0 v k x) plan ≡ set_note v k x (country_of y) (Some z)
set-noted g0 t0 p0 v k x plan g t p y z q h a =
    let d = parts3 (same_tag g0 g) (eqb t0 t) (same_tag p0 p) a in
    ap (note_at (SetVar g0 t0 p0 v k x)) (place_is g0 g t0 t plan (and_from (same_tag g0 g) (eqb t0 t) d.0 d.1) ∙ q)
    ∙ ap (set_note v k x (country_of y)) (ap (λ u. find same_tag u y.packets) (tag_test.one p0 p d.2) ∙ h)

module _ (serial : ℕ) (g0 : Tag) (t0 : ℕ) (p0 : Tag) (v : Var) (k x : ℕ) (n : Note) (f : Item) (m : Note) (r : Reads ((serial, SetVar g0 t0 p0 v k x), n) (f, m)) (c : ℕ) (z : Packet) (ns : n ≡ set_note v k x c (Some z)) where
  -- the element's identity, with this number
  abbrev called : ℕ → Id
  called u1 = identity (country_at c k z.fields) u1

  new-name : same_var NidBg v ≡ true → Unnamed (f, m) (called x)
  new-name e = read-name serial g0 t0 p0 v k x n f m r e (called x) (called (value v k z.fields) ∷ (called x) ∷ []) (ap (λ o. o.names) ns ∙ simp e) (later_of first_of)

  old-name : same_var NidBg v ≡ true → (w : ℕ) → find same_key (NidBg, k) z.fields ≡ Some w → Unnamed (f, m) (called w)
  old-name e w h =
      let a = read-name serial g0 t0 p0 v k x n f m r e (called (value v k z.fields)) (called (value v k z.fields) ∷ (called x) ∷ []) (ap (λ o. o.names) ns ∙ simp e) first_of in
      let q : NidBg ≡ v = var_test.one NidBg v e in
      subst (λ u. Unnamed (f, m) (called (unwrap_or u 0))) h (subst (λ u. Unnamed (f, m) (called (value u k z.fields))) (sym q) a)

  link-name : same_var QLinkorientation v ≡ true → (w : ℕ) → find same_key (NidBg, k) z.fields ≡ Some w → Unnamed (f, m) (called w)
  link-name e w h =
      let q : QLinkorientation ≡ v = var_test.one QLinkorientation v e in let d : same_var NidBg v ≡ false = rw (← q) refl in
      let a = read-link serial g0 t0 p0 v k x n f m r e (called (value NidBg k z.fields)) (called (value NidBg k z.fields) ∷ []) (ap (λ o. o.names) ns ∙ simp (d, e)) first_of in
      subst (λ u. Unnamed (f, m) (called (unwrap_or u 0))) h a

turn-read : (serial serial1 : ℕ) → (g0 : Tag) → (t0 : ℕ) → (p0 : Tag) → (v : Var) → (k x : ℕ) → (n : Note) → (g1 : Tag) → (m : Note) →
    Reads ((serial, SetVar g0 t0 p0 v k x), n) ((serial1, TurnGroup g1), m) → is_real m.own ≡ true → (c : ℕ) → (z : Packet) → (g : Tag) → same_tag g0 g ≡ true →
    n ≡ set_note v k x c (Some z) →
    (same_var NidBg v ≡ true → (same_id (identity (country_at c k z.fields) x) m.own ≡ false) × (calls c k z.fields m.own ≡ false)) ×
    (same_var QLinkorientation v ≡ true → calls c k z.fields m.own ≡ false) × (same_var QDir v ≡ true → same_tag g1 g ≡ false)
turn-read serial serial1 g0 t0 p0 v k x n g1 m r own c z g eg ns = (
  (λ e. (own-apart serial1 g1 m (identity (country_at c k z.fields) x) own (new-name serial g0 t0 p0 v k x n (serial1, TurnGroup g1) m r c z ns e), turn-apart (serial1, TurnGroup g1) m c k z.fields own (old-name serial g0 t0 p0 v k x n (serial1, TurnGroup g1) m r c z ns e))),
  (λ e. turn-apart (serial1, TurnGroup g1) m c k z.fields own (link-name serial g0 t0 p0 v k x n (serial1, TurnGroup g1) m r c z ns e)),
  (λ e. ap (λ u. same_tag g1 u) (sym (tag_test.one g0 g eg)) ∙ turned-other serial1 g0 g1 m (read-dir serial g0 t0 p0 v k x n (serial1, TurnGroup g1) m r e)),
)

-- neither the old identity of a renumbering nor the new one is one that f changes
renumbered-apart : (serial : ℕ) → (g : Tag) → (x : ℕ) → (n : Note) → (f : Item) → (m : Note) → Reads ((serial, Renumber g x), n) (f, m) → In (Whose m.own ∷ []) (changes (f, m)) →
    (same_id n.own m.own ≡ false) × (same_id (identity n.own.country x) m.own ≡ false)
renumbered-apart serial g x n f m r i = (
  whose_apart m.own n.own (r (Whose n.own ∷ []) (later_of first_of) (Whose m.own ∷ []) i),
  whose_apart m.own (identity n.own.country x) (r (Whose (identity n.own.country x) ∷ []) (later_of (later_of first_of)) (Whose m.own ∷ []) i),
)

module _ (plan : Plan) (s : Facts plan) (g : Tag) (t : ℕ) (y : Telegram) (q : telegram_at g t plan ≡ Some y) where
  abbrev c1 : ℕ
  c1 = country_of y

  pub fields-apart : (e f : Item) → Reads (e, noted e.1 plan) (f, noted f.1 plan) → Reads (f, noted f.1 plan) (e, noted e.1 plan) → (p : Tag) → (z : Packet) →
      find same_tag p y.packets ≡ Some z →
      FieldApart e.1 (noted e.1 plan).own f.1 (noted f.1 plan).own g t c1 p z.fields
  fields-apart (serial0, SetVar g0 t0 p0 v0 k0 x0) (serial1, SetVar g1 t1 p1 v1 k1 x1) r1 r2 p z h = drop_field (same_tag g1 g0) (eqb t1 t0) (same_tag p1 p0) (same_var v1 v0) (eqb k1 k0) (r1 (At g0 ∷ Nth t0 ∷ At p0 ∷ Of v0 ∷ Nth k0 ∷ []) first_of (At g1 ∷ Nth t1 ∷ At p1 ∷ Of v1 ∷ Nth k1 ∷ []) first_of)
  fields-apart (serial0, SetVar g0 t0 p0 v0 k0 x0) (serial1, Renumber g1 x1) r1 r2 p z h =
      λ a e. ren-apart (serial1, Renumber g1 x1) (noted (Renumber g1 x1) plan) (identity (country_at c1 k0 z.fields) x0) (real-own (serial1, Renumber g1 x1) plan s)
      (new-name serial0 g0 t0 p0 v0 k0 x0 (noted (SetVar g0 t0 p0 v0 k0 x0) plan) (serial1, Renumber g1 x1) (noted (Renumber g1 x1) plan) r1 c1 z (set-noted g0 t0 p0 v0 k0 x0 plan g t p y z q h a) e)
  fields-apart (serial1, Renumber g1 x1) (serial0, SetVar g0 t0 p0 v0 k0 x0) r1 r2 p z h =
      λ a e. ren-apart (serial1, Renumber g1 x1) (noted (Renumber g1 x1) plan) (identity (country_at c1 k0 z.fields) x0) (real-own (serial1, Renumber g1 x1) plan s)
      (new-name serial0 g0 t0 p0 v0 k0 x0 (noted (SetVar g0 t0 p0 v0 k0 x0) plan) (serial1, Renumber g1 x1) (noted (Renumber g1 x1) plan) r2 c1 z (set-noted g0 t0 p0 v0 k0 x0 plan g t p y z q h a) e)
  fields-apart (serial0, SetVar g0 t0 p0 v0 k0 x0) (serial1, TurnGroup g1) r1 r2 p z h =
      λ a. turn-read serial0 serial1 g0 t0 p0 v0 k0 x0 (noted (SetVar g0 t0 p0 v0 k0 x0) plan) g1 (noted (TurnGroup g1) plan) r1 (real-own (serial1, TurnGroup g1) plan s) c1 z g (parts3 (same_tag g0 g) (eqb t0 t) (same_tag p0 p) a).0 (set-noted g0 t0 p0 v0 k0 x0 plan g t p y z q h a)
  fields-apart (serial1, TurnGroup g1) (serial0, SetVar g0 t0 p0 v0 k0 x0) r1 r2 p z h =
      λ a. turn-read serial0 serial1 g0 t0 p0 v0 k0 x0 (noted (SetVar g0 t0 p0 v0 k0 x0) plan) g1 (noted (TurnGroup g1) plan) r2 (real-own (serial1, TurnGroup g1) plan s) c1 z g (parts3 (same_tag g0 g) (eqb t0 t) (same_tag p0 p) a).0 (set-noted g0 t0 p0 v0 k0 x0 plan g t p y z q h a)
  fields-apart (serial0, Renumber g0 x0) (serial1, Renumber g1 x1) r1 r2 p z h =
      let a = renumbered-apart serial0 g0 x0 (noted (Renumber g0 x0) plan) (serial1, Renumber g1 x1) (noted (Renumber g1 x1) plan) r1 (later_of first_of) in
      (a.0, a.1, (renumbered-apart serial1 g1 x1 (noted (Renumber g1 x1) plan) (serial0, Renumber g0 x0) (noted (Renumber g0 x0) plan) r2 (later_of first_of)).1)
  fields-apart (serial0, Renumber g0 x0) (serial1, TurnGroup g1) r1 r2 p z h = renumbered-apart serial0 g0 x0 (noted (Renumber g0 x0) plan) (serial1, TurnGroup g1) (noted (TurnGroup g1) plan) r1 (later_of first_of)
  fields-apart (serial1, TurnGroup g1) (serial0, Renumber g0 x0) r1 r2 p z h = renumbered-apart serial0 g0 x0 (noted (Renumber g0 x0) plan) (serial1, TurnGroup g1) (noted (TurnGroup g1) plan) r2 (later_of first_of)
  fields-apart e f r1 r2 p z h = tt

  -- what is put in is left as it is
  pub insert-same : (s1 : ℕ) → (g1 : Tag) → (t1 : ℕ) → (a : Option Tag) → (x : Packet) → (e : Item) →
      Reads ((s1, InsertPacket g1 t1 a x), noted (InsertPacket g1 t1 a x) plan) (e, noted e.1 plan) → (same_tag g1 g && eqb t1 t) ≡ true →
      packet_after e.1 (noted e.1 plan).own g t c1 (Fresh s1) x ≡ x
  insert-same s1 g1 t1 a x e r b =
      let d = and_parts (same_tag g1 g) (eqb t1 t) b in
      let f1 = InsertPacket g1 t1 a x in
      let n = ap (note_at f1) (place_is g1 g t1 t plan b ∙ q) in
      let k = packet-same e (noted e.1 plan) g1 t1 c1 (Fresh s1) x (r (At g1 ∷ Nth t1 ∷ At (Fresh s1) ∷ []) first_of) (r (At g1 ∷ Turn ∷ []) (later_of (later_of first_of)))
      (names-apart e (noted e.1 plan) c1 x.fields (real-own e plan s) (read-names-insert s1 g1 t1 a x (noted f1 plan) e (noted e.1 plan) r (links_among c1 x.fields x.fields) (ap (λ o. o.names) n))) in
      subst (λ u. packet_after e.1 (noted e.1 plan).own u t c1 (Fresh s1) x ≡ x) (tag_test.one g1 g d.0)
      (subst (λ u. packet_after e.1 (noted e.1 plan).own g1 u c1 (Fresh s1) x ≡ x) (nat_test.one t1 t d.1) k)

  each-list : (e f : Item) → ListKind f.1 → Reads (f, noted f.1 plan) (e, noted e.1 plan) → (same_tag (home f.1).0 g && eqb (home f.1).1 t) ≡ true →
      ChangesApart (Each (packet_after e.1 (noted e.1 plan).own g t c1)) (own_change f) y.packets × ChangesApart (own_change f) (Each (packet_after e.1 (noted e.1 plan).own g t c1)) y.packets
  each-list e (s1, InsertPacket g1 t1 a x) h r b = let k = insert-same s1 g1 t1 a x e r b in (k, k)
  each-list e (serial1, DeletePacket g1 t1 p) h r b = (tt, tt)
  each-list e (serial1, MovePacket g1 t1 p a) h r b = (tt, tt)
  each-list e f h r b = absurd h

  here-leaves : (e f : Item) → (he : ListKind e.1) → (hf : ListKind f.1) → (n m : Note) → Reads (e, n) (f, m) → (same_tag (home e.1).0 g && eqb (home e.1).1 t) ≡ true →
      (same_tag (home f.1).0 g && eqb (home f.1).1 t) ≡ true → Leaves (own_change f) (own_change e) n.before
  here-leaves e f he hf n m r a b =
      let d = and_parts (same_tag (home e.1).0 g) (eqb (home e.1).1 t) a in let w = and_parts (same_tag (home f.1).0 g) (eqb (home f.1).1 t) b in
      let k0 = both_one tag_test g (home e.1).0 (home f.1).0 d.0 w.0 in let k1 = both_one nat_test t (home e.1).1 (home f.1).1 d.1 w.1 in
      subst (λ u. Leaves u (own_change e) n.before) (list-change f hf m.own (home e.1).0 (home e.1).1 c1 ∙ simp (k0, k1)) (leaves e (list-local e he).0 n f m c1 r)

  pub packets-apart : (e f : Item) → Inner e.1 → Inner f.1 → Lawful e.1 → Lawful f.1 → Reads (e, noted e.1 plan) (f, noted f.1 plan) →
      Reads (f, noted f.1 plan) (e, noted e.1 plan) →
      ChangesApart (packets_change e (noted e.1 plan).own g t c1) (packets_change f (noted f.1 plan).own g t c1) y.packets
  packets-apart e f he hf le lf r1 r2 =
      by-kind e he
      (λ ke. by-kind f hf
      (λ kf. rw (field-change e ke (noted e.1 plan).own g t c1, field-change f kf (noted f.1 plan).own g t c1)
      (λ p z h. packet-commute e.1 (noted e.1 plan).own f.1 (noted f.1 plan).own (country_kept e.1 le) (country_kept f.1 lf) g t c1 p z (s.fields g t p y q z h) (fields-apart e f r1 r2 p z h)))
      (λ kf. rw (field-change e ke (noted e.1 plan).own g t c1, list-change f kf (noted f.1 plan).own g t c1)
      (apart-each-here (same_tag (home f.1).0 g && eqb (home f.1).1 t) (packet_after e.1 (noted e.1 plan).own g t c1) (own_change f) y.packets (λ b. (each-list e f kf r2 b).0))))
      (λ ke. by-kind f hf
      (λ kf. rw (list-change e ke (noted e.1 plan).own g t c1, field-change f kf (noted f.1 plan).own g t c1)
      (apart-here-each (same_tag (home e.1).0 g && eqb (home e.1).1 t) (packet_after f.1 (noted f.1 plan).own g t c1) (own_change e) y.packets (λ b. (each-list f e ke r1 b).1)))
      (λ kf. rw (list-change e ke (noted e.1 plan).own g t c1, list-change f kf (noted f.1 plan).own g t c1)
      (apart-here (same_tag (home e.1).0 g && eqb (home e.1).1 t) (same_tag (home f.1).0 g && eqb (home f.1).1 t) (own_change e) (own_change f) y.packets
      (λ a b. lists-apart (own_change e) (own_change f) y.packets (noted e.1 plan).before (noted f.1 plan).before (list-local e ke).1 (list-local f kf).1
      (here-leaves e f ke kf (noted e.1 plan) (noted f.1 plan) r1 a b) (here-leaves f e kf ke (noted f.1 plan) (noted e.1 plan) r2 b a)))))

-- the same plan
pub same-result : (e f : Item) → (plan : Plan) → Facts plan → Inner e.1 → Inner f.1 → Lawful e.1 → Lawful f.1 → Reads (e, noted e.1 plan) (f, noted f.1 plan) →
    Reads (f, noted f.1 plan) (e, noted e.1 plan) →
    effect f (noted f.1 plan).own (done e plan) ≡ effect e (noted e.1 plan).own (done f plan)
same-result e f plan s he hf le lf r1 r2 =
    inner-commute f (noted f.1 plan).own e (noted e.1 plan).own hf he (lawful-head f.1 lf) (lawful-head e.1 le) plan s.groups
    (λ g xs h. (
      s.telegrams g xs h,
      λ t y k.
          let q : telegram_at g t plan ≡ Some y = simp h k in
          (head-apart f (noted f.1 plan) e (noted e.1 plan) r2 r1, packets-apart plan s g t y q f e hf he lf le r2 r1, (s.heads g t y q).0, (s.heads g t y q).1),
    ))
