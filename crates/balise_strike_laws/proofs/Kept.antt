-- What an edit leaves of fields, packets and headers, forward and back.
-- Proves that a field, a packet or a header's field whose place is clear stays as it is; forward by the names before the edit, back by those after it.
-- From the places that each kind changes; only a renumbering gives an element another name.
use Rattle.std.proofs.Common.{◌≡◌, ℕ, Bool, true, false, ◌&&◌, eqb, [], ◌∷◌, Some, refl, ap, subst, ◌∙◌}
use Rattle.std.proofs.Math.Bool.{and-true}
use Rattle.std.proofs.lemmas.Bool.{both_ways, and_parts, and_from, eq-eqb}
use Rattle.balise_rules.specs.declared.tag.Tag.{Tag}
use Rattle.balise_rules.specs.declared.identity.Id.{Id}
use Rattle.balise_rules.specs.declared.variable.Var.{Var}
use Rattle.balise_rules.specs.declared.variable.Var.TheVariants.{NidBg, QDir, QLinkorientation, MDup}
use Rattle.balise_rules.specs.Tagged.{find, each}
use Rattle.balise_rules.specs.Tags.{same_tag, same_id, same_var, same_key, is_of}
use Rattle.balise_rules.specs.Forms.{Fields}
use Rattle.balise_rules.specs.Packet.{Packet}
use Rattle.balise_rules.specs.Names.{country_at, is_real, links_among, calls}
use Rattle.balise_rules.specs.Edits.{Item, packet_after, field_after, head_after}
use Rattle.balise_rules.specs.declared.tagged_edit.TaggedEdit.TheVariants.{SetVar, SetHead, Renumber, TurnGroup}
use Rattle.balise_rules.specs.Notes.{Note}
use Rattle.balise_rules.specs.Accepting.{Lawful}
use Rattle.balise_rules.specs.Paths.{At, Nth, Of, Turn, Head, Whose, Entry}
use Rattle.balise_rules.proofs.Tests.{split_on, id_test}
use Rattle.balise_rules.proofs.Cases.{found}
use Rattle.balise_rules.proofs.Each.{each-same}
use Rattle.balise_rules.proofs.Keys.{of_is, not_other}
use Rattle.balise_rules.proofs.Names.{real_number}
use Rattle.balise_rules.proofs.Untouched.{country_untouched}
use Rattle.balise_strike_laws.proofs.Cases.{drop1, drop_field, drop_packet}
use Rattle.balise_strike_laws.proofs.Fields.{identity}
use Rattle.balise_strike_laws.proofs.Headers.{SteadyHead}
use Rattle.balise_strike_laws.proofs.Places.{In, first_of, later_of, Clear}
use Rattle.balise_strike_laws.proofs.Named.{named-among, whose_apart, ren-same}
use Rattle.balise_strike_laws.proofs.Writers.{packet-id}

-- an identity that f doesn't change, or 16383
abbrev pub Unnamed : Entry → Id → Type 0
Unnamed (f, m) i = is_real i ≡ true → Clear (f, m) (Whose i ∷ [])

abbrev pub RealOwn : Entry → Type 0
RealOwn ((serial, Renumber g x), m) = is_real m.own ≡ true
RealOwn ((serial, TurnGroup g), m) = is_real m.own ≡ true
RealOwn (f, m) = Unit {0}

pub real-apart : (i j : Id) → is_real j ≡ true → (is_real i ≡ true → same_id i j ≡ false) → same_id i j ≡ false
real-apart i j n h = split_on (same_id i j) (λ e. absurd (both_ways (same_id i j) (h (ap is_real (id_test.one i j e) ∙ n)) e)) (λ e. e)

abbrev pub RenApart : Item → Note → Id → Type 0
RenApart (serial, Renumber g x) m i = same_id i m.own ≡ false
RenApart f m i = Unit {0}

pub ren-apart : (f : Item) → (m : Note) → (i : Id) → RealOwn (f, m) → Unnamed (f, m) i → RenApart f m i
ren-apart (serial, Renumber g x) m i r u = real-apart i m.own r (λ e. whose_apart m.own i (u e (Whose m.own ∷ []) (later_of first_of)))
ren-apart f m i r u = tt

pub own-apart : (serial : ℕ) → (g : Tag) → (m : Note) → (i : Id) → RealOwn ((serial, TurnGroup g), m) → Unnamed ((serial, TurnGroup g), m) i → same_id i m.own ≡ false
own-apart serial g m i r u = real-apart i m.own r (λ e. whose_apart m.own i (u e (Whose m.own ∷ []) (later_of first_of)))

-- and back: what is renumbered has the new number after
pub ren-apart-back : (f : Item) → (m : Note) → (g : Tag) → (t : ℕ) → (c : ℕ) → (p : Tag) → (fs : Fields) → (w : Var) → (k u : ℕ) → same_var NidBg w ≡ true → Lawful f.1 →
    Unnamed (f, m) (identity (country_at c k fs) (field_after f.1 m.own g t c p fs (w, k) u)) → RenApart f m (identity (country_at c k fs) u)
ren-apart-back (serial, Renumber g1 x) m g t c p fs w k u b l h =
    split_on (same_id (identity (country_at c k fs) u) m.own)
    (λ e. let r = simp (b, e) at h in
    let q = whose_apart (identity m.own.country x) (identity (country_at c k fs) x) (r (real_number (identity (country_at c k fs) x) l.1) (Whose (identity m.own.country x) ∷ []) (later_of (later_of first_of))) in
    let d = and_parts (eqb (country_at c k fs) m.own.country) (eqb u m.own.number) e in
    absurd (both_ways (same_id (identity (country_at c k fs) x) (identity m.own.country x)) q (and_from (eqb (country_at c k fs) m.own.country) (eqb x x) d.0 (eq-eqb x x refl))))
    (λ e. e)
ren-apart-back f m g t c p fs w k u b l h = tt

abbrev pub TurnApart : Item → Note → ℕ → ℕ → Fields → Type 0
TurnApart (serial, TurnGroup g) m c k fs = calls c k fs m.own ≡ false
TurnApart f m c k fs = Unit {0}

pub turn-apart : (f : Item) → (m : Note) → (c k : ℕ) → (fs : Fields) → RealOwn (f, m) →
    ((v : ℕ) → find same_key (NidBg, k) fs ≡ Some v → Unnamed (f, m) (identity (country_at c k fs) v)) → TurnApart f m c k fs
turn-apart (serial, TurnGroup g) m c k fs r h = found (find same_key (NidBg, k) fs) (λ e. simp e) (λ v e. simp e (own-apart serial g m (identity (country_at c k fs) v) r (h v e)))
turn-apart f m c k fs r h = tt

pub turned-other : (serial : ℕ) → (g g1 : Tag) → (m : Note) → Clear ((serial, TurnGroup g1), m) (At g ∷ Turn ∷ []) → same_tag g1 g ≡ false
turned-other serial g g1 m h = drop1 (same_tag g1 g) (h (At g1 ∷ Turn ∷ []) first_of)

pub field-kept : (f : Item) → (m : Note) → (g : Tag) → (t : ℕ) → (c : ℕ) → (p : Tag) → (fs : Fields) → (w : Var) → (k u : ℕ) →
    Clear (f, m) (At g ∷ Nth t ∷ At p ∷ Of w ∷ Nth k ∷ []) →
    (same_var NidBg w ≡ true → RenApart f m (identity (country_at c k fs) u)) → (same_var QLinkorientation w ≡ true → TurnApart f m c k fs) → (same_var QDir w ≡ true → Clear (f, m) (At g ∷ Turn ∷ [])) →
    field_after f.1 m.own g t c p fs (w, k) u ≡ u
field-kept (serial, SetVar g1 t1 p1 v1 k1 x1) m g t c p fs w k u h a b d =
    let r : (same_tag g1 g && (eqb t1 t && (same_tag p1 p && same_key (v1, k1) (w, k)))) ≡ false = drop_field (same_tag g1 g) (eqb t1 t) (same_tag p1 p) (same_var v1 w) (eqb k1 k) (h (At g1 ∷ Nth t1 ∷ At p1 ∷ Of v1 ∷ Nth k1 ∷ []) first_of) in simp r
field-kept (serial, Renumber g1 x) m g t c p fs w k u h a b d = split_on (same_var NidBg w) (λ e. let r = a e in simp (e, r)) (λ e. simp e)
field-kept (serial, TurnGroup g1) m g t c p fs w k u h a b d =
    split_on (same_var QLinkorientation w) (λ e. let r = b e in simp (e, r))
    (λ e. split_on (same_var QDir w) (λ q. let r = turned-other serial g g1 m (d q) in simp (e, q, r)) (λ q. simp (e, q)))
field-kept f m g t c p fs w k u h a b d = refl

-- a whole packet
abbrev pub NamesApart : Item → Note → ℕ → Fields → Type 0
NamesApart (serial, Renumber g x) m c fs = (q : Id) → In q (links_among c fs fs) → same_id q m.own ≡ false
NamesApart (serial, TurnGroup g) m c fs = (q : Id) → In q (links_among c fs fs) → same_id q m.own ≡ false
NamesApart f m c fs = Unit {0}

pub names-apart : (f : Item) → (m : Note) → (c : ℕ) → (fs : Fields) → RealOwn (f, m) → ((q : Id) → In q (links_among c fs fs) → Unnamed (f, m) q) → NamesApart f m c fs
names-apart (serial, Renumber g x) m c fs r h = λ q i. ren-apart (serial, Renumber g x) m q r (h q i)
names-apart (serial, TurnGroup g) m c fs r h = λ q i. own-apart serial g m q r (h q i)
names-apart f m c fs r h = tt

-- back: names after the change
ren-names-back : (serial : ℕ) → (g1 : Tag) → (x : ℕ) → (m : Note) → (g : Tag) → (t : ℕ) → (c : ℕ) → (p : Tag) → (fs ys : Fields) → Lawful (Renumber g1 x) →
    ((q : Id) → In q (links_among c (each (field_after (Renumber g1 x) m.own g t c p fs) fs) (each (field_after (Renumber g1 x) m.own g t c p fs) ys)) → Unnamed ((serial, Renumber g1 x), m) q) →
    (q : Id) → In q (links_among c fs ys) → same_id q m.own ≡ false
ren-names-back serial g1 x m g t c p fs [] l h q i = elim i [ ]
ren-names-back serial g1 x m g t c p fs (y ∷ ys) l h q i =
    split_on (is_of NidBg y.0)
    (λ e. at_bg e (λ n r k. ren-names-back serial g1 x m g t c p fs ys l n r k) q (simp e at i))
    (λ e. ren-names-back serial g1 x m g t c p fs ys l (λ r k. h r (simp e k)) q (simp e at i))
  where
    at_bg : is_of NidBg y.0 ≡ true →
        (((q : Id) → In q (links_among c (each (field_after (Renumber g1 x) m.own g t c p fs) fs) (each (field_after (Renumber g1 x) m.own g t c p fs) ys)) → Unnamed ((serial, Renumber g1 x), m) q) → (q : Id) → In q (links_among c fs ys) → same_id q m.own ≡ false) →
        (q : Id) → In q ((identity (country_at c y.0.1 fs) (y.1)) ∷ links_among c fs ys) → same_id q m.own ≡ false
    at_bg e ih q (later_of k) = ih (λ r i. h r (simp e (later_of i))) q k
    at_bg e ih q (first_of) =
        let s : Unnamed ((serial, Renumber g1 x), m) (identity (country_at c y.0.1 (each (field_after (Renumber g1 x) m.own g t c p fs) fs)) (field_after (Renumber g1 x) m.own g t c p fs y.0 y.1)) = h (identity (country_at c y.0.1 (each (field_after (Renumber g1 x) m.own g t c p fs) fs)) (field_after (Renumber g1 x) m.own g t c p fs y.0 y.1)) (simp e first_of) in
        let s2 = rw (country_untouched (Renumber g1 x) refl m.own g t c p y.0.1 fs) at s in
        let o : y.0 ≡ (NidBg, y.0.1) = of_is NidBg y.0 e in
        ren-apart-back (serial, Renumber g1 x) m g t c p fs NidBg y.0.1 y.1 refl l
        (subst (λ key. Unnamed ((serial, Renumber g1 x), m) (identity (country_at c y.0.1 fs) (field_after (Renumber g1 x) m.own g t c p fs key y.1))) o s2)

turn-names : (g1 : Tag) → (j : Id) → (g : Tag) → (t : ℕ) → (c : ℕ) → (p : Tag) → (fs ys : Fields) →
    links_among c (each (field_after (TurnGroup g1) j g t c p fs) fs) (each (field_after (TurnGroup g1) j g t c p fs) ys) ≡ links_among c fs ys
turn-names g1 j g t c p fs [] = refl
turn-names g1 j g t c p fs (y ∷ ys) =
    split_on (is_of NidBg y.0)
    (λ e. let d = not_other NidBg QLinkorientation y.0 refl e in let u = not_other NidBg QDir y.0 refl e in
    simp (e, d, u, country_untouched (TurnGroup g1) (refl, refl) j g t c p y.0.1 fs) (ap (λ l. (identity (country_at c y.0.1 fs) (y.1)) ∷ l) (turn-names g1 j g t c p fs ys)))
    (λ e. simp e (turn-names g1 j g t c p fs ys))

pub names-apart-back : (f : Item) → (m : Note) → (g : Tag) → (t : ℕ) → (c : ℕ) → (p : Tag) → (fs : Fields) → RealOwn (f, m) → Lawful f.1 →
    ((q : Id) → In q (links_among c (each (field_after f.1 m.own g t c p fs) fs) (each (field_after f.1 m.own g t c p fs) fs)) → Unnamed (f, m) q) → NamesApart f m c fs
names-apart-back (serial, Renumber g1 x) m g t c p fs r l h = ren-names-back serial g1 x m g t c p fs fs l h
names-apart-back (serial, TurnGroup g1) m g t c p fs r l h = λ q i. own-apart serial g1 m q r (h q (rw (turn-names g1 m.own g t c p fs fs) i))
names-apart-back f m g t c p fs r l h = tt

abbrev pub with_fields : Packet → Fields → Packet
with_fields z fs = record { fields = fs; rest = z.rest }

pub packet-same : (f : Item) → (m : Note) → (g : Tag) → (t : ℕ) → (c : ℕ) → (p : Tag) → (z : Packet) → Clear (f, m) (At g ∷ Nth t ∷ At p ∷ []) →
    Clear (f, m) (At g ∷ Turn ∷ []) → NamesApart f m c z.fields →
    packet_after f.1 m.own g t c p z ≡ z
packet-same (serial, SetVar g1 t1 p1 v1 k1 x1) m g t c p z h d n =
    ap (with_fields z) (each-same (field_after (SetVar g1 t1 p1 v1 k1 x1) m.own g t c p z.fields) z.fields
    (λ key u. let r = drop_packet (same_tag g1 g) (eqb t1 t) (same_tag p1 p) (same_key (v1, k1) key) (h (At g1 ∷ Nth t1 ∷ At p1 ∷ Of v1 ∷ Nth k1 ∷ []) first_of) in simp r))
packet-same (serial, Renumber g1 x) m g t c p z h d n = ap (with_fields z) (ren-same g1 x m.own g t c p z.fields z.fields n)
packet-same (serial, TurnGroup g1) m g t c p z h d n =
    ap (with_fields z) (each-same (field_after (TurnGroup g1) m.own g t c p z.fields) z.fields
    (λ key u. let r = turned-other serial g g1 m d in
    let l : calls c key.1 z.fields m.own ≡ false = found (find same_key (NidBg, key.1) z.fields) (λ e. simp e) (λ v e. simp e (n (identity (country_at c key.1 z.fields) v) (named-among c key.1 v z.fields z.fields e))) in
    split_on (is_of QLinkorientation key) (λ e. simp (e, l)) (λ e. split_on (is_of QDir key) (λ q. simp (e, q, r)) (λ q. simp (e, q)))))
packet-same e m g t c p z h d n = packet-id z

head_false : (a b c : Bool) → (a && (b && (c && true))) ≡ false → ((c && true) && (a && b)) ≡ false
head_false a b true h = simp and-true at h
head_false a b false h = refl

pub head-same : (f : Item) → (m : Note) → (g : Tag) → (t : ℕ) → (hs : Fields) → (v : Var) → (x u : ℕ) → SteadyHead (SetHead g t v x) →
    Clear (f, m) (At g ∷ Nth t ∷ Head ∷ Of v ∷ []) → (same_var MDup v ≡ true → Clear (f, m) (At g ∷ Turn ∷ [])) →
    head_after f.1 g t hs (v, 0) u ≡ u
head-same (serial, SetHead g1 t1 v1 x1) m g t hs v x u l h d =
    let r : (same_key (v1, 0) (v, 0) && (same_tag g1 g && eqb t1 t)) ≡ false = head_false (same_tag g1 g) (eqb t1 t) (same_var v1 v) (h (At g1 ∷ Nth t1 ∷ Head ∷ Of v1 ∷ []) first_of) in simp r
head-same (serial, Renumber g1 y) m g t hs v x u l h d = let r = l.1 in simp r
head-same (serial, TurnGroup g1) m g t hs v x u l h d =
    let r = l.2 in split_on (same_var MDup v) (λ e. let q = turned-other serial g g1 m (d e) in simp (e, q, r)) (λ e. simp (e, r))
head-same f m g t hs v x u l h d = refl
