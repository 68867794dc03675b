-- A setting of a variable in a packet, read before and after another edit.
-- Proves that the packet's field keeps its value and the setting its note, forward and back.
-- From the places that a setting needs: the numbers that it has to do with, the link's own number, and the group's orientation.
use Rattle.std.proofs.Common.{◌≡◌, ℕ, true, false, List, [], ◌∷◌, filter, Some, refl, sym, ap, subst, ◌∙◌}
use Rattle.std.proofs.lemmas.Bool.{false≢true}
use Rattle.std.specs.Option.{option_map, unwrap_or}
use Rattle.balise_rules.specs.declared.tag.Tag.{Tag}
use Rattle.balise_rules.specs.declared.tag.Tag.TheVariants.{Fresh}
use Rattle.balise_rules.specs.declared.identity.Id.{Id}
use Rattle.balise_rules.specs.declared.variable.Var.{Var}
use Rattle.balise_rules.specs.declared.variable.Var.TheVariants.{NidC, NidBg, QDir, QLinkorientation, NPig, NTotal}
use Rattle.balise_rules.specs.Tagged.{find, each, Change, Put, Take, Move}
use Rattle.balise_rules.specs.Tags.{same_var, same_key}
use Rattle.balise_rules.specs.Forms.{Fields}
use Rattle.balise_rules.specs.Packet.{Packet, value}
use Rattle.balise_rules.specs.Names.{country_at, is_real}
use Rattle.balise_rules.specs.Edits.{Edit, Item, packet_after, field_after}
use Rattle.balise_rules.specs.declared.tagged_edit.TaggedEdit.TheVariants.{SetVar, SetHead, InsertPacket, DeletePacket, MovePacket}
use Rattle.balise_rules.specs.Notes.{Note, nothing, names_set, set_note}
use Rattle.balise_rules.specs.Accepting.{Lawful}
use Rattle.balise_rules.specs.Paths.{At, Nth, Of, Turn, Whose}
use Rattle.balise_rules.proofs.Tests.{split_on, var_test, flip_no}
use Rattle.balise_rules.proofs.Cases.{found}
use Rattle.balise_rules.proofs.Values.{value-each}
use Rattle.balise_edit_laws.proofs.FieldChanges.{country_stays}
use Rattle.balise_edit_laws.proofs.HeadChanges.{free_other}
use Rattle.balise_strike_laws.proofs.Fields.{identity}
use Rattle.balise_strike_laws.proofs.Headers.{SteadyHead}
use Rattle.balise_strike_laws.proofs.Levels.{keep}
use Rattle.balise_strike_laws.proofs.Places.{In, first_of, later_of, in-ids, Clear, Reads}
use Rattle.balise_rules.specs.Variables.{is_free_in_header}
use Rattle.balise_strike_laws.proofs.Named.{in-real}
use Rattle.balise_strike_laws.proofs.Kept.{Unnamed, RealOwn, RenApart, ren-apart, ren-apart-back, turn-apart, field-kept}

-- what an accepted edit sets in a header is neither country, number, place nor total
pub lawful-head : (f : Edit) → Lawful f → SteadyHead f
unfolding is_free_in_header
lawful-head (SetHead g t v x) l = (other NidC refl, other NidBg refl, other NPig refl, other NTotal refl)
  where
    other : (w : Var) → is_free_in_header w ≡ false → same_var w v ≡ false
    other w n = flip_no var_test v w (free_other v w l.0 n)
lawful-head e l = tt

-- what an edit does to the packets of its own telegram
abbrev pub own_change : Item → Change Tag Packet
own_change (s, InsertPacket g t a x) = Put a (Fresh s, x)
own_change (serial, DeletePacket g t p) = Take p
own_change (serial, MovePacket g t p a) = Move p a
own_change (s, e) = keep

module _ (serial : ℕ) (g : Tag) (t : ℕ) (p : Tag) (v : Var) (k x : ℕ) (n : Note) (f : Item) (m : Note) (r : Reads ((serial, SetVar g t p v k x), n) (f, m)) where
  -- the names that a setting reads
  pub read-name : same_var NidBg v ≡ true → (i : Id) → (is : List Id) → n.names ≡ filter is_real is → In i is → Unnamed (f, m) i
  read-name e i is q h w =
      let z : NidBg ≡ v = var_test.one NidBg v e in
      r (Whose i ∷ []) (later_of (rw (← z) (in-ids i n.names (rw q (in-real i is w h)))))

  pub read-link : same_var QLinkorientation v ≡ true → (i : Id) → (is : List Id) → n.names ≡ filter is_real is → In i is → Unnamed (f, m) i
  read-link e i is q h w =
      let z : QLinkorientation ≡ v = var_test.one QLinkorientation v e in
      r (Whose i ∷ []) (later_of (rw (← z) (later_of (in-ids i n.names (rw q (in-real i is w h))))))

  pub read-link-field : same_var QLinkorientation v ≡ true → Clear (f, m) (At g ∷ Nth t ∷ At p ∷ Of NidBg ∷ Nth k ∷ [])
  read-link-field e =
      let z : QLinkorientation ≡ v = var_test.one QLinkorientation v e in
      r (At g ∷ Nth t ∷ At p ∷ Of NidBg ∷ Nth k ∷ []) (later_of (rw (← z) first_of))

  pub read-dir : same_var QDir v ≡ true → Clear (f, m) (At g ∷ Turn ∷ [])
  read-dir e =
      let z : QDir ≡ v = var_test.one QDir v e in
      r (At g ∷ Turn ∷ []) (later_of (rw (← z) first_of))

  module _ (l : Lawful f.1) (own : RealOwn (f, m)) (c : ℕ) (z : Packet) (u : ℕ) (fu : find same_key (v, k) z.fields ≡ Some u) where
    -- the element's identity, with this number
    abbrev called : ℕ → Id
    called u1 = identity (country_at c k z.fields) u1

    abbrev pub fs1 : Fields
    fs1 = each (field_after f.1 m.own g t c p z.fields) z.fields

    country-same : country_at c k fs1 ≡ country_at c k z.fields
    country-same = country_stays f.1 l m.own g t c p k z.fields

    value-is : (w : Var) → value w k fs1 ≡ unwrap_or (option_map (field_after f.1 m.own g t c p z.fields (w, k)) (find same_key (w, k) z.fields)) 0
    value-is w = value-each (field_after f.1 m.own g t c p z.fields) w k z.fields

    -- the link's identity, where the orientation is set
    link-from : (same_var QLinkorientation v ≡ true → RenApart f m (called (value NidBg k z.fields))) → same_var QLinkorientation v ≡ true →
        value NidBg k fs1 ≡ value NidBg k z.fields
    link-from a e = value-is NidBg ∙ found (find same_key (NidBg, k) z.fields) (λ o. simp o)
        (λ w o. let b : RenApart f m (called w) = subst (λ i. RenApart f m (called (unwrap_or i 0))) o (a e) in
        simp o (field-kept f m g t c p z.fields NidBg k w (read-link-field e) (λ d. b) (λ d. absurd (false≢true d)) (λ d. absurd (false≢true d))))

    value-from : (same_var NidBg v ≡ true → RenApart f m (called u)) →
        (same_var QLinkorientation v ≡ true → (w : ℕ) → find same_key (NidBg, k) z.fields ≡ Some w → Unnamed (f, m) (called w)) →
        field_after f.1 m.own g t c p z.fields (v, k) u ≡ u
    value-from a b = field-kept f m g t c p z.fields v k u (r (At g ∷ Nth t ∷ At p ∷ Of v ∷ Nth k ∷ []) first_of) a
        (λ e. turn-apart f m c k z.fields own (b e)) (read-dir)

    note-from : field_after f.1 m.own g t c p z.fields (v, k) u ≡ u → (same_var QLinkorientation v ≡ true → value NidBg k fs1 ≡ value NidBg k z.fields) →
        set_note v k x c (Some (packet_after f.1 m.own g t c p z)) ≡ set_note v k x c (Some z)
    note-from a b = ap (λ o. record nothing { old = o; names = names_set v k x c fs1 }) values ∙ ap (λ ns. record nothing { old = value v k z.fields; names = ns }) lists where
      values : value v k fs1 ≡ value v k z.fields
      values = value-is v ∙ simp fu a

      lists : names_set v k x c fs1 ≡ names_set v k x c z.fields
      lists = split_on (same_var NidBg v) (λ e. simp (e, country-same, values)) (λ e. split_on (same_var QLinkorientation v) (λ d. let q = b d in simp (e, d, country-same, q)) (λ d. simp (e, d)))

    bg-not : same_var QLinkorientation v ≡ true → same_var NidBg v ≡ false
    bg-not e = let q : QLinkorientation ≡ v = var_test.one QLinkorientation v e in rw (← q) refl

    pub set-forward : n.names ≡ names_set v k x c z.fields → set_note v k x c (Some (packet_after f.1 m.own g t c p z)) ≡ set_note v k x c (Some z)
    set-forward ns = note-from (value-from (λ e. ren-apart f m (called u) own (bg e)) (λ e w o. subst (λ i. Unnamed (f, m) (called (unwrap_or i 0))) o (link e)))
        (link-from (λ e. ren-apart f m (called (value NidBg k z.fields)) own (link e)))
      where
        bg : same_var NidBg v ≡ true → Unnamed (f, m) (called u)
        bg e = subst (λ i. Unnamed (f, m) (called (unwrap_or i 0))) fu (read-name e (called (value v k z.fields)) (called (value v k z.fields) ∷ (called x) ∷ []) (ns ∙ simp e) first_of)

        link : same_var QLinkorientation v ≡ true → Unnamed (f, m) (called (value NidBg k z.fields))
        link e = let d = bg-not e in read-link e (called (value NidBg k z.fields)) (called (value NidBg k z.fields) ∷ []) (ns ∙ simp (d, e)) first_of

    pub set-back : n.names ≡ names_set v k x c fs1 → set_note v k x c (Some (packet_after f.1 m.own g t c p z)) ≡ set_note v k x c (Some z)
    set-back ns = note-from (value-from (λ e. ren-apart-back f m g t c p z.fields v k u e l (bg e))
        (λ e w o. subst (λ i. Unnamed (f, m) (called (unwrap_or i 0))) o (subst (λ i. Unnamed (f, m) (called i)) (kept e) (link e))))
        kept
      where
        bg : same_var NidBg v ≡ true → Unnamed (f, m) (called (field_after f.1 m.own g t c p z.fields (v, k) u))
        bg e =
            let a = read-name e (identity (country_at c k fs1) (value v k fs1)) ((identity (country_at c k fs1) (value v k fs1)) ∷ (identity (country_at c k fs1) x) ∷ []) (ns ∙ simp e) first_of in
            let b = subst (λ i. Unnamed (f, m) (identity i (value v k fs1))) country-same a in
            subst (λ i. Unnamed (f, m) (called i)) (value-is v ∙ simp fu) b

        link : same_var QLinkorientation v ≡ true → Unnamed (f, m) (called (value NidBg k fs1))
        link e = let d = bg-not e in
            let a = read-link e (identity (country_at c k fs1) (value NidBg k fs1)) ((identity (country_at c k fs1) (value NidBg k fs1)) ∷ []) (ns ∙ simp (d, e)) first_of in
            subst (λ i. Unnamed (f, m) (identity i (value NidBg k fs1))) country-same a

        kept : same_var QLinkorientation v ≡ true → value NidBg k fs1 ≡ value NidBg k z.fields
        kept e = link-from (λ d. found (find same_key (NidBg, k) z.fields)
            (λ o. let q : value NidBg k fs1 ≡ value NidBg k z.fields = value-is NidBg ∙ simp o in ren-apart f m (called (value NidBg k z.fields)) own (subst (λ i. Unnamed (f, m) (called i)) q (link d)))
            (λ w o. let q : value NidBg k fs1 ≡ field_after f.1 m.own g t c p z.fields (NidBg, k) w = value-is NidBg ∙ simp o in
            let b = ren-apart-back f m g t c p z.fields NidBg k w refl l (subst (λ i. Unnamed (f, m) (called i)) q (link d)) in
            subst (λ i. RenApart f m (called (unwrap_or i 0))) (sym o) b)) e
