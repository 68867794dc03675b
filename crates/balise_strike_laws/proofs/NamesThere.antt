-- Names in a telegram, before and after any edit.
-- Proves that an element that names an identity names it on the other side too, or the edit changes or needs that identity.
-- From the kinds: a setting and a renumbering give another name, an insertion and a deletion put names in and take them out, and each notes them.
use Rattle.std.proofs.Common.{◌≡◌, ℕ, ◌⊎◌, inl, inr, ⊎_elim, true, false, ◌&&◌, eqb, List, [], ◌∷◌, ◌++◌, filter, Some, None, refl, sym, ap, subst, ◌∙◌, Bool}
use Rattle.std.proofs.lemmas.Bool.{both_ways}
use Rattle.std.specs.Option.{option_map, unwrap_or}
use Rattle.balise_rules.specs.declared.tag.Tag.{Tag}
use Rattle.balise_rules.specs.declared.tag.Tag.TheVariants.{Fresh}
use Rattle.balise_rules.specs.declared.identity.Id.{Id}
use Rattle.balise_rules.specs.declared.variable.Var.{Var}
use Rattle.balise_rules.specs.declared.variable.Var.TheVariants.{NidBg}
use Rattle.balise_rules.specs.Tagged.{find, put, without}
use Rattle.balise_rules.specs.Tags.{same_tag, same_id, same_var, same_key, Key}
use Rattle.balise_rules.specs.Forms.{Fields}
use Rattle.balise_rules.specs.Packet.{Packet, value}
use Rattle.balise_rules.specs.Telegram.{Telegram}
use Rattle.balise_rules.specs.Plan.{Group, Plan, country_of, telegram_at}
use Rattle.balise_rules.specs.Names.{country_at, is_real, links_among, names_of, names_in_packets, names_in}
use Rattle.balise_rules.specs.Edits.{Item, telegram_after, packet_after, field_after, packets_change}
use Rattle.balise_rules.specs.declared.tagged_edit.TaggedEdit.TheVariants.{SetVar, InsertPacket, DeletePacket, MovePacket, Renumber}
use Rattle.balise_rules.specs.Notes.{Note, names_taken, note_at, noted}
use Rattle.balise_rules.specs.Accepting.{NoName, AcceptedIn, AcceptedAt, Accepted, Unused}
use Rattle.balise_rules.specs.Paths.{Whose, Entry, changes, needs}
use Rattle.balise_rules.proofs.Tests.{split_on, split_keys, tag_test, var_test, id_test, IsTest, nat_test}
use Rattle.balise_rules.proofs.Lists.{find-without_same}
use Rattle.balise_rules.proofs.Cases.{unsome, some_is}
use Rattle.balise_rules.proofs.Anchors.{find-put_same}
use Rattle.balise_rules.proofs.Names.{unnamed}
use Rattle.balise_rules.proofs.Found.{place_is}
use Rattle.balise_edit_laws.proofs.FieldChanges.{country_stays}
use Rattle.balise_strike_laws.proofs.Fields.{identity, find-fields, at_key}
use Rattle.balise_strike_laws.proofs.Headers.{country-kept}
use Rattle.balise_strike_laws.proofs.Places.{In, first_of, later_of, in-left, in-right, in-ids}
use Rattle.balise_strike_laws.proofs.Facts.{Facts}
use Rattle.balise_strike_laws.proofs.Named.{in-real, named-among}
use Rattle.balise_strike_laws.proofs.Writers.{Spares, find-change, by-packets}
use Rattle.balise_strike_laws.proofs.Settings.{lawful-head}
use Rattle.balise_strike_laws.proofs.Locals.{accepts-there}
use Rattle.balise_strike_laws.proofs.Results.{set-noted}

abbrev pub InPacket : ℕ → Fields → Id → Type 0
InPacket c fs q = (k : ℕ) × (v : ℕ) × (find same_key (NidBg, k) fs ≡ Some v) × (◌≡◌ {A = Id} (identity (country_at c k fs) v) q)

abbrev pub InTelegram : Telegram → Id → Type 0
InTelegram y q = (p : Tag) × (z : Packet) × (find same_tag p y.packets ≡ Some z) × InPacket (country_of y) z.fields q

abbrev pub InPlan : Plan → Id → Type 0
InPlan plan q = (g : Tag) × (t : ℕ) × (y : Telegram) × (telegram_at g t plan ≡ Some y) × InTelegram y q

pub no-name-from : (i : Id) → (plan : Plan) → ((q : Id) → InPlan plan q → same_id q i ≡ false) → NoName i plan
no-name-from i plan h g t p k w = both_ways (same_id i i) (h i (g, t, w.telegram, w.stands, (p, w.packet, w.has_packet, (k, i.number, w.number, ap (λ c. identity c i.number) w.country)))) (id_test.itself i)

pub no-name-at : (i : Id) → is_real i ≡ true → (plan : Plan) → NoName i plan → (q : Id) → InPlan plan q → same_id q i ≡ false
no-name-at i real plan h q (g, t, y, a, (p, z, b, (k, v, d, e))) = ap (λ u. same_id u i) (sym e) ∙ unnamed i plan h real g t y a p z b k v d

-- f changes or needs this name, or it is 16383
abbrev pub Touched : Entry → Id → Type 0
Touched (f, m) q = is_real q ≡ true → In (Whose q ∷ []) (changes (f, m) ++ needs (f, m))

touched-names : (f : Item) → (m : Note) → (is : List Id) → m.names ≡ filter is_real is → ((q : Id) → In q m.names → In (Whose q ∷ []) (needs (f, m))) → (q : Id) →
    In q is → Touched (f, m) q
touched-names f m is e k q i n = in-right (Whose q ∷ []) (changes (f, m)) (needs (f, m)) (k q (rw e (in-real q is n i)))

in-names : (c : ℕ) → (fs : Fields) → (q : Id) → InPacket c fs q → In q (links_among c fs fs)
in-names c fs q (k, v, d, e) = subst (λ u. In u (links_among c fs fs)) e (named-among c k v fs fs d)

-- what is found under a key stands in the list with it
found-in : {K A : Type 0} {same : K → K → Bool} → IsTest same → (k : K) → (x : A) → (xs : List (K × A)) → find same k xs ≡ Some x → In (k, x) xs
found-in t k x [] h = absurd (cc)
found-in {same = same} t k x (y ∷ ys) h = split_keys t k y.0
    (λ e q. let w : Some y.1 ≡ Some x = simp e at h in subst (λ v. In (k, v) (y ∷ ys)) (unsome w) (subst (λ u. In (u, y.1) (y ∷ ys)) (sym q) first_of))
    (λ e. let w : find same k ys ≡ Some x = simp e at h in later_of (found-in t k x ys w))

pub in-packets-at : (c : ℕ) → (ps : List (Tag × Packet)) → (p : Tag) → (z : Packet) → In (p, z) ps → (q : Id) → In q (names_of c z) → In q (names_in_packets c ps)
in-packets-at c [] p z i q j = elim i [ ]
in-packets-at c ((p1, z1) ∷ ps) p z (first_of) q j = in-left q (names_of c z1) (names_in_packets c ps) j
in-packets-at c (w ∷ ps) p z (later_of i) q j = in-right q (names_of c w.1) (names_in_packets c ps) (in-packets-at c ps p z i q j)

pub in-group-at : (xs : Group) → (t : ℕ) → (y : Telegram) → In (t, y) xs → (q : Id) → In q (names_in_packets (country_of y) y.packets) → In q (names_in xs)
in-group-at [] t y i q j = elim i [ ]
in-group-at ((t1, y1) ∷ xs) t y (first_of) q j = in-left q (names_in_packets (country_of y1) y1.packets) (names_in xs) j
in-group-at (w ∷ xs) t y (later_of i) q j = in-right q (names_in_packets (country_of w.1) w.1.packets) (names_in xs) (in-group-at xs t y i q j)

pub group-names : (xs : Group) → (t : ℕ) → (y : Telegram) → find eqb t xs ≡ Some y → (q : Id) → InTelegram y q → is_real q ≡ true → In q (names_in xs)
group-names xs t y h q (p, z, b, w) n = in-group-at xs t y (found-in nat_test t y xs h) q (in-packets-at (country_of y) y.packets p z (found-in tag_test p z y.packets b) q (in-real q (links_among (country_of y) z.fields z.fields) n (in-names (country_of y) z.fields q w)))

needs-name : (serial : ℕ) → (g : Tag) → (t : ℕ) → (p : Tag) → (v : Var) → (k x : ℕ) → (n : Note) → NidBg ≡ v → (q : Id) → In q n.names →
    In (Whose q ∷ []) (needs ((serial, SetVar g t p v k x), n))
needs-name serial g t p v k x n z q i = rw (← z) (in-ids q n.names i)

module _ (plan : Plan) (s : Facts plan) (f : Item) (a : Accepted f.1 plan) (un : Unused f.0 plan) where
  abbrev m0 : Note
  m0 = noted f.1 plan

  abbrev Either : Type 0 → Id → Type 0
  Either P q = P ⊎ Touched (f, m0) q

  module _ (g : Tag) (t : ℕ) (y : Telegram) (at : telegram_at g t plan ≡ Some y) where
    abbrev c0 : ℕ
    c0 = country_of y

    abbrev y1 : Telegram
    y1 = telegram_after f m0.own g t y

    value-cases : (p : Tag) → (z : Packet) → find same_tag p y.packets ≡ Some z → (k v : ℕ) → find same_key (NidBg, k) z.fields ≡ Some v →
        (field_after f.1 m0.own g t c0 p z.fields (NidBg, k) v ≡ v) ⊎ (Touched (f, m0) (identity (country_at c0 k z.fields) v) × Touched (f, m0) (identity (country_at c0 k z.fields) (field_after f.1 m0.own g t c0 p z.fields (NidBg, k) v)))
    value-cases p z h k v d = cases f a where
      cases : (f : Item) → Accepted f.1 plan →
          (field_after f.1 (noted f.1 plan).own g t c0 p z.fields (NidBg, k) v ≡ v) ⊎ (Touched (f, noted f.1 plan) (identity (country_at c0 k z.fields) v) × Touched (f, noted f.1 plan) (identity (country_at c0 k z.fields) (field_after f.1 (noted f.1 plan).own g t c0 p z.fields (NidBg, k) v)))
      cases (serial0, SetVar g0 t0 p0 v0 k0 x) a =
          split_on (same_tag g0 g && (eqb t0 t && (same_tag p0 p && same_key (v0, k0) (NidBg, k))))
          (λ e. let f0 : Item = (serial0, SetVar g0 t0 p0 v0 k0 x) in
          let q = at_key g g0 t t0 p p0 (NidBg, k) v0 k0 e in
          let bg : same_var NidBg v0 ≡ true = ap (λ (u : Key). same_var NidBg u.0) q.1 in
          let n = set-noted g0 t0 p0 v0 k0 x plan g t p y z at h q.0 in
          let both = touched-names f0 (noted f0.1 plan) (identity (country_at c0 k0 z.fields) (value v0 k0 z.fields) ∷ identity (country_at c0 k0 z.fields) x ∷ []) (ap (λ o. o.names) n ∙ simp bg)
          (λ i l. needs-name serial0 g0 t0 p0 v0 k0 x (noted f0.1 plan) (var_test.one NidBg v0 bg) i l) in
          inr (
            subst (λ u. Touched (f0, noted f0.1 plan) (identity (country_at c0 k z.fields) u)) (ap (λ o. unwrap_or o 0) d)
                (subst (λ (u : Key). Touched (f0, noted f0.1 plan) (identity (country_at c0 u.1 z.fields) (value u.0 u.1 z.fields))) q.1 (both _ first_of)),
            simp e (subst (λ (u : Key). Touched (f0, noted f0.1 plan) (identity (country_at c0 u.1 z.fields) x)) q.1 (both _ (later_of first_of))),
          ))
          (λ e. inl (simp e))
      cases (serial1, Renumber g1 x) a =
          split_on (same_id (identity (country_at c0 k z.fields) v) (noted (Renumber g1 x) plan).own)
          (λ e. let q = id_test.one (identity (country_at c0 k z.fields) v) (noted (Renumber g1 x) plan).own e in
          inr (
            subst (Touched ((serial1, Renumber g1 x), noted (Renumber g1 x) plan)) (sym q) (λ n. later_of first_of),
            simp e (subst (λ u. Touched ((serial1, Renumber g1 x), noted (Renumber g1 x) plan) (identity u.country x)) (sym q) (λ n. later_of (later_of first_of))),
          ))
          (λ e. inl (simp e))
      cases f a = inl refl

    country-in : (p : Tag) → (z : Packet) → (k : ℕ) → country_at (country_of y1) k (packet_after f.1 m0.own g t c0 p z).fields ≡ country_at c0 k z.fields
    country-in p z k = ap (λ c. country_at c k (packet_after f.1 m0.own g t c0 p z).fields) (country-kept f.1 (lawful-head f.1 a.0) g t y.head) ∙ country_stays f.1 a.0 m0.own g t c0 p k z.fields

    packet-back : (p : Tag) → (z : Packet) → find same_tag p y.packets ≡ Some z → (q : Id) → InPacket c0 z.fields q →
        Either (InPacket (country_of y1) (packet_after f.1 m0.own g t c0 p z).fields q) q
    packet-back p z h q (k, v, d, e) = ⊎_elim
        (λ n. inl (k, v, find-fields (field_after f.1 m0.own g t c0 p z.fields) NidBg k z.fields ∙ ap (option_map (field_after f.1 m0.own g t c0 p z.fields (NidBg, k))) d ∙ ap Some n, ap (λ c. (identity c v)) (country-in p z k) ∙ e))
        (λ n. inr (subst (Touched (f, m0)) e n.0))
        (value-cases p z h k v d)

    packet-forward : (p : Tag) → (z : Packet) → find same_tag p y.packets ≡ Some z → (q : Id) → InPacket (country_of y1) (packet_after f.1 m0.own g t c0 p z).fields q →
        Either (InPacket c0 z.fields q) q
    packet-forward p z h q (k, v, d, e) =
        some_is (find same_key (NidBg, k) z.fields) (field_after f.1 m0.own g t c0 p z.fields (NidBg, k)) v (sym (find-fields (field_after f.1 m0.own g t c0 p z.fields) NidBg k z.fields) ∙ d)
        (λ u n w. let e1 = ap (λ c. (identity c v)) (sym (country-in p z k)) ∙ e in
        ⊎_elim (λ r. inl (k, u, n, ap (λ c. (identity (country_at c0 k z.fields) c)) (sym r ∙ sym w) ∙ e1))
        (λ r. inr (subst (Touched (f, m0)) (ap (λ c. (identity (country_at c0 k z.fields) c)) (sym w) ∙ e1) r.1))
        (value-cases p z h k u n))

-- the packet that an insertion puts in, or a deletion takes out
abbrev pub SpecialAt : Item → Note → Telegram → Telegram → Tag → Type 0
SpecialAt f m y z p = ((x : Packet) → find same_tag p y.packets ≡ Some x → (q : Id) → InPacket (country_of y) x.fields q → Touched (f, m) q) ×
    ((x : Packet) → find same_tag p z.packets ≡ Some x → (q : Id) → InPacket (country_of y) x.fields q → Touched (f, m) q)

special : (plan : Plan) → (f : Item) → Accepted f.1 plan → Unused f.0 plan → (g : Tag) → (t : ℕ) → (y : Telegram) → telegram_at g t plan ≡ Some y → (p : Tag) →
    Spares (packets_change f (noted f.1 plan).own g t (country_of y)) p ⊎ SpecialAt f (noted f.1 plan) y (telegram_after f (noted f.1 plan).own g t y) p
special plan (s1, InsertPacket g1 t1 a1 x1) a un g t y at p =
    split_on (same_tag g1 g && eqb t1 t)
    (λ e. split_keys tag_test p (Fresh s1)
    (λ d r0. let r : Fresh s1 ≡ p = sym r0 in let home_is = place_is g1 g t1 t plan e ∙ at in
    let none : find same_tag (Fresh s1) y.packets ≡ None = un.packets g1 t1 y home_is in
    let stands : AcceptedIn (InsertPacket g1 t1 a1 x1) y = subst (AcceptedAt (InsertPacket g1 t1 a1 x1)) home_is a.1 in
    let n = ap (note_at (InsertPacket g1 t1 a1 x1)) home_is in
    inr (
      (λ x h q w. absurd (let k : find same_tag (Fresh s1) y.packets ≡ Some x = ap (λ u. find same_tag u y.packets) r ∙ h in let b = sym k ∙ none in cc)),
      (λ x h q w. let k0 : find same_tag p (put same_tag a1 (Fresh s1, x1) y.packets) ≡ Some x = simp e at h in
          let k : Some x1 ≡ Some x = sym (find-put_same a1 (Fresh s1, x1) y.packets stands.0 none) ∙ ap (λ u. find same_tag u (put same_tag a1 (Fresh s1, x1) y.packets)) r ∙ k0 in
          touched-names (s1, InsertPacket g1 t1 a1 x1) (noted (InsertPacket g1 t1 a1 x1) plan) (links_among (country_of y) x1.fields x1.fields) (ap (λ o. o.names) n)
          (λ q i. later_of (in-ids q (noted (InsertPacket g1 t1 a1 x1) plan).names i)) q
          (in-names (country_of y) x1.fields q (subst (λ u. InPacket (country_of y) u.fields q) (sym (unsome k)) w))),
    ))
    (λ d. inl (simp e d)))
    (λ e. inl (simp e tt))
special plan (serial1, DeletePacket g1 t1 p1) a un g t y at p =
    split_on (same_tag g1 g && eqb t1 t)
    (λ e. split_keys tag_test p p1
    (λ d r0. let r : p1 ≡ p = sym r0 in let home_is = place_is g1 g t1 t plan e ∙ at in
    let n = ap (note_at (DeletePacket g1 t1 p1)) home_is in
    inr (
      (λ x h q w. let k : find same_tag p1 y.packets ≡ Some x = ap (λ u. find same_tag u y.packets) r ∙ h in
          touched-names (serial1, DeletePacket g1 t1 p1) (noted (DeletePacket g1 t1 p1) plan) (links_among (country_of y) x.fields x.fields) (ap (λ o. o.names) n ∙ ap (names_taken (country_of y)) k)
          (λ q i. later_of (in-ids q (noted (DeletePacket g1 t1 p1) plan).names i)) q (in-names (country_of y) x.fields q w)),
      (λ x h q w. absurd (let k0 : find same_tag p (without same_tag p1 y.packets) ≡ Some x = simp e at h in
          let b = sym (ap (λ u. find same_tag p (without same_tag u y.packets)) r ∙ find-without_same same_tag p y.packets) ∙ k0 in cc)),
    ))
    (λ d. inl (simp e d)))
    (λ e. inl (simp e tt))
special plan (serial1, MovePacket g1 t1 p1 a1) a un g t y at p = inl (split_on (same_tag g1 g && eqb t1 t) (λ e. simp e tt) (λ e. simp e tt))
special plan f a un g t y at p = inl tt

module _ (plan : Plan) (s : Facts plan) (f : Item) (a : Accepted f.1 plan) (un : Unused f.0 plan) (g : Tag) (t : ℕ) (y : Telegram) (at : telegram_at g t plan ≡ Some y) where
  abbrev y2 : Telegram
  y2 = telegram_after f (noted f.1 plan).own g t y

  same-country : country_of y2 ≡ country_of y
  same-country = country-kept f.1 (lawful-head f.1 a.0) g t y.head

  found-there : (p : Tag) → Spares (packets_change f (noted f.1 plan).own g t (country_of y)) p →
      find same_tag p y2.packets ≡ option_map (packet_after f.1 (noted f.1 plan).own g t (country_of y) p) (find same_tag p y.packets)
  found-there p n = find-change (packets_change f (noted f.1 plan).own g t (country_of y)) p y.packets (accepts-there f (noted f.1 plan).own g t (country_of y) plan a.1 y at) n
      ∙ by-packets f (noted f.1 plan).own g t (country_of y) p (find same_tag p y.packets)

  pub telegram-back : (q : Id) → InTelegram y q → InTelegram y2 q ⊎ Touched (f, noted f.1 plan) q
  telegram-back q (p, z, b, w) = ⊎_elim
      (λ n. ⊎_elim (λ r. inl (p, packet_after f.1 (noted f.1 plan).own g t (country_of y) p z, found-there p n ∙ ap (option_map (packet_after f.1 (noted f.1 plan).own g t (country_of y) p)) b, r)) (λ r. inr r)
      (packet-back plan s f a un g t y at p z b q w))
      (λ n. inr (n.0 z b q w))
      (special plan f a un g t y at p)

  pub telegram-forward : (q : Id) → InTelegram y2 q → InTelegram y q ⊎ Touched (f, noted f.1 plan) q
  telegram-forward q (p, x, b, w) = ⊎_elim
      (λ n. some_is (find same_tag p y.packets) (packet_after f.1 (noted f.1 plan).own g t (country_of y) p) x (sym (found-there p n) ∙ b)
      (λ z h d. ⊎_elim (λ r. inl (p, z, h, r)) (λ r. inr r) (packet-forward plan s f a un g t y at p z h q (subst (λ u. InPacket (country_of y2) u.fields q) d w))))
      (λ n. inr (n.1 x b q (subst (λ c. InPacket c x.fields q) same-country w)))
      (special plan f a un g t y at p)
