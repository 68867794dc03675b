-- The five edits of one telegram, read before and after any edit.
-- Proves, for each of them, that it is accepted in the telegram and notes there the same, forward and back.
-- From what any edit leaves: the fields, the packet, the header's field, and what comes after an anchor.
use Rattle.std.proofs.Common.{◌≡◌, ℕ, ◌+◌, ◌≤◌, true, false, List, [], ◌∷◌, length, filter, Option, Some, sym, ap, ◌∙◌}
use Rattle.std.specs.Option.{option_map, unwrap_or}
use Rattle.balise_rules.specs.declared.tag.Tag.{Tag}
use Rattle.balise_rules.specs.declared.tag.Tag.TheVariants.{Base, Fresh}
use Rattle.balise_rules.specs.declared.identity.Id.{Id}
use Rattle.balise_rules.specs.Tagged.{find, behind, Distinct, Put, Take, Move}
use Rattle.balise_rules.specs.Tags.{same_tag, same_key}
use Rattle.balise_rules.specs.Packet.{Packet, width}
use Rattle.balise_rules.specs.Telegram.{Telegram, used}
use Rattle.balise_rules.specs.Plan.{country_of}
use Rattle.balise_rules.specs.Names.{is_real, links_among, names_of}
use Rattle.balise_rules.specs.Edits.{Edit, Item, telegram_after, packet_after, field_after, head_after, packets_change}
use Rattle.balise_rules.specs.declared.tagged_edit.TaggedEdit.TheVariants.{SetVar, SetHead, InsertPacket, DeletePacket, MovePacket, AddGroup, DropGroup, Renumber, TurnGroup}
use Rattle.balise_rules.specs.Notes.{Note, nothing, set_note, names_taken, note_in}
use Rattle.balise_rules.specs.Accepting.{Lawful, AcceptedIn}
use Rattle.balise_rules.specs.Paths.{At, Nth, Of, After, Front, Turn, Head, Whose, anchor, neighbour}
use Rattle.balise_rules.proofs.Cases.{some_is}
use Rattle.balise_strike_laws.proofs.Fields.{find-fields}
use Rattle.balise_strike_laws.proofs.Headers.{country-kept}
use Rattle.balise_strike_laws.proofs.Neighbours.{Accepts, noted_change, takes, takes_out, Leaves, Differ, noted-forward, noted-back, accepts-back, accepts-forward}
use Rattle.balise_strike_laws.proofs.Places.{In, first_of, later_of, in-ids, clear-longer, Reads}
use Rattle.balise_strike_laws.proofs.Named.{in-real}
use Rattle.balise_strike_laws.proofs.Writers.{clear-free, clear-takes, packet-found}
use Rattle.balise_strike_laws.proofs.Kept.{Unnamed, RealOwn, names-apart, names-apart-back, packet-same, head-same}
use Rattle.balise_strike_laws.proofs.Settings.{lawful-head, own_change, set-forward, set-back}

-- the edits of one telegram, and which
abbrev pub Local : Edit → Type 0
Local (SetVar g t p v k x) = Unit {0}
Local (SetHead g t v x) = Unit {0}
Local (InsertPacket g t a x) = Unit {0}
Local (DeletePacket g t p) = Unit {0}
Local (MovePacket g t p a) = Unit {0}
Local e = ⊥

abbrev pub home : Edit → Tag × ℕ
home (SetVar g t p v k x) = (g, t)
home (SetHead g t v x) = (g, t)
home (InsertPacket g t a x) = (g, t)
home (DeletePacket g t p) = (g, t)
home (MovePacket g t p a) = (g, t)
home (AddGroup a bs) = (Base 0, 0)
home (DropGroup g) = (g, 0)
home (Renumber g x) = (g, 0)
home (TurnGroup g) = (g, 0)

-- what e reads of the packets is left alone
pub leaves : (e : Item) → Local e.1 → (n : Note) → (f : Item) → (m : Note) → (c : ℕ) → Reads (e, n) (f, m) →
    Leaves (packets_change f m.own (home e.1).0 (home e.1).1 c) (own_change e) n.before
leaves (s, InsertPacket g t a x) h n f m c r = clear-free f m m.own g t c a (r (At g ∷ Nth t ∷ anchor a ∷ After ∷ []) (later_of first_of))
leaves (serial, DeletePacket g t p) h n f m c r = (
  clear-free f m m.own g t c (Some p) (clear-longer (f, m) (At g ∷ Nth t ∷ At p ∷ []) (After ∷ []) (r (At g ∷ Nth t ∷ At p ∷ []) first_of)),
  clear-takes f m m.own g t c n.before (r (At g ∷ Nth t ∷ neighbour n.before ∷ Front ∷ []) (later_of first_of)),
)
leaves (serial, MovePacket g t p a) h n f m c r = (
  clear-free f m m.own g t c (Some p) (r (At g ∷ Nth t ∷ At p ∷ After ∷ []) (later_of first_of)),
  clear-takes f m m.own g t c n.before (r (At g ∷ Nth t ∷ neighbour n.before ∷ Front ∷ []) (later_of (later_of first_of))),
  clear-free f m m.own g t c a (r (At g ∷ Nth t ∷ anchor a ∷ After ∷ []) (later_of (later_of (later_of first_of)))),
)
leaves e h n f m c r = tt

-- names that a deletion or an insertion reads
pub read-names-delete : (serial : ℕ) → (g : Tag) → (t : ℕ) → (p : Tag) → (n : Note) → (f : Item) → (m : Note) → Reads ((serial, DeletePacket g t p), n) (f, m) →
    (is : List Id) → n.names ≡ filter is_real is → (q : Id) → In q is → Unnamed (f, m) q
read-names-delete serial g t p n f m r is e q i w = r (Whose q ∷ []) (later_of (later_of (later_of (in-ids q n.names (rw e (in-real q is w i))))))

pub read-names-insert : (s : ℕ) → (g : Tag) → (t : ℕ) → (a : Option Tag) → (x : Packet) → (n : Note) → (f : Item) → (m : Note) →
    Reads ((s, InsertPacket g t a x), n) (f, m) → (is : List Id) → n.names ≡ filter is_real is → (q : Id) → In q is → Unnamed (f, m) q
read-names-insert s g t a x n f m r is e q i w = r (Whose q ∷ []) (later_of (later_of (later_of (in-ids q n.names (rw e (in-real q is w i))))))

abbrev pub noted_before : Item → Telegram → Option Tag
noted_before e y = noted_change (own_change e) y.packets

abbrev pub Room : Item → Telegram → Type 0
Room (s, InsertPacket g t a x) y = used y.packets + width x ≤ length y.padding
Room (s, e) y = Unit {0}

abbrev pub Kept : Item → Telegram → Telegram → Type 0
Kept e y z = AcceptedIn e.1 z × (note_in e.1 z ≡ note_in e.1 y)

module _ (f : Item) (m : Note) (l : Lawful f.1) (own : RealOwn (f, m)) where
  abbrev now : Tag → ℕ → Telegram → Telegram
  now g t y = telegram_after f m.own g t y

  country-stays : (g : Tag) → (t : ℕ) → (y : Telegram) → country_of (now g t y) ≡ country_of y
  country-stays g t y = country-kept f.1 (lawful-head f.1 l) g t y.head

  -- forward: from before f to after it
  pub forward-in : (e : Item) → Local e.1 → Lawful e.1 → (y : Telegram) → AcceptedIn e.1 y → Reads (e, note_in e.1 y) (f, m) →
      Accepts (packets_change f m.own (home e.1).0 (home e.1).1 (country_of y)) y.packets → Distinct same_tag y.packets →
      (takes_out (packets_change f m.own (home e.1).0 (home e.1).1 (country_of y)) ≡ true → takes (own_change e) (noted_change (packets_change f m.own (home e.1).0 (home e.1).1 (country_of y)) y.packets) ≡ false) →
      Room e (now (home e.1).0 (home e.1).1 y) → Kept e y (now (home e.1).0 (home e.1).1 y)
  forward-in (serial, SetVar g t p v k x) h le y a r s u w room =
      let q = packet-found f m m.own g t p (Of v ∷ Nth k ∷ []) y s (r (At g ∷ Nth t ∷ At p ∷ Of v ∷ Nth k ∷ []) first_of) ∙ ap (option_map (packet_after f.1 m.own g t (country_of y) p)) a.1 in
      let field = find-fields (field_after f.1 m.own g t (country_of y) p a.0.fields) v k a.0.fields ∙ ap (option_map (field_after f.1 m.own g t (country_of y) p a.0.fields (v, k))) a.2.1 in (
        (packet_after f.1 m.own g t (country_of y) p a.0, q, (field_after f.1 m.own g t (country_of y) p a.0.fields (v, k) a.2.0, field)),
        (ap (λ c. set_note v k x c (find same_tag p (now g t y).packets)) (country-stays g t y) ∙ ap (set_note v k x (country_of y)) q
            ∙ set-forward serial g t p v k x (note_in (SetVar g t p v k x) y) f m r l own (country_of y) a.0 a.2.0 a.2.1 (ap (λ o. (set_note v k x (country_of y) o).names) a.1)
            ∙ ap (set_note v k x (country_of y)) (sym a.1)),
      )
  forward-in (serial, SetHead g t v x) h le y a r s u w room =
      let q = find-fields (head_after f.1 g t y.head) v 0 y.head ∙ ap (option_map (head_after f.1 g t y.head (v, 0))) a.1
      ∙ ap Some (head-same f m g t y.head v x a.0 (lawful-head (SetHead g t v x) le) (r (At g ∷ Nth t ∷ Head ∷ Of v ∷ []) first_of) (λ e. r (At g ∷ Turn ∷ []) (later_of (simp e first_of)))) in
      ((a.0, q), ap (λ o. record nothing { old = unwrap_or o 0 }) (q ∙ sym a.1))
  forward-in (s0, InsertPacket g t b x) h le y a r s u w room =
      let lv = leaves (s0, InsertPacket g t b x) tt (note_in (InsertPacket g t b x) y) f m (country_of y) r in (
        (accepts-forward (Put b (Fresh s0, x)) (packets_change f m.own g t (country_of y)) y.packets u lv w a.0, room),
        ap (λ c. record nothing { names = names_of c x }) (country-stays g t y),
      )
  forward-in (serial, DeletePacket g t p) h le y a r s u w room =
      let e1 = DeletePacket g t p in
      let lv = leaves (serial, e1) tt (note_in e1 y) f m (country_of y) r in
      let q = packet-found f m m.own g t p (After ∷ []) y s (clear-longer (f, m) (At g ∷ Nth t ∷ At p ∷ []) (After ∷ []) (r (At g ∷ Nth t ∷ At p ∷ []) first_of)) ∙ ap (option_map (packet_after f.1 m.own g t (country_of y) p)) a.1 in
      let k = packet-same f m g t (country_of y) p a.0 (r (At g ∷ Nth t ∷ At p ∷ []) first_of) (r (At g ∷ Turn ∷ []) (later_of (later_of first_of)))
      (names-apart f m (country_of y) a.0.fields own (read-names-delete serial g t p (note_in e1 y) f m r (links_among (country_of y) a.0.fields a.0.fields) (ap (names_taken (country_of y)) a.1))) in
      let same_packet : find same_tag p (now g t y).packets ≡ find same_tag p y.packets = q ∙ ap Some k ∙ sym a.1 in
      let same_next : behind same_tag p (now g t y).packets ≡ behind same_tag p y.packets = noted-forward (Take p) (packets_change f m.own g t (country_of y)) y.packets lv in (
        (a.0, same_packet ∙ a.1),
        (ap (λ c. record nothing { before = behind same_tag p (now g t y).packets; names = names_taken c (find same_tag p (now g t y).packets); packet = find same_tag p (now g t y).packets }) (country-stays g t y)
            ∙ ap (λ o. record nothing { before = behind same_tag p (now g t y).packets; names = names_taken (country_of y) o; packet = o }) same_packet
            ∙ ap (λ b. record nothing { before = b; names = names_taken (country_of y) (find same_tag p y.packets); packet = find same_tag p y.packets }) same_next),
      )
  forward-in (serial, MovePacket g t p b) h le y a r s u w room =
      let lv = leaves (serial, MovePacket g t p b) tt (note_in (MovePacket g t p b) y) f m (country_of y) r in (
        accepts-forward (Move p b) (packets_change f m.own g t (country_of y)) y.packets u lv w a,
        ap (λ b. record nothing { before = b }) (noted-forward (Move p b) (packets_change f m.own g t (country_of y)) y.packets lv),
      )
  forward-in e h le y a r s u w room = absurd h

  -- back: from after f to before it
  pub back-in : (e : Item) → Local e.1 → Lawful e.1 → (y : Telegram) → AcceptedIn e.1 (now (home e.1).0 (home e.1).1 y) →
      Reads (e, note_in e.1 (now (home e.1).0 (home e.1).1 y)) (f, m) → Accepts (packets_change f m.own (home e.1).0 (home e.1).1 (country_of y)) y.packets →
      Distinct same_tag y.packets →
      Differ (packets_change f m.own (home e.1).0 (home e.1).1 (country_of y)) (own_change e) (noted_change (packets_change f m.own (home e.1).0 (home e.1).1 (country_of y)) y.packets) (noted_before e (now (home e.1).0 (home e.1).1 y)) →
      Room e y → AcceptedIn e.1 y × (note_in e.1 (now (home e.1).0 (home e.1).1 y) ≡ note_in e.1 y)
  back-in (serial, SetVar g t p v k x) h le y a r s u w room =
      let q = packet-found f m m.own g t p (Of v ∷ Nth k ∷ []) y s (r (At g ∷ Nth t ∷ At p ∷ Of v ∷ Nth k ∷ []) first_of) in
      some_is (find same_tag p y.packets) (packet_after f.1 m.own g t (country_of y) p) a.0 (sym q ∙ a.1) (λ z e d.
      some_is (find same_key (v, k) z.fields) (field_after f.1 m.own g t (country_of y) p z.fields (v, k)) a.2.0
      (sym (find-fields (field_after f.1 m.own g t (country_of y) p z.fields) v k z.fields) ∙ ap (λ o. find same_key (v, k) o.fields) (sym d) ∙ a.2.1)
      (λ old ho hd.
      let q1 = q ∙ ap (option_map (packet_after f.1 m.own g t (country_of y) p)) e in
      let at1 = ap (λ c. set_note v k x c (find same_tag p (now g t y).packets)) (country-stays g t y) ∙ ap (set_note v k x (country_of y)) q1 in (
        (z, e, (old, ho)),
        (at1 ∙ set-back serial g t p v k x (note_in (SetVar g t p v k x) (now g t y)) f m r l own (country_of y) z old ho (ap (λ o. o.names) at1)
            ∙ ap (set_note v k x (country_of y)) (sym e)),
      )))
  back-in (serial, SetHead g t v x) h le y a r s u w room =
      let q = find-fields (head_after f.1 g t y.head) v 0 y.head in
      some_is (find same_key (v, 0) y.head) (head_after f.1 g t y.head (v, 0)) a.0 (sym q ∙ a.1) (λ old e d.
      let k = head-same f m g t y.head v x old (lawful-head (SetHead g t v x) le) (r (At g ∷ Nth t ∷ Head ∷ Of v ∷ []) first_of) (λ e. r (At g ∷ Turn ∷ []) (later_of (simp e first_of))) in
      ((old, e), ap (λ o. record nothing { old = unwrap_or o 0 }) (q ∙ ap (option_map (head_after f.1 g t y.head (v, 0))) e ∙ ap Some k ∙ sym e)))
  back-in (s0, InsertPacket g t b x) h le y a r s u w room =
      let lv = leaves (s0, InsertPacket g t b x) tt (note_in (InsertPacket g t b x) (now g t y)) f m (country_of y) r in (
        (accepts-back (packets_change f m.own g t (country_of y)) (Put b (Fresh s0, x)) y.packets lv a.0, room),
        ap (λ c. record nothing { names = names_of c x }) (country-stays g t y),
      )
  back-in (serial, DeletePacket g t p) h le y a r s u w room =
      let e1 = DeletePacket g t p in
      let lv = leaves (serial, e1) tt (note_in e1 (now g t y)) f m (country_of y) r in
      let q = packet-found f m m.own g t p (After ∷ []) y s (clear-longer (f, m) (At g ∷ Nth t ∷ At p ∷ []) (After ∷ []) (r (At g ∷ Nth t ∷ At p ∷ []) first_of)) in
      some_is (find same_tag p y.packets) (packet_after f.1 m.own g t (country_of y) p) a.0 (sym q ∙ a.1) (λ z e d.
      let q1 = q ∙ ap (option_map (packet_after f.1 m.own g t (country_of y) p)) e in
      let ns = ap (λ c. names_taken c (find same_tag p (now g t y).packets)) (country-stays g t y) ∙ ap (names_taken (country_of y)) q1 in
      let k = packet-same f m g t (country_of y) p z (r (At g ∷ Nth t ∷ At p ∷ []) first_of) (r (At g ∷ Turn ∷ []) (later_of (later_of first_of)))
      (names-apart-back f m g t (country_of y) p z.fields own l (read-names-delete serial g t p (note_in e1 (now g t y)) f m r
      (links_among (country_of y) (packet_after f.1 m.own g t (country_of y) p z).fields (packet_after f.1 m.own g t (country_of y) p z).fields) ns)) in
      let same_packet : find same_tag p (now g t y).packets ≡ find same_tag p y.packets = q1 ∙ ap Some k ∙ sym e in
      let same_next : behind same_tag p y.packets ≡ behind same_tag p (now g t y).packets = noted-back (packets_change f m.own g t (country_of y)) (Take p) y.packets u lv w in (
        (z, e),
        (ap (λ c. record nothing { before = behind same_tag p (now g t y).packets; names = names_taken c (find same_tag p (now g t y).packets); packet = find same_tag p (now g t y).packets }) (country-stays g t y)
            ∙ ap (λ o. record nothing { before = behind same_tag p (now g t y).packets; names = names_taken (country_of y) o; packet = o }) same_packet
            ∙ ap (λ b. record nothing { before = b; names = names_taken (country_of y) (find same_tag p y.packets); packet = find same_tag p y.packets }) (sym same_next)),
      ))
  back-in (serial, MovePacket g t p b) h le y a r s u w room =
      let lv = leaves (serial, MovePacket g t p b) tt (note_in (MovePacket g t p b) (now g t y)) f m (country_of y) r in (
        accepts-back (packets_change f m.own g t (country_of y)) (Move p b) y.packets lv a,
        ap (λ b. record nothing { before = b }) (sym (noted-back (packets_change f m.own g t (country_of y)) (Move p b) y.packets u lv w)),
      )
  back-in e h le y a r s u w room = absurd h
