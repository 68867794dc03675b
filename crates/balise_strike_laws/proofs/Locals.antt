-- An edit of one telegram on the plan, before and after any edit.
-- Proves that a group that an edit spares is found again, changed as it says; and that an edit of one telegram is accepted and notes the same, forward and back.
-- From its reading in the telegram.
use Rattle.std.proofs.Common.{◌≡◌, ℕ, true, false, ◌&&◌, eqb, [], ◌∷◌, Option, Some, refl, sym, ap, subst, ◌∙◌, ◌↔◌, List}
use Rattle.std.proofs.lemmas.Bool.{and_parts, false≢true}
use Rattle.std.specs.Option.{option_map, option_and_then}
use Rattle.balise_rules.specs.declared.tag.Tag.{Tag}
use Rattle.balise_rules.specs.declared.tag.Tag.TheVariants.{Fresh}
use Rattle.balise_rules.specs.declared.identity.Id.{Id}
use Rattle.balise_rules.specs.Tagged.{find, each, Distinct}
use Rattle.balise_rules.specs.Tags.{same_tag}
use Rattle.balise_rules.specs.Telegram.{Telegram}
use Rattle.balise_rules.specs.Plan.{Group, Plan, country_of, telegram_at}
use Rattle.balise_rules.specs.Edits.{Edit, Item, group_of, effect, group_after, in_order, telegram_after, packets_change}
use Rattle.balise_rules.specs.declared.tagged_edit.TaggedEdit.TheVariants.{SetVar, SetHead, InsertPacket, DeletePacket, MovePacket, AddGroup, DropGroup, Renumber, TurnGroup}
use Rattle.balise_rules.specs.Notes.{Note, note_in, note_at, noted}
use Rattle.balise_rules.specs.Doing.{done}
use Rattle.balise_rules.specs.Accepting.{AcceptedIn, AcceptedAt, Asks, Accepted}
use Rattle.balise_rules.specs.Paths.{Part, At, Nth, Of, Front, Head, Path, neighbour, changes, needs}
use Rattle.balise_rules.proofs.Tests.{split_on, flip_no, tag_test, nat_test}
use Rattle.balise_rules.proofs.Lists.{find-put, find-without, find-each}
use Rattle.balise_rules.proofs.Cases.{found, some_is, map_itself}
use Rattle.balise_rules.proofs.Each.{each-id, each-same}
use Rattle.balise_rules.proofs.Reversed.{find-reverse}
use Rattle.balise_rules.proofs.Found.{place_is}
use Rattle.balise_rules.proofs.Accepted.{accepted_here, accepted_at}
use Rattle.balise_strike_laws.proofs.Cases.{drop1}
use Rattle.balise_strike_laws.proofs.Neighbours.{Accepts, noted_change, takes, takes_out}
use Rattle.balise_strike_laws.proofs.Levels.{each-order}
use Rattle.balise_strike_laws.proofs.Places.{In, first_of, later_of, in-left, Clear, Reads, front_apart}
use Rattle.balise_strike_laws.proofs.Facts.{Facts}
use Rattle.balise_strike_laws.proofs.Writers.{packet-id}
use Rattle.balise_strike_laws.proofs.Kept.{RealOwn}
use Rattle.balise_strike_laws.proofs.Settings.{own_change}
use Rattle.balise_strike_laws.proofs.Readers.{Local, home, Room, noted_before, forward-in, back-in}

abbrev pub GroupSpared : Item → Tag → Type 0
GroupSpared (s, AddGroup a bs) g = same_tag g (Fresh s) ≡ false
GroupSpared (serial1, DropGroup g1) g = same_tag g g1 ≡ false
GroupSpared f g = Unit {0}

pub spared-from : (f : Item) → (m : Note) → (g : Tag) → (a : Part) → (r : Path) → Clear (f, m) (At g ∷ a ∷ r) → GroupSpared f g
spared-from (s, AddGroup b bs) m g a r k = flip_no tag_test (Fresh s) g (drop1 (same_tag (Fresh s) g) (k (At (Fresh s) ∷ []) first_of))
spared-from (serial1, DropGroup g1) m g a r k = flip_no tag_test g1 g (drop1 (same_tag g1 g) (k (At g1 ∷ []) first_of))
spared-from e m g a r k = tt

pub telegram-id : (y : Telegram) →
    ◌≡◌ {A = Telegram} (record { head = each (λ key v. v) y.head; packets = each (λ p z. record { fields = each (λ key v. v) z.fields; rest = z.rest }) y.packets; padding = y.padding }) y
telegram-id y = ap (λ hs. record { head = hs; packets = each (λ (p : Tag) z. record { fields = each (λ key v. v) z.fields; rest = z.rest }) y.packets; padding = y.padding }) (each-id y.head)
    ∙ ap (λ ps. record { head = y.head; packets = ps; padding = y.padding }) (each-same (λ p z. record { fields = each (λ key v. v) z.fields; rest = z.rest }) y.packets (λ p z. packet-id z))

pub find-group : (f : Item) → (j : Id) → (g : Tag) → (plan : Plan) → GroupSpared f g →
    find same_tag g (effect f j plan) ≡ option_map (group_after f j g) (find same_tag g plan)
find-group (s, AddGroup a bs) j g plan n = find-put same_tag g a (Fresh s, group_of bs) n plan ∙ map_itself (group_after (s, AddGroup a bs) j g) (λ xs. each-same (telegram_after (s, AddGroup a bs) j g) xs (λ t y. telegram-id y)) (find same_tag g plan)
find-group (serial1, DropGroup g1) j g plan n = find-without tag_test g g1 n plan ∙ map_itself (group_after (serial1, DropGroup g1) j g) (λ xs. each-same (telegram_after (serial1, DropGroup g1) j g) xs (λ t y. telegram-id y)) (find same_tag g plan)
find-group f j g plan n = find-each tag_test (group_after f j) g plan

find-order : (f : Edit) → (g : Tag) → (t : ℕ) → (xs : Group) → Distinct eqb xs → find eqb t (in_order f g xs) ≡ find eqb t xs
find-order (TurnGroup g1) g t xs u = split_on (same_tag g1 g) (λ e. simp e (find-reverse nat_test t xs u)) (λ e. simp e)
find-order f g t xs u = refl

pub find-telegram : (f : Item) → (j : Id) → (g : Tag) → (t : ℕ) → (xs : Group) → Distinct eqb xs →
    find eqb t (group_after f j g xs) ≡ option_map (telegram_after f j g t) (find eqb t xs)
find-telegram f j g t xs u = ap (find eqb t) (sym (each-order (telegram_after f j g) f.1 g xs)) ∙ find-each nat_test (telegram_after f j g) t (in_order f.1 g xs) ∙ ap (option_map (telegram_after f j g t)) (find-order f.1 g t xs u)

pub telegram-done : (f : Item) → (j : Id) → (g : Tag) → (t : ℕ) → (plan : Plan) → Facts plan → GroupSpared f g →
    telegram_at g t (effect f j plan) ≡ option_map (telegram_after f j g t) (telegram_at g t plan)
telegram-done f j g t plan s n = ap (λ o. option_and_then (find eqb t) o) (find-group f j g plan n)
    ∙ found (find same_tag g plan) (λ e. simp e) (λ xs e. simp e (find-telegram f j g t xs (s.telegrams g xs e)))

-- an edit of one telegram asks what it asks of its telegram, and notes what it notes there
local-reads : (e : Edit) → Local e → (plan : Plan) →
    (Asks e plan ↔ AcceptedAt e (telegram_at (home e).0 (home e).1 plan)) × ((y : Telegram) → telegram_at (home e).0 (home e).1 plan ≡ Some y → noted e plan ≡ note_in e y)
local-reads (AddGroup b bs) h plan = absurd h
local-reads (DropGroup g) h plan = absurd h
local-reads (Renumber g x) h plan = absurd h
local-reads (TurnGroup g) h plan = absurd h
local-reads e h plan = ((λ a. a, λ a. a), λ y q. ap (note_at e) q)

pub asks-at : (e : Edit) → Local e → (plan : Plan) → Asks e plan → (y : Telegram) × (telegram_at (home e).0 (home e).1 plan ≡ Some y) × AcceptedIn e y
asks-at e h plan a = accepted_here e (telegram_at (home e).0 (home e).1 plan) ((local-reads e h plan).0.0 a)

pub at-asks : (e : Edit) → Local e → (plan : Plan) → (y : Telegram) → telegram_at (home e).0 (home e).1 plan ≡ Some y → AcceptedIn e y → Asks e plan
at-asks e h plan y q a = (local-reads e h plan).0.1 (accepted_at e (telegram_at (home e).0 (home e).1 plan) y q a)

pub noted-at : (e : Edit) → Local e → (plan : Plan) → (y : Telegram) → telegram_at (home e).0 (home e).1 plan ≡ Some y → noted e plan ≡ note_in e y
noted-at e h plan = (local-reads e h plan).1

-- an accepted edit's change of a telegram's packets is accepted there
pub accepts-there : (f : Item) → (j : Id) → (g : Tag) → (t : ℕ) → (c : ℕ) → (plan : Plan) → Asks f.1 plan → (y : Telegram) → telegram_at g t plan ≡ Some y →
    Accepts (packets_change f j g t c) y.packets
accepts-there (s0, InsertPacket g1 t1 b x) j g t c plan a y q =
    split_on (same_tag g1 g && eqb t1 t) (λ e. simp e (subst (AcceptedAt (InsertPacket g1 t1 b x)) (place_is g1 g t1 t plan e ∙ q) a).0) (λ e. simp e tt)
accepts-there (serial1, DeletePacket g1 t1 p) j g t c plan a y q =
    split_on (same_tag g1 g && eqb t1 t) (λ e. simp e (subst (AcceptedAt (DeletePacket g1 t1 p)) (place_is g1 g t1 t plan e ∙ q) a)) (λ e. simp e tt)
accepts-there (serial1, MovePacket g1 t1 p b) j g t c plan a y q =
    split_on (same_tag g1 g && eqb t1 t) (λ e. simp e (subst (AcceptedAt (MovePacket g1 t1 p b)) (place_is g1 g t1 t plan e ∙ q) a)) (λ e. simp e tt)
accepts-there f j g t c plan a y q = tt

-- a place noted in the edit's own telegram is one of this telegram, where they are one
noted-here : (g1 g : Tag) → (t1 t : ℕ) → (a b : Option Tag) → (ps : List Path) → (same_tag g1 g && eqb t1 t) ≡ true → a ≡ b → In (At g1 ∷ Nth t1 ∷ neighbour a ∷ Front ∷ []) ps →
    In (At g ∷ Nth t ∷ neighbour b ∷ Front ∷ []) ps
noted-here g1 g t1 t a b ps e n i =
    let d = and_parts (same_tag g1 g) (eqb t1 t) e in
    subst (λ u. In (At g ∷ Nth t ∷ neighbour u ∷ Front ∷ []) ps) n (subst (λ u. In (At g ∷ Nth u ∷ neighbour a ∷ Front ∷ []) ps) (nat_test.one t1 t d.1)
    (subst (λ u. In (At u ∷ Nth t1 ∷ neighbour a ∷ Front ∷ []) ps) (tag_test.one g1 g d.0) i))

-- what an edit takes out here stood before what it noted
pub noted-there : (f : Item) → (j : Id) → (g : Tag) → (t : ℕ) → (c : ℕ) → (plan : Plan) → (y : Telegram) → telegram_at g t plan ≡ Some y →
    takes_out (packets_change f j g t c) ≡ true →
    In (At g ∷ Nth t ∷ neighbour (noted_change (packets_change f j g t c) y.packets) ∷ Front ∷ []) (changes (f, noted f.1 plan))
noted-there (s0, InsertPacket g1 t1 b x) j g t c plan y q o =
    split_on (same_tag g1 g && eqb t1 t) (λ e. let k = simp e at o in absurd (false≢true k)) (λ e. let k = simp e at o in absurd (false≢true k))
noted-there (serial1, DeletePacket g1 t1 p) j g t c plan y q o =
    split_on (same_tag g1 g && eqb t1 t)
    (λ e. let n = ap (λ u. (note_at (DeletePacket g1 t1 p) u).before) (place_is g1 g t1 t plan e ∙ q) in simp e (noted-here g1 g t1 t _ _ _ e n (later_of first_of)))
    (λ e. let k = simp e at o in absurd (false≢true k))
noted-there (serial1, MovePacket g1 t1 p b) j g t c plan y q o =
    split_on (same_tag g1 g && eqb t1 t)
    (λ e. let n = ap (λ u. (note_at (MovePacket g1 t1 p b) u).before) (place_is g1 g t1 t plan e ∙ q) in simp e (noted-here g1 g t1 t _ _ _ e n (later_of (later_of first_of))))
    (λ e. let k = simp e at o in absurd (false≢true k))
noted-there f j g t c plan y q o = absurd (false≢true o)

pub own-takes : (e : Item) → Local e.1 → (n : Note) → (b : Option Tag) → Clear (e, n) (At (home e.1).0 ∷ Nth (home e.1).1 ∷ neighbour b ∷ Front ∷ []) →
    takes (own_change e) b ≡ false
own-takes (serial, DeletePacket g t p) h n b k = let gs = tag_test.itself g in let ts = nat_test.itself t in front_apart (Some p) b (simp (gs, ts) at (k (At g ∷ Nth t ∷ At p ∷ []) first_of))
own-takes (serial, MovePacket g t p a) h n b k = let gs = tag_test.itself g in let ts = nat_test.itself t in front_apart (Some p) b (simp (gs, ts) at (k (At g ∷ Nth t ∷ At p ∷ Front ∷ []) first_of))
own-takes e h n b k = refl

-- what a reader noted
pub own-noted : (e : Item) → Local e.1 → (y : Telegram) → takes_out (own_change e) ≡ true →
    In (At (home e.1).0 ∷ Nth (home e.1).1 ∷ neighbour (noted_before e y) ∷ Front ∷ []) (changes (e, note_in e.1 y))
own-noted (serial, DeletePacket g t p) h y o = later_of first_of
own-noted (serial, MovePacket g t p a) h y o = later_of (later_of first_of)
own-noted e h y o = absurd (false≢true o)

pub home-spared : (e : Item) → Local e.1 → (n : Note) → (f : Item) → (m : Note) → Reads (e, n) (f, m) → GroupSpared f (home e.1).0
home-spared (serial, SetVar g t p v k x) h n f m r = spared-from f m g (Nth t) (At p ∷ Of v ∷ Nth k ∷ []) (r (At g ∷ Nth t ∷ At p ∷ Of v ∷ Nth k ∷ []) first_of)
home-spared (serial, SetHead g t v x) h n f m r = spared-from f m g (Nth t) (Head ∷ Of v ∷ []) (r (At g ∷ Nth t ∷ Head ∷ Of v ∷ []) first_of)
home-spared (s, InsertPacket g t a x) h n f m r = spared-from f m g (Nth t) (At (Fresh s) ∷ []) (r (At g ∷ Nth t ∷ At (Fresh s) ∷ []) first_of)
home-spared (serial, DeletePacket g t p) h n f m r = spared-from f m g (Nth t) (At p ∷ []) (r (At g ∷ Nth t ∷ At p ∷ []) first_of)
home-spared (serial, MovePacket g t p a) h n f m r = spared-from f m g (Nth t) (At p ∷ Front ∷ []) (r (At g ∷ Nth t ∷ At p ∷ Front ∷ []) first_of)
home-spared e h n f m r = absurd h

pub real-own : (f : Item) → (plan : Plan) → Facts plan → RealOwn (f, noted f.1 plan)
real-own (serial, Renumber g x) plan s = found (find same_tag g plan) (λ e. simp e) (λ xs e. simp e (s.numbers g xs e))
real-own (serial, TurnGroup g) plan s = found (find same_tag g plan) (λ e. simp e) (λ xs e. simp e (s.numbers g xs e))
real-own f plan s = tt

-- an accepted edit's reading, after another edit and before it
abbrev pub Forward : Item → Item → Plan → Type 0
Forward e f plan = Accepted e.1 (done f plan) × (noted e.1 (done f plan) ≡ noted e.1 plan)

abbrev pub Back : Item → Item → Plan → Type 0
Back e f plan = Accepted e.1 plan × (noted e.1 plan ≡ noted e.1 (done f plan))

-- what a local edit reads, kept forward
pub local-forward : (e : Item) → Local e.1 → (f : Item) → (plan : Plan) → Facts plan → Accepted e.1 plan → Accepted f.1 plan →
    Reads (e, noted e.1 plan) (f, noted f.1 plan) → Reads (f, noted f.1 plan) (e, noted e.1 plan) →
    ((y : Telegram) → telegram_at (home e.1).0 (home e.1).1 plan ≡ Some y → AcceptedIn e.1 y → Room e (telegram_after f (noted f.1 plan).own (home e.1).0 (home e.1).1 y)) →
    Forward e f plan
local-forward e h f plan s a b r1 r2 room =
    let w = asks-at e.1 h plan a.1 in
    let n = noted-at e.1 h plan w.0 w.1 in
    let m = noted f.1 plan in
    let q = telegram-done f m.own (home e.1).0 (home e.1).1 plan s (home-spared e h (noted e.1 plan) f m r1) ∙ ap (option_map (telegram_after f m.own (home e.1).0 (home e.1).1)) w.1 in
    let r = forward-in f m b.0 (real-own f plan s) e h a.0 w.0 w.2 (subst (λ u. Reads (e, u) (f, m)) n r1)
    (accepts-there f m.own (home e.1).0 (home e.1).1 (country_of w.0) plan b.1 w.0 w.1) (s.heads (home e.1).0 (home e.1).1 w.0 w.1).1
    (λ o. own-takes e h (noted e.1 plan) (noted_change (packets_change f m.own (home e.1).0 (home e.1).1 (country_of w.0)) w.0.packets)
    (r2 (At (home e.1).0 ∷ Nth (home e.1).1 ∷ neighbour (noted_change (packets_change f m.own (home e.1).0 (home e.1).1 (country_of w.0)) w.0.packets) ∷ Front ∷ [])
    (in-left _ (changes (f, m)) (needs (f, m)) (noted-there f m.own (home e.1).0 (home e.1).1 (country_of w.0) plan w.0 w.1 o))))
    (room w.0 w.1 w.2) in (
      (a.0, at-asks e.1 h (done f plan) (telegram_after f m.own (home e.1).0 (home e.1).1 w.0) q r.0),
      noted-at e.1 h (done f plan) (telegram_after f m.own (home e.1).0 (home e.1).1 w.0) q ∙ r.1 ∙ sym n,
    )

-- and back
pub local-back : (e : Item) → Local e.1 → (f : Item) → (plan : Plan) → Facts plan → Accepted e.1 (done f plan) → Accepted f.1 plan →
    Reads (e, noted e.1 (done f plan)) (f, noted f.1 plan) →
    ((y : Telegram) → telegram_at (home e.1).0 (home e.1).1 plan ≡ Some y → AcceptedIn e.1 (telegram_after f (noted f.1 plan).own (home e.1).0 (home e.1).1 y) → Room e y) →
    Back e f plan
local-back e h f plan s a b r1 room =
    let w = asks-at e.1 h (done f plan) a.1 in
    let m = noted f.1 plan in
    let q = telegram-done f m.own (home e.1).0 (home e.1).1 plan s (home-spared e h (noted e.1 (done f plan)) f m r1) in
    let n = noted-at e.1 h (done f plan) w.0 w.1 in
    some_is (telegram_at (home e.1).0 (home e.1).1 plan) (telegram_after f m.own (home e.1).0 (home e.1).1) w.0 (sym q ∙ w.1)
    (λ y hy d.
    let a1 = subst (AcceptedIn e.1) d w.2 in
    let n1 = n ∙ ap (note_in e.1) d in
    let rr = subst (λ u. Reads (e, u) (f, m)) n1 r1 in
    let gs = tag_test.itself (home e.1).0 in let ts = nat_test.itself (home e.1).1 in
    let x = packets_change f m.own (home e.1).0 (home e.1).1 (country_of y) in
    let r = back-in f m b.0 (real-own f plan s) e h a.0 y a1 rr
    (accepts-there f m.own (home e.1).0 (home e.1).1 (country_of y) plan b.1 y hy) (s.heads (home e.1).0 (home e.1).1 y hy).1
    (λ o o2. (front_apart (noted_change x y.packets) (noted_before e (telegram_after f m.own (home e.1).0 (home e.1).1 y))
    (simp (gs, ts) at (rr (At (home e.1).0 ∷ Nth (home e.1).1 ∷ neighbour (noted_before e (telegram_after f m.own (home e.1).0 (home e.1).1 y)) ∷ Front ∷ [])
    (in-left _ (changes (e, note_in e.1 (telegram_after f m.own (home e.1).0 (home e.1).1 y))) (needs (e, note_in e.1 (telegram_after f m.own (home e.1).0 (home e.1).1 y))) (own-noted e h (telegram_after f m.own (home e.1).0 (home e.1).1 y) o2))
    (At (home e.1).0 ∷ Nth (home e.1).1 ∷ neighbour (noted_change x y.packets) ∷ Front ∷ [])
    (noted-there f m.own (home e.1).0 (home e.1).1 (country_of y) plan y hy o)))))
    (room y hy a1) in
    ((a.0, at-asks e.1 h plan y hy r.0), noted-at e.1 h plan y hy ∙ sym r.1 ∙ sym n1))
