-- What the test of later neighbours says: which pairs of edits pass it, and which of their places are apart.
-- Proves the law of later neighbours from its three cases.
-- From the path of what was put in, which is that of the later edit's anchor.
use Rattle.balise_rules.specs.Paths.{any_meets}
use Rattle.balise_rules.specs.Behind.{put_in, anchored_on, same_path, one_path, behind_path, changes_but, stands_behind}
use Rattle.std.proofs.Common.{◌≡◌, ℕ, Bool, true, false, ◌&&◌, not, eqb, List, [], ◌∷◌, ◌++◌, Option, Some, None, refl, subst, ◌∙◌}
use Rattle.std.proofs.lemmas.Bool.{and_parts, false≢true, not-true}
use Rattle.balise_rules.specs.declared.tag.Tag.{Tag}
use Rattle.balise_rules.specs.declared.tag.Tag.TheVariants.{Fresh}
use Rattle.balise_rules.specs.declared.identity.Id.{Id}
use Rattle.balise_rules.specs.Tagged.{same_spot}
use Rattle.balise_rules.specs.Tags.{same_tag}
use Rattle.balise_rules.specs.Packet.{Packet}
use Rattle.balise_rules.specs.Telegram.{Telegram}
use Rattle.balise_rules.specs.Plan.{Plan, identity_of, telegram_at}
use Rattle.balise_rules.specs.Edits.{Item, group_of}
use Rattle.balise_rules.specs.declared.tagged_edit.TaggedEdit.TheVariants.{InsertPacket, MovePacket, AddGroup}
use Rattle.balise_rules.specs.Notes.{Note, noted}
use Rattle.balise_rules.specs.Doing.{done}
use Rattle.balise_rules.specs.Accepting.{AcceptedAt}
use Rattle.balise_rules.specs.Paths.{At, Nth, After, Whose, Path, meet, anchor, Entry, changes, needs, room_apart}
use Rattle.balise_rules.proofs.Tests.{flip_no, tag_test, nat_test}
use Rattle.balise_rules.proofs.Cases.{parts4}
use Rattle.balise_strike_laws.proofs.Places.{In, first_of, later_of, in-left, in-right, in-either, side_apart}
use Rattle.balise_strike_laws.specs.Laws.{InTurn, CommutesBehind, CommutingBehind}
use Rattle.balise_strike_laws.proofs.Places.{meet-sym, any_meets-false}
use Rattle.balise_strike_laws.proofs.Facts.{facts}
use Rattle.balise_strike_laws.proofs.Behind.{insert-behind, move-behind, add-behind}
use Rattle.balise_strike_laws.proofs.Named.{in-filter}

-- no place that e changes meets one that f changes or needs, but for the side after what e puts in; nor does one that e needs meet one that f changes
pub record ApartBut (e f : Entry) : Type 0 where
  pub changed : {p q : Path} → In p (changes e) → In q (changes_but e.0 f ++ needs f) → meet p q ≡ false
  pub needed : {p q : Path} → In p (needs e) → In q (changes_but e.0 f) → meet p q ≡ false

pub stands_behind-parts : (e f : Entry) → stands_behind e f ≡ true → (one_path (put_in e.0) (anchored_on f.0) ≡ true) × ApartBut e f
stands_behind-parts e f h =
    let a = and_parts (one_path (put_in e.0) (anchored_on f.0)) (not (any_meets (changes e) (changes_but e.0 f ++ needs f)) && (not (any_meets (needs e) (changes_but e.0 f)) && room_apart e.0.1 f.0.1)) h in
    let b = and_parts (not (any_meets (changes e) (changes_but e.0 f ++ needs f))) (not (any_meets (needs e) (changes_but e.0 f)) && room_apart e.0.1 f.0.1) a.1 in
    let c = and_parts (not (any_meets (needs e) (changes_but e.0 f))) (room_apart e.0.1 f.0.1) b.1 in (
      a.0,
      record {
        changed = λ i j. any_meets-false (not-true (any_meets (changes e) (changes_but e.0 f ++ needs f)) b.0) i j;
        needed = λ i j. any_meets-false (not-true (any_meets (needs e) (changes_but e.0 f)) c.0) i j;
      },
    )

-- the law, as a fact of two edits on a plan
abbrev Law : Item → Item → Plan → Type 0
Law e f plan = InTurn e f plan → stands_behind (e, noted e.1 plan) (f, noted f.1 (done e plan)) ≡ true → CommutesBehind e f plan

insert-insert : (s0 : ℕ) → (g : Tag) → (t : ℕ) → (a : Option Tag) → (x : Packet) → (s1 : ℕ) → (x1 : Packet) → (plan : Plan) →
    Law (s0, InsertPacket g t a x) (s1, InsertPacket g t (Some (Fresh s0)) x1) plan
insert-insert s0 g t a x s1 x1 plan h far =
    insert-behind s0 g t a x s1 plan (facts plan h.sound) h.first_unused h.second_unused h.first_accepted x1 h.second_accepted

-- a move is to another place than the anchor of the insertion
moved_apart : (s0 : ℕ) → (g : Tag) → (t : ℕ) → (a : Option Tag) → (x : Packet) → (s1 : ℕ) → (p : Tag) → (n m : Note) → same_tag p (Fresh s0) ≡ false →
    ApartBut ((s0, InsertPacket g t a x), n) ((s1, MovePacket g t p (Some (Fresh s0))), m) → same_spot same_tag a (Some p) ≡ false
moved_apart s0 g t a x s1 p n m o w =
    let gs = tag_test.itself g in let ts = nat_test.itself t in
    let e : Entry = ((s0, InsertPacket g t a x), n) in
    let f : Entry = ((s1, MovePacket g t p (Some (Fresh s0))), m) in
    let other : not (same_path (At g ∷ Nth t ∷ At p ∷ After ∷ []) (behind_path (put_in e.0))) ≡ true = simp (gs, ts, o) in
    let i = in-filter (λ q. not (same_path q (behind_path (put_in e.0)))) (At g ∷ Nth t ∷ At p ∷ After ∷ []) (changes f) other (later_of first_of) in
    side_apart a (Some p) (simp (gs, ts) at (w.changed {p = At g ∷ Nth t ∷ anchor a ∷ After ∷ []} (later_of first_of) (in-left (At g ∷ Nth t ∷ At p ∷ After ∷ []) (changes_but e.0 f) (needs f) i)))

insert-move : (s0 : ℕ) → (g : Tag) → (t : ℕ) → (a : Option Tag) → (x : Packet) → (s1 : ℕ) → (p : Tag) → (plan : Plan) →
    Law (s0, InsertPacket g t a x) (s1, MovePacket g t p (Some (Fresh s0))) plan
insert-move s0 g t a x s1 p plan h far =
    let e : Item = (s0, InsertPacket g t a x) in
    let f : Item = (s1, MovePacket g t p (Some (Fresh s0))) in
    let w = stands_behind-parts (e, noted e.1 plan) (f, noted f.1 (done e plan)) far in
    move-behind s0 g t a x s1 plan (facts plan h.sound) h.first_unused h.second_unused h.first_accepted p
    (moved_apart s0 g t a x s1 p (noted e.1 plan) (noted f.1 (done e plan)) (other_in (telegram_at g t (done e plan)) h.second_accepted.1) w.1) h.second_accepted
  where
    other_in : (o : Option Telegram) → AcceptedAt (MovePacket g t p (Some (Fresh s0))) o → same_tag p (Fresh s0) ≡ false
    other_in None k = absurd k
    other_in (Some y) k = flip_no tag_test (Fresh s0) p k.2

-- a group after an added one
module _ (s0 : ℕ) (a : Option Tag) (bs : List (List Bool)) (s1 : ℕ) (cs : List (List Bool)) (plan : Plan) where
  abbrev e1 : Entry
  e1 = ((s0, AddGroup a bs), noted (AddGroup a bs) plan)

  abbrev f1 : Entry
  f1 = ((s1, AddGroup (Some (Fresh s0)) cs), noted (AddGroup (Some (Fresh s0)) cs) (done (s0, AddGroup a bs) plan))

  abbrev own0 : Id
  own0 = identity_of (group_of bs)

  abbrev own1 : Id
  own1 = identity_of (group_of cs)

  its_own : In (Whose own1 ∷ []) (changes_but e1.0 f1)
  its_own = in-filter (λ q. not (same_path q (behind_path (put_in e1.0)))) (Whose own1 ∷ []) (changes f1) refl (later_of (later_of first_of))

  first-clear : ApartBut e1 f1 → (pl : Path) → In pl (changes e1 ++ needs e1) → meet (Whose own1 ∷ []) pl ≡ false
  first-clear w pl i = in-either pl (changes e1) (needs e1) i
      (λ l. meet-sym (Whose own1 ∷ []) pl ∙ w.changed l (in-left (Whose own1 ∷ []) (changes_but e1.0 f1) (needs f1) its_own))
      (λ r. meet-sym (Whose own1 ∷ []) pl ∙ w.needed r its_own)

  not_anchor : (b : Option Tag) → meet (Whose own0 ∷ []) (anchor b ∷ After ∷ []) ≡ false
  not_anchor None = refl
  not_anchor (Some b) = refl

  -- the places that the second group changes after the first one's anchor
  clear_changes : ApartBut e1 f1 → (pl : Path) → In pl ((At (Fresh s1) ∷ []) ∷ (anchor a ∷ After ∷ []) ∷ (Whose own1 ∷ []) ∷ []) → meet (Whose own0 ∷ []) pl ≡ false
  clear_changes w pl (first_of) = refl
  clear_changes w pl (later_of (first_of)) = not_anchor a
  clear_changes w pl (later_of (later_of (first_of))) = w.changed {p = Whose own0 ∷ []} (later_of (later_of first_of)) (in-left (Whose own1 ∷ []) (changes_but e1.0 f1) (needs f1) its_own)
  clear_changes w pl (later_of (later_of (later_of i))) = elim i [ ]

  second-clear : ApartBut e1 f1 → (pl : Path) →
      In pl (changes ((s1, AddGroup a cs), noted (AddGroup a cs) plan) ++ needs ((s1, AddGroup a cs), noted (AddGroup a cs) plan)) → meet (Whose own0 ∷ []) pl ≡ false
  second-clear w pl i = in-either pl (changes ((s1, AddGroup a cs), noted (AddGroup a cs) plan)) (needs ((s1, AddGroup a cs), noted (AddGroup a cs) plan)) i
      (λ l. clear_changes w pl l)
      (λ r. w.changed {p = Whose own0 ∷ []} (later_of (later_of first_of)) (in-right pl (changes_but e1.0 f1) (needs f1) r))

  add-add : Law (s0, AddGroup a bs) (s1, AddGroup (Some (Fresh s0)) cs) plan
  add-add h far =
      let e : Item = (s0, AddGroup a bs) in
      let f : Item = (s1, AddGroup (Some (Fresh s0)) cs) in
      let w = stands_behind-parts (e, noted e.1 plan) (f, noted f.1 (done e plan)) far in
      add-behind s0 a bs s1 cs plan (facts plan h.sound) h.first_unused h.second_unused (first-clear w.1) (second-clear w.1) h.first_accepted h.second_accepted

-- one path: the telegram of the insertion, and what it put in
path_packet : (P : Tag → ℕ → Tag → Type 0) → (g g1 : Tag) → (t t1 : ℕ) → (z b : Tag) → same_path (At g ∷ Nth t ∷ At z ∷ []) (At g1 ∷ Nth t1 ∷ At b ∷ []) ≡ true →
    P g t z → P g1 t1 b
path_packet P g g1 t t1 z b h k =
    let w = parts4 (same_tag g g1) (eqb t t1) (same_tag z b) true h in
    subst (λ u. P g1 t1 u) (tag_test.one z b w.2) (subst (λ u. P g1 u z) (nat_test.one t t1 w.1) (subst (λ u. P u t z) (tag_test.one g g1 w.0) k))

pub no_end : (b : Bool) → (b && false) ≡ true → ⊥
no_end true h = false≢true h
no_end false h = false≢true h

-- the law where the later edit is anchored on what the first put in
on_its_own : (e f : Item) → (plan : Plan) → one_path (put_in e) (anchored_on f) ≡ true → Law e f plan
on_its_own (s0, InsertPacket g t a x) (s1, InsertPacket g1 t1 (Some b) x1) plan q =
    path_packet (λ u i c. Law (s0, InsertPacket g t a x) (s1, InsertPacket u i (Some c) x1) plan) g g1 t t1 (Fresh s0) b q (insert-insert s0 g t a x s1 x1 plan)
on_its_own (s0, InsertPacket g t a x) (s1, MovePacket g1 t1 p (Some b)) plan q =
    path_packet (λ u i c. Law (s0, InsertPacket g t a x) (s1, MovePacket u i p (Some c)) plan) g g1 t t1 (Fresh s0) b q (insert-move s0 g t a x s1 p plan)
on_its_own (s0, AddGroup a bs) (s1, AddGroup (Some b) cs) plan q =
    subst (λ c. Law (s0, AddGroup a bs) (s1, AddGroup (Some c) cs) plan) (tag_test.one (Fresh s0) b (and_parts (same_tag (Fresh s0) b) true q).0) (add-add s0 a bs s1 cs plan)
on_its_own (s0, InsertPacket g t a x) (s1, AddGroup (Some b) cs) plan q = absurd (no_end (same_tag g b) q)
on_its_own (s0, AddGroup a bs) (s1, InsertPacket g t (Some b) x) plan q = absurd (no_end (same_tag (Fresh s0) g) q)
on_its_own (s0, AddGroup a bs) (s1, MovePacket g t p (Some b)) plan q = absurd (no_end (same_tag (Fresh s0) g) q)
on_its_own (s0, e) (s1, f) plan q = absurd (false≢true q)

pub commuting_behind : CommutingBehind
commuting_behind e f plan h far = on_its_own e f plan (stands_behind-parts (e, noted e.1 plan) (f, noted f.1 (done e plan)) far).0 h far
