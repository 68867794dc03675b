-- A strike in the words of a session.
-- Proves that a session's strike takes out the edit of a serial from its own place among the others, which stand as they stood, and that a redo puts it there again.
-- From the law of striking, by cutting the standing edits at that serial.
use Rattle.std.proofs.Common.{◌≡◌, ◌<◌, ℕ, Bool, All, true, false, not, cond, eqb, nat_lt, ◌&&◌, List, [], ◌∷◌, ◌++◌, filter, Option, Some, None, refl, sym, ap, subst, ◌∙◌, arith}
use Rattle.std.specs.Prelude.{find, is_some}
use Rattle.std.proofs.lemmas.Bool.{eqb-true, lt-ltb, and_parts, false≢true}
use Rattle.std.proofs.lemmas.Bool.Decides.{nat_tests}
use Rattle.std.proofs.lemmas.List.Elements.{All-nil, All-cons, All-head, All-tail}
use Rattle.balise_rules.specs.declared.tag.Tag.{Tag}
use Rattle.balise_rules.specs.declared.tag.Tag.TheVariants.{Fresh}
use Rattle.balise_rules.specs.Plan.{Plan}
use Rattle.balise_rules.specs.Edits.{Item}
use Rattle.balise_rules.specs.declared.tagged_edit.TaggedEdit.TheVariants.{InsertPacket, MovePacket, AddGroup}
use Rattle.balise_rules.specs.Notes.{noted}
use Rattle.balise_rules.specs.Doing.{done}
use Rattle.balise_rules.specs.Tags.{same_tag}
use Rattle.balise_rules.specs.Paths.{Entry, apart}
use Rattle.balise_rules.specs.Behind.{stands_behind, anchor_of, anchored, serials_behind, hung, one_path, put_in, anchored_on}
use Rattle.balise_rules.specs.Session.{made, entries, last, others, later, first_dependent, put_by_serial}
use Rattle.balise_rules.proofs.Tests.{split_on, flip_no, nat_test, tag_test}
use Rattle.balise_rules.proofs.Cases.{unsome, parts4}
use Rattle.balise_edit_laws.specs.TakenBack.{IsReady}
use Rattle.balise_edit_laws.specs.Along.{AllUnused}
use Rattle.balise_strike_laws.specs.Striking.{AllBecome, Standing, notes_of}
use Rattle.balise_strike_laws.specs.InSession.{Rising, StruckHere, StrikingHere, UndoingHere, left_of}
use Rattle.balise_strike_laws.proofs.Past.{Other}
use Rattle.balise_strike_laws.proofs.StandsBehind.{stands_behind-parts, no_end}
use Rattle.balise_strike_laws.proofs.Strikes.{striking_under}
use Rattle.balise_strike_laws.proofs.Rising.{rising-hung, rising-others}
use Rattle.std.proofs.lemmas.List.{append-nil, map-append}

-- what stands in the middle
all-middle : (P : Item → Type 0) → (before : List Item) → (e : Item) → (after : List Item) → All P (before ++ e ∷ after) → P e
all-middle P [] e after a = All-head P e after a
all-middle P (b ∷ bs) e after a = all-middle P bs e after (All-tail P b (bs ++ e ∷ after) a)

other-no : (s : ℕ) → (f : Item) → Other s f → eqb s f.0 ≡ false
other-no s f n = split_on (eqb s f.0) (λ e. absurd (n (sym (eqb-true s f.0 e)))) (λ e. e)

-- the entries after that of a serial
pub later-there : (base : Plan) → (before : List Item) → (e : Item) → (after : List Item) → AllUnused base (before ++ e ∷ after) → (plan : Plan) →
    later e.0 (entries plan (before ++ e ∷ after)) ≡ entries (done e (made plan before)) after
later-there base [] e after u plan = let s = nat_test.itself e.0 in simp s
later-there base (b ∷ bs) e after u plan =
    let n : eqb e.0 b.0 ≡ false = flip_no nat_test b.0 e.0 (other-no b.0 e (all-middle (Other b.0) bs e after u.1)) in
    simp n (later-there base bs e after u.2 (done b plan))

-- the edits of other serials
kept-all : (s : ℕ) → (es : List Item) → All (Other s) es → others s es ≡ es
kept-all s [] a = refl
kept-all s (f ∷ fs) a =
    let n : eqb f.0 s ≡ false = flip_no nat_test s f.0 (other-no s f (All-head (Other s) f fs a)) in
    simp n (ap (λ l. f ∷ l) (kept-all s fs (All-tail (Other s) f fs a)))

others-there : (base : Plan) → (before : List Item) → (e : Item) → (after : List Item) → AllUnused base (before ++ e ∷ after) → others e.0 (before ++ e ∷ after) ≡ before ++ after
others-there base [] e after u = let s = nat_test.itself e.0 in simp s (kept-all e.0 after u.1)
others-there base (b ∷ bs) e after u =
    let n = other-no b.0 e (all-middle (Other b.0) bs e after u.1) in
    simp n (ap (λ l. b ∷ l) (others-there base bs e after u.2))

-- the entries of other serials
entries-all : (s : ℕ) → (plan : Plan) → (es : List Item) → All (Other s) es → filter (λ (f : Entry). not (eqb f.0.0 s)) (entries plan es) ≡ entries plan es
entries-all s plan [] a = refl
entries-all s plan (f ∷ fs) a =
    let n : eqb f.0 s ≡ false = flip_no nat_test s f.0 (other-no s f (All-head (Other s) f fs a)) in
    simp n (ap (λ l. (f, noted f.1 plan) ∷ l) (entries-all s (done f plan) fs (All-tail (Other s) f fs a)))

entries-there : (base : Plan) → (before : List Item) → (e : Item) → (after : List Item) → AllUnused base (before ++ e ∷ after) → (plan : Plan) →
    filter (λ (f : Entry). not (eqb f.0.0 e.0)) (entries plan (before ++ e ∷ after)) ≡ entries plan before ++ entries (done e (made plan before)) after
entries-there base [] e after u plan = let s = nat_test.itself e.0 in simp s (entries-all e.0 (done e plan) after u.1)
entries-there base (b ∷ bs) e after u plan =
    let n = other-no b.0 e (all-middle (Other b.0) bs e after u.1) in
    simp n (ap (λ l. (b, noted b.1 plan) ∷ l) (entries-there base bs e after u.2 (done b plan)))

-- an edit put at its own place
put-first : (e : Item) → (after : List Item) → Rising (e ∷ after) → put_by_serial e after ≡ e ∷ after
put-first e [] r = refl
put-first e (f ∷ fs) r = let n = lt-ltb e.0 f.0 (All-head (λ x. e.0 < x.0) f fs r.0) in simp n

put-there : (before : List Item) → (e : Item) → (after : List Item) → Rising (before ++ e ∷ after) → put_by_serial e (before ++ after) ≡ before ++ e ∷ after
put-there [] e after r = put-first e after r
put-there (b ∷ bs) e after r =
    let l = all-middle (λ x. b.0 < x.0) bs e after r.0 in
    let n : nat_lt e.0 b.0 ≡ false = grind (arith, nat_tests) in
    simp n (ap (λ m. b ∷ m) (put-there bs e after r.1))

-- The standing edits, cut at an entry.
record Cut (plan : Plan) (items : List Item) (e : Entry) : Type 0 where
  pub before : List Item
  pub after : List Item
  pub whole : items ≡ before ++ e.0 ∷ after
  pub note : noted e.0.1 (made plan before) ≡ e.1

cut : (plan : Plan) → (items : List Item) → (serial : ℕ) → (e : Entry) → find (λ (f : Entry). eqb serial f.0.0) (entries plan items) ≡ Some e → Cut plan items e
cut plan [] serial e h = absurd (cc)
cut plan (f ∷ fs) serial e h = split_on (eqb serial f.0)
    (λ d. let k : Some (f, noted f.1 plan) ≡ Some e = simp d at h in
    let q : (f, noted f.1 plan) ≡ e = unsome k in
    record { before = []; after = fs; whole = ap (λ (x : Entry). x.0 ∷ fs) q; note = ap (λ (x : Entry). noted x.0.1 plan) (sym q) ∙ ap (λ (x : Entry). x.1) q })
    (λ d. let k : find (λ (x : Entry). eqb serial x.0.0) (entries (done f plan) fs) ≡ Some e = simp d at h in
    let c = cut (done f plan) fs serial e k in
    record { before = f ∷ c.before; after = c.after; whole = ap (λ l. f ∷ l) c.whole; note = c.note })

pub hung-empty : (a : Option Tag) → (es : List Item) → hung a [] es ≡ es
hung-empty a [] = refl
hung-empty a (f ∷ fs) = ap (λ l. f ∷ l) (hung-empty a fs)

unused-behind : (base : Plan) → (before : List Item) → (e : Item) → (after : List Item) → AllUnused base (before ++ e ∷ after) → AllUnused base after
unused-behind base [] e after u = u.2
unused-behind base (b ∷ bs) e after u = unused-behind base bs e after u.2

-- whether a serial is among others
abbrev among : ℕ → List ℕ → Bool
among s B = is_some (find (λ n. eqb n s) B)

-- the serials tell which of these edits aren't independent of e
abbrev Tells : Entry → List ℕ → Plan → List Item → Type 0
Tells e B plan [] = Unit {0}
Tells e B plan (f ∷ fs) = (among f.0 B ≡ not (apart e (f, noted f.1 plan))) × Tells e B (done f plan) fs

-- a serial of none of them is no matter
tells-more : (e : Entry) → (B : List ℕ) → (s : ℕ) → (plan : Plan) → (es : List Item) → All (Other s) es → Tells e B plan es → Tells e (s ∷ B) plan es
tells-more e B s plan [] n t = tt
tells-more e B s plan (f ∷ fs) n t = let d = other-no s f (All-head (Other s) f fs n) in (simp d t.0, tells-more e B s (done f plan) fs (All-tail (Other s) f fs n) t.1)

not-among : (e : Entry) → (s : ℕ) → (plan : Plan) → (es : List Item) → All (Other s) es → among s (serials_behind e (entries plan es)) ≡ false
not-among e s plan [] n = refl
not-among e s plan (f ∷ fs) n =
    let d : eqb f.0 s ≡ false = flip_no nat_test s f.0 (other-no s f (All-head (Other s) f fs n)) in
    let rest = not-among e s (done f plan) fs (All-tail (Other s) f fs n) in
    split_on (apart e (f, noted f.1 plan)) (λ i. simp i rest) (λ i. simp (i, d) rest)

tells : (e : Entry) → (base plan : Plan) → (es : List Item) → AllUnused base es → Tells e (serials_behind e (entries plan es)) plan es
tells e base plan [] u = tt
tells e base plan (f ∷ fs) u =
    let n = not-among e f.0 (done f plan) fs u.1 in
    let t = tells e base (done f plan) fs u.2 in
    let rest = serials_behind e (entries (done f plan) fs) in
    split_on (apart e (f, noted f.1 plan))
    (λ i. let same : serials_behind e ((f, noted f.1 plan) ∷ entries (done f plan) fs) ≡ rest = simp i in
    subst (λ B. (among f.0 B ≡ not (apart e (f, noted f.1 plan))) × Tells e B (done f plan) fs) (sym same) (n ∙ sym (ap not i), t))
    (λ i. let same : serials_behind e ((f, noted f.1 plan) ∷ entries (done f plan) fs) ≡ f.0 ∷ rest = simp i in
    let own : among f.0 (f.0 ∷ rest) ≡ true = let s = nat_test.itself f.0 in simp s in
    subst (λ B. (among f.0 B ≡ not (apart e (f, noted f.1 plan))) × Tells e B (done f plan) fs) (sym same) (own ∙ sym (ap not i), tells-more e rest f.0 (done f plan) fs u.1 t))

-- where all outlive a strike of e, they become what they are with its anchor
hung-become : (e : Entry) → (B : List ℕ) → (plan : Plan) → (es : List Item) → Tells e B plan es → first_dependent e (entries plan es) ≡ None →
    AllBecome e (entries plan es) (hung (anchor_of e.0.1) B es)
hung-become e B plan [] t d = tt
hung-become e B plan (f ∷ fs) t d = split_on (apart e (f, noted f.1 plan))
    (λ i. let m : among f.0 B ≡ false = simp i at t.0 in let r : first_dependent e (entries (done f plan) fs) ≡ None = simp i at d in
    (simp (i, m), hung-become e B (done f plan) fs t.1 r))
    (λ i. split_on (stands_behind e (f, noted f.1 plan))
    (λ j. let m : among f.0 B ≡ true = simp i at t.0 in let r : first_dependent e (entries (done f plan) fs) ≡ None = simp (i, j) at d in
    (simp (i, j, m), hung-become e B (done f plan) fs t.1 r))
    (λ j. absurd (let r = simp (i, j) at d in cc)))

-- no edit before e is among them
hung-none : (a : Option Tag) → (B : List ℕ) → (es : List Item) → All (λ f. among f.0 B ≡ false) es → hung a B es ≡ es
hung-none a B [] n = refl
hung-none a B (f ∷ fs) n = let m = All-head (λ g. among g.0 B ≡ false) f fs n in simp m (ap (λ l. f ∷ l) (hung-none a B fs (All-tail (λ g. among g.0 B ≡ false) f fs n)))

all-after : (P : Item → Type 0) → (before : List Item) → (e : Item) → (after : List Item) → All P (before ++ e ∷ after) → All P after
all-after P [] e after a = All-tail P e after a
all-after P (b ∷ bs) e after a = all-after P bs e after (All-tail P b (bs ++ e ∷ after) a)

before-none : (e : Entry) → (base : Plan) → (before : List Item) → (after : List Item) → (plan : Plan) → AllUnused base (before ++ e.0 ∷ after) →
    All (λ f. among f.0 (serials_behind e (entries plan after)) ≡ false) before
before-none e base [] after plan u = All-nil (λ f. among f.0 (serials_behind e (entries plan after)) ≡ false)
before-none e base (b ∷ bs) after plan u =
    All-cons (λ f. among f.0 (serials_behind e (entries plan after)) ≡ false) b bs (not-among e b.0 plan after (all-after (Other b.0) bs e.0 after u.1)) (before-none e base bs after plan u.2)

-- what stands after e has what it put in as its anchor
packet_back : (g : Tag) → (t : ℕ) → (g1 : Tag) → (t1 : ℕ) → (z b : Tag) → (same_tag g g1 && (eqb t t1 && (same_tag z b && true))) ≡ true → b ≡ z
packet_back g t g1 t1 z b h = sym (tag_test.one z b (parts4 (same_tag g g1) (eqb t t1) (same_tag z b) true h).2)

anchor-back : (e f : Item) → one_path (put_in e) (anchored_on f) ≡ true → (a : Option Tag) → anchored (Some (Fresh e.0)) (anchored a f.1) ≡ f.1
anchor-back (s0, InsertPacket g t a x) (s1, InsertPacket g1 t1 (Some b) x1) h c = ap (λ z. InsertPacket g1 t1 (Some z) x1) (sym (packet_back g t g1 t1 (Fresh s0) b h))
anchor-back (s0, InsertPacket g t a x) (s1, MovePacket g1 t1 p (Some b)) h c = ap (λ z. MovePacket g1 t1 p (Some z)) (sym (packet_back g t g1 t1 (Fresh s0) b h))
anchor-back (s0, AddGroup a bs) (s1, AddGroup (Some b) cs) h c = ap (λ z. AddGroup (Some z) cs) (tag_test.one (Fresh s0) b (and_parts (same_tag (Fresh s0) b) true h).0)
anchor-back (s0, InsertPacket g t a x) (s1, AddGroup (Some b) cs) h c = absurd (no_end (same_tag g b) h)
anchor-back (s0, AddGroup a bs) (s1, InsertPacket g t (Some b) x) h c = absurd (no_end (same_tag (Fresh s0) g) h)
anchor-back (s0, AddGroup a bs) (s1, MovePacket g t p (Some b)) h c = absurd (no_end (same_tag (Fresh s0) g) h)
anchor-back (s0, e) (s1, f) h c = absurd (false≢true h)

-- the old anchors come back
hung-back : (e : Entry) → (a : Option Tag) → (B : List ℕ) → (plan : Plan) → (es : List Item) → Tells e B plan es → first_dependent e (entries plan es) ≡ None →
    hung (Some (Fresh e.0.0)) B (hung a B es) ≡ es
hung-back e a B plan [] t d = refl
hung-back e a B plan (f ∷ fs) t d = split_on (apart e (f, noted f.1 plan))
    (λ i. let m : among f.0 B ≡ false = simp i at t.0 in let r : first_dependent e (entries (done f plan) fs) ≡ None = simp i at d in
    simp m (ap (λ l. f ∷ l) (hung-back e a B (done f plan) fs t.1 r)))
    (λ i. split_on (stands_behind e (f, noted f.1 plan))
    (λ j. let m : among f.0 B ≡ true = simp i at t.0 in let r : first_dependent e (entries (done f plan) fs) ≡ None = simp (i, j) at d in
    let k : anchored (Some (Fresh e.0.0)) (anchored a f.1) ≡ f.1 = anchor-back e.0 f (stands_behind-parts e (f, noted f.1 plan) j).0 a in
    simp m (ap (λ x. (f.0, x) ∷ hung (Some (Fresh e.0.0)) B (hung a B fs)) k ∙ ap (λ l. f ∷ l) (hung-back e a B (done f plan) fs t.1 r)))
    (λ j. absurd (let r = simp (i, j) at d in cc)))

-- an edit is found under its serial
pub found-at : (base : Plan) → (before : List Item) → (e : Item) → (after : List Item) → AllUnused base (before ++ e ∷ after) → (plan : Plan) →
    find (λ (f : Entry). eqb e.0 f.0.0) (entries plan (before ++ e ∷ after)) ≡ Some (e, noted e.1 (made plan before))
found-at base [] e after u plan = let s = nat_test.itself e.0 in simp s
found-at base (b ∷ bs) e after u plan =
    let n : eqb e.0 b.0 ≡ false = flip_no nat_test b.0 e.0 (other-no b.0 e (all-middle (Other b.0) bs e after u.1)) in
    simp n (found-at base bs e after u.2 (done b plan))

-- what is found under a serial has it
pub serial_is : (m : ℕ) → (es : List Entry) → (e : Entry) → find (λ (f : Entry). eqb m f.0.0) es ≡ Some e → m ≡ e.0.0
serial_is m [] e h = absurd cc
serial_is m (f ∷ fs) e h = split_on (eqb m f.0.0)
    (λ d. let k : Some f ≡ Some e = simp d at h in eqb-true m f.0.0 d ∙ ap (λ (x : Entry). x.0.0) (unsome k))
    (λ d. let k : find (λ (x : Entry). eqb m x.0.0) fs ≡ Some e = simp d at h in serial_is m fs e k)

-- what is found under a serial is found under its own
pub found-there : (plan : Plan) → (items : List Item) → (serial : ℕ) → (e : Entry) → find (λ (f : Entry). eqb serial f.0.0) (entries plan items) ≡ Some e →
    find (λ (f : Entry). eqb e.0.0 f.0.0) (entries plan items) ≡ Some e
found-there plan items serial e h = subst (λ n. find (λ (f : Entry). eqb n f.0.0) (entries plan items) ≡ Some e) (serial_is serial (entries plan items) e h) h

-- the strike of e among others, given its later entries
struck-among : (base : Plan) → (before : List Item) → (e : Item) → (after : List Item) → (fs : List Entry) → Standing base (before ++ e ∷ after) →
    fs ≡ entries (done e (made base before)) after → first_dependent (e, noted e.1 (made base before)) fs ≡ None →
    StruckHere base (before ++ e ∷ after) (e, noted e.1 (made base before)) (serials_behind (e, noted e.1 (made base before)) fs) (left_of (e, noted e.1 (made base before)) (serials_behind (e, noted e.1 (made base before)) fs) (before ++ e ∷ after))
struck-among base before e after fs s q d =
    let p : Entry = (e, noted e.1 (made base before)) in
    let plan = done e (made base before) in
    let B = serials_behind p fs in
    let a = anchor_of e.1 in
    let u : AllUnused base after = unused-behind base before e after s.unused in
    let t : Tells p B plan after = subst (λ l. Tells p (serials_behind p l) plan after) (sym q) (tells p base plan after u) in
    let d1 : first_dependent p (entries plan after) ≡ None = ap (first_dependent p) (sym q) ∙ d in
    let other = subst (λ l. All (λ f. among f.0 (serials_behind p l) ≡ false) before) (sym q) (before-none p base before after plan s.unused) in
    let none : hung a B before ≡ before = hung-none a B before other in
    let again-none : hung (Some (Fresh e.0)) B before ≡ before = hung-none (Some (Fresh e.0)) B before other in
    let rest : left_of p B (before ++ e ∷ after) ≡ before ++ hung a B after =
    ap (hung a B) (others-there base before e after s.unused) ∙ map-append (λ (f : Item). cond (among f.0 B) (f.0, anchored a f.1) f) before after ∙ ap (λ l. l ++ hung a B after) none in
    let back_again : hung (Some (Fresh e.0)) B (before ++ hung a B after) ≡ before ++ after =
    map-append (λ (f : Item). cond (among f.0 B) (f.0, anchored (Some (Fresh e.0)) f.1) f) before (hung a B after) ∙ ap (λ l. l ++ hung (Some (Fresh e.0)) B (hung a B after)) again-none ∙ ap (λ l. before ++ l) (hung-back p a B plan after t d1) in
    let r = striking_under base before e after (hung a B after) s (hung-become p B plan after t d1) in
    record {
      standing = subst (Standing base) (sym rest) r.standing;
      notes = ap (λ l. notes_of (entries base l)) rest ∙ r.notes ∙ ap notes_of (sym (entries-there base before e after s.unused base));
      taken_back = r.taken_back ∙ ap (made base) (sym rest);
      again_ready = subst (λ l. IsReady e (made base l)) (sym rest) r.again_ready;
      again_notes = ap (λ l. noted e.1 (made base l)) rest ∙ r.again_notes;
      again = ap (λ l. done e (made base l)) rest ∙ r.again;
      rising = λ w. rising-hung a B (others e.0 (before ++ e ∷ after)) (rising-others e.0 (before ++ e ∷ after) w);
      own_place = λ w. ap (λ l. put_by_serial e (hung (Some (Fresh e.0)) B l)) rest ∙ ap (put_by_serial e) back_again ∙ put-there before e after w;
    }

-- what a strike of this entry leaves
abbrev Here : Plan → List Item → Entry → Type 0
Here base items p = StruckHere base items p (serials_behind p (later p.0.0 (entries base items))) (left_of p (serials_behind p (later p.0.0 (entries base items))) items)

-- with the note that it has, and the list that it stands in
pub striking_here : StrikingHere
striking_here base items serial (e, m) s h d =
    let c = cut base items serial (e, m) h in
    let s1 = subst (Standing base) c.whole s in
    let d1 : first_dependent (e, noted e.1 (made base c.before)) (later e.0 (entries base (c.before ++ e ∷ c.after))) ≡ None =
    ap (λ n. first_dependent (e, n) (later e.0 (entries base (c.before ++ e ∷ c.after)))) c.note ∙ ap (λ l. first_dependent (e, m) (later e.0 (entries base l))) (sym c.whole) ∙ d in
    let r = struck-among base c.before e c.after (later e.0 (entries base (c.before ++ e ∷ c.after))) s1 (later-there base c.before e c.after s1.unused base) d1 in
    subst (λ l. Here base l (e, m)) (sym c.whole) (subst (λ n. Here base (c.before ++ e ∷ c.after) (e, n)) c.note r)

-- the last edit, and those before it
pub record Ends (items : List Item) (e : Item) : Type 0 where
  pub before : List Item
  pub whole : items ≡ before ++ e ∷ []

pub ends : (items : List Item) → (e : Item) → last items ≡ Some e → Ends items e
ends [] e h = absurd (cc)
ends (f ∷ []) e h = record { before = []; whole = ap (λ x. x ∷ []) (unsome h) }
ends (f ∷ g ∷ gs) e h = let w = ends (g ∷ gs) e h in record { before = f ∷ w.before; whole = ap (λ l. f ∷ l) w.whole }

-- nothing stands after the last edit
undone-here : (base : Plan) → (before : List Item) → (e : Item) → Standing base (before ++ e ∷ []) →
    StruckHere base (before ++ e ∷ []) (e, noted e.1 (made base (others e.0 (before ++ e ∷ [])))) [] (others e.0 (before ++ e ∷ []))
undone-here base before e s =
    let p : Entry = (e, noted e.1 (made base before)) in
    let rest : others e.0 (before ++ e ∷ []) ≡ before = others-there base before e [] s.unused ∙ append-nil before in
    let r = struck-among base before e [] [] s refl refl in
    let same : left_of p [] (before ++ e ∷ []) ≡ others e.0 (before ++ e ∷ []) = hung-empty (anchor_of e.1) (others e.0 (before ++ e ∷ [])) in
    subst (λ l. StruckHere base (before ++ e ∷ []) (e, noted e.1 (made base l)) [] (others e.0 (before ++ e ∷ []))) (sym rest)
    (subst (StruckHere base (before ++ e ∷ []) p []) same r)

pub undoing_here : UndoingHere
undoing_here base items e s h =
    let w = ends items e h in
    subst (λ l. StruckHere base l (e, noted e.1 (made base (others e.0 l))) [] (others e.0 l)) (sym w.whole) (undone-here base w.before e (subst (Standing base) w.whole s))
