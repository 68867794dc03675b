-- The edits of groups, read before and after any edit.
-- Proves, for each of them, that it is accepted and notes the same, forward and back.
-- From the list of groups, the group itself, and the identities that it has and names.
use Rattle.std.proofs.Common.{◌≡◌, ℕ, Bool, true, false, List, [], ◌∷◌, ◌++◌, Option, Some, None, refl, sym, ap, subst, ◌∙◌}
use Rattle.std.proofs.lemmas.Bool.{false≢true}
use Rattle.balise_rules.specs.declared.tag.Tag.{Tag}
use Rattle.balise_rules.specs.declared.tag.Tag.TheVariants.{Fresh}
use Rattle.balise_rules.specs.declared.identity.Id.{Id}
use Rattle.balise_rules.specs.Tagged.{find, behind, Put, Take}
use Rattle.balise_rules.specs.Tags.{same_tag}
use Rattle.balise_rules.specs.Plan.{Group, Plan, identity_of}
use Rattle.balise_rules.specs.Names.{is_real, names_in}
use Rattle.balise_rules.specs.Edits.{Item, group_of, group_after, groups_change, telegram_after}
use Rattle.balise_rules.specs.declared.tagged_edit.TaggedEdit.TheVariants.{AddGroup, DropGroup, Renumber}
use Rattle.balise_rules.specs.Notes.{Note, nothing, note_group, note_drop, noted}
use Rattle.balise_rules.specs.Doing.{done}
use Rattle.balise_rules.specs.Accepting.{NoName, NoGroup, Asks, Accepted, Unused}
use Rattle.balise_rules.specs.Paths.{At, After, Front, Turn, Name, Whose, Path, meet, anchor, neighbour, changes, needs}
use Rattle.balise_rules.proofs.Each.{each-same}
use Rattle.balise_rules.proofs.Names.{real_number}
use Rattle.balise_edit_laws.proofs.GroupsRead.{group_read}
use Rattle.balise_strike_laws.proofs.Fields.{identity}
use Rattle.balise_strike_laws.proofs.Neighbours.{noted_change, Free, takes, takes_out, Leaves, stands-kept, stood, noted-forward, noted-back}
use Rattle.balise_strike_laws.proofs.Levels.{Inner}
use Rattle.balise_strike_laws.proofs.Places.{In, first_of, later_of, in-ids, Clear, clear-longer, Reads, front_apart}
use Rattle.std.specs.Prelude.{Ok}
use Rattle.balise_rules.specs.Plan.{read_group}
use Rattle.balise_strike_laws.proofs.Facts.{Facts}
use Rattle.balise_strike_laws.proofs.Writers.{flip_side}
use Rattle.balise_strike_laws.proofs.Kept.{Unnamed}
use Rattle.balise_strike_laws.proofs.Locals.{telegram-id, real-own, Forward, Back}
use Rattle.balise_strike_laws.proofs.Groups.{group-forward, group-back}
use Rattle.balise_strike_laws.proofs.Identities.{no-name-forward, no-name-back, no-group-forward, no-group-back}
use Rattle.balise_strike_laws.proofs.Wholes.{group-same-names, group-same-after}

-- no group that is added has 16383
pub added_real : (bs : List (List Bool)) → read_group bs ≡ Ok (group_of bs) → is_real (identity_of (group_of bs)) ≡ true
added_real bs e = real_number (identity_of (group_of bs)) (group_read bs (group_of bs) e).sound.number

-- the list of groups
pub groups-free : (f : Item) → (m : Note) → (j : Id) → (c : Option Tag) → Clear (f, m) (anchor c ∷ After ∷ []) → Free (groups_change f j) c
groups-free (s, AddGroup a bs) m j c k = (flip_side a c (k (anchor a ∷ After ∷ []) (later_of first_of)), flip_side (Some (Fresh s)) c (k (At (Fresh s) ∷ []) first_of))
groups-free (serial, DropGroup g) m j c k = flip_side (Some g) c (k (At g ∷ []) first_of)
groups-free e m j c k = tt

pub groups-takes : (f : Item) → (m : Note) → (j : Id) → (b : Option Tag) → Clear (f, m) (neighbour b ∷ Front ∷ []) → takes (groups_change f j) b ≡ false
groups-takes (serial, DropGroup g) m j b k = front_apart (Some g) b (k (At g ∷ []) first_of)
groups-takes e m j c k = refl

pub drop-leaves : (serial : ℕ) → (g : Tag) → (n : Note) → (f : Item) → (m : Note) → Reads ((serial, DropGroup g), n) (f, m) →
    Leaves (groups_change f m.own) (Take g) n.before
drop-leaves serial g n f m r = (
  groups-free f m m.own (Some g) (clear-longer (f, m) (At g ∷ []) (After ∷ []) (r (At g ∷ []) first_of)),
  groups-takes f m m.own n.before (r (neighbour n.before ∷ Front ∷ []) (later_of first_of)),
)

pub add-leaves : (s : ℕ) → (a : Option Tag) → (bs : List (List Bool)) → (n : Note) → (f : Item) → (m : Note) → Reads ((s, AddGroup a bs), n) (f, m) →
    Leaves (groups_change f m.own) (Put a (Fresh s, group_of bs)) None
add-leaves s a bs n f m r = groups-free f m m.own a (r (anchor a ∷ After ∷ []) (later_of first_of))

-- what an accepted drop notes, as a place
groups-noted : (f : Item) → (plan : Plan) → Asks f.1 plan → takes_out (groups_change f (noted f.1 plan).own) ≡ true →
    In (neighbour (noted_change (groups_change f (noted f.1 plan).own) plan) ∷ Front ∷ []) (changes (f, noted f.1 plan))
groups-noted (serial, DropGroup g) plan a o =
    let n : (noted (DropGroup g) plan).before ≡ behind same_tag g plan = ap (λ u. (note_drop (behind same_tag g plan) u).before) a.1 in
    subst (λ u. In (neighbour u ∷ Front ∷ []) (changes ((serial, DropGroup g), noted (DropGroup g) plan))) n (later_of first_of)
groups-noted e plan a o = absurd (false≢true o)

idle : (f : Item) → (j : Id) → (g : Tag) → (xs : Group) → (Inner f.1 → group_after f j g xs ≡ xs) → group_after f j g xs ≡ xs
idle (s0, AddGroup a0 bs) j g xs h = each-same (telegram_after (s0, AddGroup a0 bs) j g) xs (λ t y. telegram-id y)
idle (serial0, DropGroup g0) j g xs h = each-same (telegram_after (serial0, DropGroup g0) j g) xs (λ t y. telegram-id y)
idle e j g xs h = h tt

abbrev drop_note : Option Tag → Group → Note
drop_note b xs = record nothing { before = b; own = identity_of xs; names = names_in xs; group = Some xs }

pub drop-names : (serial : ℕ) → (g : Tag) → (n : Note) → (f : Item) → (m : Note) → Reads ((serial, DropGroup g), n) (f, m) → (q : Id) → In q n.names → Unnamed (f, m) q
drop-names serial g n f m r q i = λ w. r (Whose q ∷ []) (later_of (later_of (later_of (in-ids q n.names i))))

module _ (f : Item) (plan : Plan) (s : Facts plan) (b : Accepted f.1 plan) where
  abbrev m1 : Note
  m1 = noted f.1 plan

  pub drop-forward : (serial : ℕ) → (g : Tag) → Accepted (DropGroup g) plan → Reads ((serial, DropGroup g), noted (DropGroup g) plan) (f, m1) →
      Forward (serial, DropGroup g) f plan
  drop-forward serial g a r =
      let n : noted (DropGroup g) plan ≡ drop_note (behind same_tag g plan) a.1.0 = ap (note_drop (behind same_tag g plan)) a.1.1 in
      let own_is = ap (λ u. u.own) n in
      let k = group-forward g Turn f plan s b.0 (clear-longer (f, m1) (At g ∷ []) (Turn ∷ []) (r (At g ∷ []) first_of)) a.1.0 a.1.1
      (subst (λ u. Clear (f, m1) (Whose u ∷ [])) own_is (r (Whose (noted (DropGroup g) plan).own ∷ []) (later_of (later_of first_of)))) in
      let e = idle f m1.own g a.1.0 (λ i. group-same-names f m1 (real-own f plan s) g (r (At g ∷ []) first_of) i a.1.0
      (λ q w. drop-names serial g (noted (DropGroup g) plan) f m1 r q (subst (λ u. In q u.names) (sym n) w))) in
      let h : find same_tag g (done f plan) ≡ Some a.1.0 = k.0 ∙ ap Some e in
      let lv = subst (λ u. Leaves (groups_change f m1.own) (Take g) u.before) n (drop-leaves serial g (noted (DropGroup g) plan) f m1 r) in
      ((tt, (a.1.0, h)), ap (note_drop (behind same_tag g (done f plan))) h ∙ ap (λ u. drop_note u a.1.0) (noted-forward (Take g) (groups_change f m1.own) plan lv) ∙ sym n)

  pub drop-back : (serial : ℕ) → (g : Tag) → Accepted (DropGroup g) (done f plan) → Reads ((serial, DropGroup g), noted (DropGroup g) (done f plan)) (f, m1) →
      Back (serial, DropGroup g) f plan
  drop-back serial g a r =
      let n : noted (DropGroup g) (done f plan) ≡ drop_note (behind same_tag g (done f plan)) a.1.0 = ap (note_drop (behind same_tag g (done f plan))) a.1.1 in
      let rr = subst (λ u. Reads ((serial, DropGroup g), u) (f, m1)) n r in
      let k = group-back g Turn f plan s b.0 (clear-longer (f, m1) (At g ∷ []) (Turn ∷ []) (r (At g ∷ []) first_of)) a.1.0 a.1.1
      (rr (Whose (identity_of a.1.0) ∷ []) (later_of (later_of first_of))) in
      let e = idle f m1.own g k.0 (λ i. group-same-after f m1 (real-own f plan s) b.0 g (r (At g ∷ []) first_of) i k.0
      (λ q w. drop-names serial g (drop_note (behind same_tag g (done f plan)) a.1.0) f m1 rr q (subst (λ u. In q (names_in u)) (sym k.2) w))) in
      let same_group : a.1.0 ≡ k.0 = k.2 ∙ e in
      let before_is = noted-back (groups_change f m1.own) (Take g) plan s.groups (drop-leaves serial g (drop_note (behind same_tag g (done f plan)) a.1.0) f m1 rr)
      (λ o o2. (front_apart (noted_change (groups_change f m1.own) plan) (behind same_tag g (done f plan))
      (rr (neighbour (behind same_tag g (done f plan)) ∷ Front ∷ []) (later_of first_of) (neighbour (noted_change (groups_change f m1.own) plan) ∷ Front ∷ []) (groups-noted f plan b.1 o)))) in
      ((tt, (k.0, k.1)), ap (note_drop (behind same_tag g plan)) k.1 ∙ ap (λ u. drop_note u k.0) before_is ∙ ap (λ u. drop_note (behind same_tag g (done f plan)) u) (sym same_group) ∙ sym n)

  module _ (un : Unused f.0 plan) where
    pub add-forward : (s0 : ℕ) → (c : Option Tag) → (bs : List (List Bool)) → Accepted (AddGroup c bs) plan →
        Reads ((s0, AddGroup c bs), noted (AddGroup c bs) plan) (f, m1) → Reads (f, m1) ((s0, AddGroup c bs), noted (AddGroup c bs) plan) → Forward (s0, AddGroup c bs) f plan
    add-forward s0 c bs a r1 r2 =
        let anchor_stands = stands-kept (groups_change f m1.own) c plan (add-leaves s0 c bs (noted (AddGroup c bs) plan) f m1 r1) a.1.0 in
        let none = no-group-forward plan s f b un (identity_of (group_of bs)) (added_real bs a.0) (λ pl h. r2 pl h (Whose (identity_of (group_of bs)) ∷ []) (later_of (later_of first_of))) a.1.1 in
        ((a.0, (anchor_stands, none)), refl)

    pub add-back : (s0 : ℕ) → (c : Option Tag) → (bs : List (List Bool)) → Accepted (AddGroup c bs) (done f plan) →
        Reads ((s0, AddGroup c bs), noted (AddGroup c bs) plan) (f, m1) → Reads (f, m1) ((s0, AddGroup c bs), noted (AddGroup c bs) plan) → Back (s0, AddGroup c bs) f plan
    add-back s0 c bs a r1 r2 =
        let anchor_stood = stood (groups_change f m1.own) c plan (add-leaves s0 c bs (noted (AddGroup c bs) plan) f m1 r1) a.1.0 in
        let none = no-group-back plan s f b un (identity_of (group_of bs)) (added_real bs a.0) (λ pl h. r2 pl h (Whose (identity_of (group_of bs)) ∷ []) (later_of (later_of first_of))) a.1.1 in
        ((a.0, (anchor_stood, none)), refl)

    pub ren-forward : (serial : ℕ) → (g : Tag) → (x : ℕ) → Accepted (Renumber g x) plan → Reads ((serial, Renumber g x), noted (Renumber g x) plan) (f, m1) →
        Reads (f, m1) ((serial, Renumber g x), noted (Renumber g x) plan) → Forward (serial, Renumber g x) f plan
    ren-forward serial g x a r1 r2 =
        let i = identity (identity_of a.1.0).country x in
        let real = real_number i a.0.1 in
        let n = ap note_group a.1.1 in
        let o = ap (λ u. u.own) n in
        let k = group-forward g Name f plan s b.0 (r1 (At g ∷ Name ∷ []) first_of) a.1.0 a.1.1 (subst (λ u. Clear (f, m1) (Whose u ∷ [])) o (r1 (Whose (noted (Renumber g x) plan).own ∷ []) (later_of first_of))) in
        let clear : (pl : Path) → In pl (changes (f, m1) ++ needs (f, m1)) → meet (Whose i ∷ []) pl ≡ false =
        λ pl h. subst (λ u. meet (Whose (identity u.country x) ∷ []) pl ≡ false) o (r2 pl h (Whose (identity (noted (Renumber g x) plan).own.country x) ∷ []) (later_of (later_of first_of))) in
        let group = subst (λ u. NoGroup (identity u.country x) (done f plan)) (sym k.1) (no-group-forward plan s f b un i real clear a.1.2) in
        let name = subst (λ u. NoName (identity u.country x) (done f plan)) (sym k.1) (no-name-forward plan s f b un i real clear a.1.3) in
        ((a.0, (group_after f m1.own g a.1.0, k.0, group, name)), ap note_group k.0 ∙ ap (λ u. record nothing { old = u.number; own = u }) k.1 ∙ sym n)

    pub ren-back : (serial : ℕ) → (g : Tag) → (x : ℕ) → Accepted (Renumber g x) (done f plan) →
        Reads ((serial, Renumber g x), noted (Renumber g x) (done f plan)) (f, m1) → Reads (f, m1) ((serial, Renumber g x), noted (Renumber g x) (done f plan)) →
        Back (serial, Renumber g x) f plan
    ren-back serial g x a r1 r2 =
        let i = identity (identity_of a.1.0).country x in
        let real = real_number i a.0.1 in
        let n = ap note_group a.1.1 in
        let o = ap (λ u. u.own) n in
        let k = group-back g Name f plan s b.0 (r1 (At g ∷ Name ∷ []) first_of) a.1.0 a.1.1 (subst (λ u. Clear (f, m1) (Whose u ∷ [])) o (r1 (Whose (noted (Renumber g x) (done f plan)).own ∷ []) (later_of first_of))) in
        let clear : (pl : Path) → In pl (changes (f, m1) ++ needs (f, m1)) → meet (Whose i ∷ []) pl ≡ false =
        λ pl h. subst (λ u. meet (Whose (identity u.country x) ∷ []) pl ≡ false) o (r2 pl h (Whose (identity (noted (Renumber g x) (done f plan)).own.country x) ∷ []) (later_of (later_of first_of))) in
        let group = subst (λ u. NoGroup (identity u.country x) plan) k.3 (no-group-back plan s f b un i real clear a.1.2) in
        let name = subst (λ u. NoName (identity u.country x) plan) k.3 (no-name-back plan s f b un i real clear a.1.3) in
        ((a.0, (k.0, k.1, group, name)), ap note_group k.1 ∙ ap (λ u. record nothing { old = u.number; own = u }) (sym k.3) ∙ sym n)
