-- Independent edits commute: the law, for all ordered pairs of kinds.
-- Proves it from the readers back for the second edit and forward for the first, and the result.
-- From the two clauses of independence, read from both sides; no pair of kinds is looked at by itself.
use Rattle.std.proofs.Common.{◌≡◌, ℕ, Bool, true, List, [], ◌∷◌, Option, sym, ap, subst, ◌∙◌}
use Rattle.balise_rules.specs.declared.tag.Tag.{Tag}
use Rattle.balise_rules.specs.declared.tag.Tag.TheVariants.{Fresh}
use Rattle.balise_rules.specs.Plan.{Plan}
use Rattle.balise_rules.specs.Names.{names_in}
use Rattle.balise_rules.specs.Edits.{Edit, Item, group_of, effect, group_after, groups_change}
use Rattle.balise_rules.specs.declared.tagged_edit.TaggedEdit.TheVariants.{InsertPacket, AddGroup, DropGroup, Renumber, TurnGroup}
use Rattle.balise_rules.specs.Notes.{Note, noted}
use Rattle.balise_rules.specs.Doing.{done}
use Rattle.balise_rules.specs.Accepting.{Lawful, Accepted, Unused}
use Rattle.balise_rules.specs.Paths.{At, Whose, room_apart, apart}
use Rattle.balise_strike_laws.proofs.Changes.{ChangesApart, changes-commute}
use Rattle.balise_strike_laws.proofs.Neighbours.{Leaves, lists-apart, OfList}
use Rattle.balise_strike_laws.proofs.Levels.{inner-change, Inner}
use Rattle.balise_strike_laws.proofs.Places.{first_of, later_of, in-ids, Reads, apart_sides}
use Rattle.balise_strike_laws.specs.Laws.{Commutes, Commuting}
use Rattle.balise_strike_laws.proofs.Facts.{Facts, facts}
use Rattle.balise_strike_laws.proofs.Locals.{local-forward, local-back, real-own, Forward, Back}
use Rattle.balise_strike_laws.proofs.Rooms.{room-back, room-forward, room-sym}
use Rattle.balise_strike_laws.proofs.Groups.{turn-forward, turn-back}
use Rattle.balise_strike_laws.proofs.Wholes.{group-same-names}
use Rattle.balise_strike_laws.proofs.GroupReaders.{drop-forward, drop-back, add-forward, add-back, ren-forward, ren-back, drop-leaves, add-leaves}
use Rattle.balise_strike_laws.proofs.Results.{same-result}

back-any : (e f : Item) → (plan : Plan) → Facts plan → Unused f.0 plan → Accepted f.1 plan → Accepted e.1 (done f plan) → room_apart e.1 f.1 ≡ true →
    Reads (e, noted e.1 (done f plan)) (f, noted f.1 plan) → Reads (f, noted f.1 plan) (e, noted e.1 (done f plan)) → Back e f plan
back-any (s0, AddGroup c bs) f plan s un b a w r1 r2 = add-back f plan s b un s0 c bs a r1 r2
back-any (serial, DropGroup g) f plan s un b a w r1 r2 = drop-back f plan s b serial g a r1
back-any (serial, Renumber g x) f plan s un b a w r1 r2 = ren-back f plan s b un serial g x a r1 r2
back-any (serial, TurnGroup g) f plan s un b a w r1 r2 = turn-back serial g f plan s a b.0 r1
back-any (s0, InsertPacket g t c x) f plan s un b a w r1 r2 = local-back (s0, InsertPacket g t c x) tt f plan s a b r1 (λ y q k. room-back (s0, InsertPacket g t c x) tt f w plan s b.1 (noted f.1 plan).own y q k)
back-any e f plan s un b a w r1 r2 = local-back e tt f plan s a b r1 (λ y q k. tt)

forward-any : (e f : Item) → (plan : Plan) → Facts plan → Unused f.0 plan → Accepted e.1 plan → Accepted f.1 plan → Accepted f.1 (done e plan) →
    room_apart e.1 f.1 ≡ true → Reads (e, noted e.1 plan) (f, noted f.1 plan) → Reads (f, noted f.1 plan) (e, noted e.1 plan) → Forward e f plan
forward-any (s0, AddGroup c bs) f plan s un a b d w r1 r2 = add-forward f plan s b un s0 c bs a r1 r2
forward-any (serial, DropGroup g) f plan s un a b d w r1 r2 = drop-forward f plan s b serial g a r1
forward-any (serial, Renumber g x) f plan s un a b d w r1 r2 = ren-forward f plan s b un serial g x a r1 r2
forward-any (serial, TurnGroup g) f plan s un a b d w r1 r2 = turn-forward serial g f plan s a b.0 r1
forward-any (s0, InsertPacket g t c x) f plan s un a b d w r1 r2 = local-forward (s0, InsertPacket g t c x) tt f plan s a b r1 r2
    (λ y q k. room-forward (s0, InsertPacket g t c x) tt f w plan s a.1 b.1 (noted (InsertPacket g t c x) plan).own (noted f.1 plan).own d.1 y q k)
forward-any e f plan s un a b d w r1 r2 = local-forward e tt f plan s a b r1 r2 (λ y q k. tt)

-- an added group is left as it is
added-same : (s0 : ℕ) → (c : Option Tag) → (bs : List (List Bool)) → (f : Item) → (plan : Plan) → Facts plan → Inner f.1 →
    Reads ((s0, AddGroup c bs), noted (AddGroup c bs) plan) (f, noted f.1 plan) → group_after f (noted f.1 plan).own (Fresh s0) (group_of bs) ≡ group_of bs
added-same s0 c bs f plan s h r = group-same-names f (noted f.1 plan) (real-own f plan s) (Fresh s0) (r (At (Fresh s0) ∷ []) first_of) h (group_of bs)
    (λ q i w. r (Whose q ∷ []) (later_of (later_of (later_of (in-ids q (names_in (group_of bs)) i)))))

inner-apart : (e f : Item) → (plan : Plan) → Facts plan → Inner e.1 → (Inner f.1 → ⊥) → Reads (f, noted f.1 plan) (e, noted e.1 plan) →
    ChangesApart (groups_change e (noted e.1 plan).own) (groups_change f (noted f.1 plan).own) plan × ChangesApart (groups_change f (noted f.1 plan).own) (groups_change e (noted e.1 plan).own) plan
inner-apart e (s0, AddGroup c bs) plan s h k r = rw (inner-change e h (noted e.1 plan).own) (added-same s0 c bs e plan s h r, added-same s0 c bs e plan s h r)
inner-apart e (serial, DropGroup g) plan s h k r = rw (inner-change e h (noted e.1 plan).own) (tt, tt)
inner-apart e f plan s h k r = absurd (k tt)

abbrev pub Outer : Edit → Type 0
Outer (AddGroup a bs) = Unit {0}
Outer (DropGroup g) = Unit {0}
Outer e = ⊥

in-or-out : {P : Type 0} → (e : Item) → (Inner e.1 → P) → (Outer e.1 → (Inner e.1 → ⊥) → P) → P
in-or-out (s0, AddGroup c bs) i o = o tt (λ h. h)
in-or-out (serial, DropGroup g) i o = o tt (λ h. h)
in-or-out e i o = i tt

outer-list : (e : Item) → Outer e.1 → (n : Note) →
    OfList (groups_change e n.own) × ((f : Item) → (m : Note) → Reads (e, n) (f, m) → Leaves (groups_change f m.own) (groups_change e n.own) n.before)
outer-list (s0, AddGroup c bs) h n = (tt, λ f m r. add-leaves s0 c bs n f m r)
outer-list (serial, DropGroup g) h n = (tt, λ f m r. drop-leaves serial g n f m r)
outer-list e h n = absurd h

result-any : (e f : Item) → (plan : Plan) → Facts plan → Lawful e.1 → Lawful f.1 → Reads (e, noted e.1 plan) (f, noted f.1 plan) →
    Reads (f, noted f.1 plan) (e, noted e.1 plan) → effect f (noted f.1 plan).own (done e plan) ≡ effect e (noted e.1 plan).own (done f plan)
result-any e f plan s le lf r1 r2 =
    in-or-out e
    (λ he. in-or-out f
    (λ hf. same-result e f plan s he hf le lf r1 r2)
    (λ of nf. changes-commute (groups_change f (noted f.1 plan).own) (groups_change e (noted e.1 plan).own) plan s.groups (inner-apart e f plan s he nf r2).1))
    (λ oe ne. in-or-out f
    (λ hf. changes-commute (groups_change f (noted f.1 plan).own) (groups_change e (noted e.1 plan).own) plan s.groups (inner-apart f e plan s hf ne r1).0)
    (λ of nf. let a = outer-list e oe (noted e.1 plan) in let b = outer-list f of (noted f.1 plan) in
    changes-commute (groups_change f (noted f.1 plan).own) (groups_change e (noted e.1 plan).own) plan s.groups
    (lists-apart (groups_change f (noted f.1 plan).own) (groups_change e (noted e.1 plan).own) plan (noted f.1 plan).before (noted e.1 plan).before b.0 a.0 (b.1 e (noted e.1 plan) r2) (a.1 f (noted f.1 plan) r1))))

-- all 81 ordered pairs
pub commute_from : (e f : Item) → (plan : Plan) → Facts plan → Unused e.0 plan → Unused f.0 plan → Accepted e.1 plan → Accepted f.1 (done e plan) →
    apart (e, noted e.1 plan) (f, noted f.1 (done e plan)) ≡ true → Commutes e f plan
commute_from e f plan s ue uf a b far =
    let w = apart_sides (e, noted e.1 plan) (f, noted f.1 (done e plan)) far in
    let back = back-any f e plan s ue a b (room-sym e.1 f.1 w.room) w.second w.first in
    let r1 = subst (λ m. Reads (e, noted e.1 plan) (f, m)) (sym back.1) w.first in
    let r2 = subst (λ m. Reads (f, m) (e, noted e.1 plan)) (sym back.1) w.second in
    let fwd = forward-any e f plan s uf a back.0 b w.room r1 r2 in
    let same_plan : effect f (noted f.1 plan).own (done e plan) ≡ effect e (noted e.1 plan).own (done f plan) = result-any e f plan s a.0 b.0 r1 r2 in
    record {
      second_first = back.0;
      second_notes = back.1;
      first_then = fwd.0;
      first_notes = fwd.1;
      same_plan = ap (λ m. effect f m.own (done e plan)) (sym back.1) ∙ same_plan ∙ ap (λ m. effect e m.own (done f plan)) (sym fwd.1);
    }

pub commuting : Commuting
commuting e f plan h far = commute_from e f plan (facts plan h.sound) h.first_unused h.second_unused h.first_accepted h.second_accepted far
