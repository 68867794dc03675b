-- When a later edit is independent of an earlier one: it is apart from it, or it is anchored on what that one put in, and can stand on that one's own anchor instead (this project's own).
use Rattle.std.specs.Prelude.{ℕ, Bool, true, false, cond, ◌&&◌, ◌||◌, not, eqb, List, [], ◌∷◌, ◌++◌, map, filter, find, Option, Some, None, is_some}
use Rattle.balise_rules.specs.declared.tag.Tag.{Tag}
use Rattle.balise_rules.specs.declared.tag.Tag.TheVariants.{Fresh}
use Rattle.balise_rules.specs.Edits.{Item}
use Rattle.balise_rules.specs.declared.tagged_edit.TaggedEdit.{TaggedEdit}
use Rattle.balise_rules.specs.declared.tagged_edit.TaggedEdit.TheVariants.{InsertPacket, MovePacket, AddGroup}
use Rattle.balise_rules.specs.Paths.{At, Nth, After, Path, Entry, same_part, changes, needs, any_meets, room_apart, apart}

-- the path of what an edit puts in
abbrev pub put_in : Item → Option Path
put_in (s, InsertPacket g t a x) = Some (At g ∷ Nth t ∷ At (Fresh s) ∷ [])
put_in (s, AddGroup a bs) = Some (At (Fresh s) ∷ [])
put_in e = None

-- the path of the tag that an edit is anchored on
abbrev pub anchored_on : Item → Option Path
anchored_on (s, InsertPacket g t (Some a) x) = Some (At g ∷ Nth t ∷ At a ∷ [])
anchored_on (s, MovePacket g t p (Some a)) = Some (At g ∷ Nth t ∷ At a ∷ [])
anchored_on (s, AddGroup (Some a) bs) = Some (At a ∷ [])
anchored_on e = None

abbrev pub same_path : Path → Path → Bool
same_path [] [] = true
same_path (a ∷ p) (b ∷ q) = same_part a b && same_path p q
same_path p q = false

abbrev pub one_path : Option Path → Option Path → Bool
one_path (Some p) (Some q) = same_path p q
one_path p q = false

abbrev pub behind_path : Option Path → Path
behind_path None = []
behind_path (Some p) = p ++ After ∷ []

-- the places that f changes, but for the side after what e puts in
abbrev pub changes_but : Item → Entry → List Path
changes_but e f = filter (λ p. not (same_path p (behind_path (put_in e)))) (changes f)

-- a later f is anchored on what e puts in, and is apart from e but for the side after that
abbrev pub stands_behind : Entry → Entry → Bool
stands_behind e f =
    one_path (put_in e.0) (anchored_on f.0)
    && (not (any_meets (changes e) (changes_but e.0 f ++ needs f)) && (not (any_meets (needs e) (changes_but e.0 f)) && room_apart e.0.1 f.0.1))

-- the anchor of an edit
abbrev pub anchor_of : {P T : Type 0} → TaggedEdit P T → Option Tag
anchor_of (InsertPacket g t a x) = a
anchor_of (MovePacket g t p a) = a
anchor_of (AddGroup a bs) = a
anchor_of e = None

-- an edit with another anchor
abbrev pub anchored : {P T : Type 0} → Option Tag → TaggedEdit P T → TaggedEdit P T
anchored a (InsertPacket g t b x) = InsertPacket g t a x
anchored a (MovePacket g t p b) = MovePacket g t p a
anchored a (AddGroup b bs) = AddGroup a bs
anchored a e = e

-- f with the anchor of e
abbrev pub re_anchored : Item → Item → Item
re_anchored e f = (f.0, anchored (anchor_of e.1) f.1)

-- a later entry f is independent of e: it is apart from e, or stands after it
abbrev pub independent : Entry → Entry → Bool
independent e f = apart e f || stands_behind e f

-- what a later edit becomes where e is struck: itself, where it is apart from e; with the anchor of e, where it stands after e
abbrev pub becomes : Entry → Entry → Option Item
becomes e f = cond (apart e f) (Some f.0) (cond (stands_behind e f) (Some (re_anchored e.0 f.0)) None)

-- the serials of the entries that aren't apart from e; where all are independent of e, these stand after it
abbrev pub serials_behind : Entry → List Entry → List ℕ
serials_behind e fs = map (λ (f : Entry). f.0.0) (filter (λ (f : Entry). not (apart e f)) fs)

-- the edits of these serials with this anchor
abbrev pub hung : Option Tag → List ℕ → List Item → List Item
hung a serials es = map (λ (e : Item). cond (is_some (find (λ n. eqb n e.0) serials)) (e.0, anchored a e.1) e) es
