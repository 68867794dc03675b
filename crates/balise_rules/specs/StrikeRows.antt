-- Worked rows of strikes under later edits that stand after what was struck.
use Rattle.std.specs.Prelude.{[], ◌∷◌, ◌++◌, codes}
use Rattle.balise_rules.specs.Session.{Strike, Redo, Done, Redone, Struck}
use Rattle.balise_rules.specs.Examples.{Text, padded, alone, empty, revoking, linking_100, linking_twice}
use Rattle.balise_rules.specs.Rows.{Gives, insert, move}
use Rattle.balise_rules.specs.GroupRows.{add}

-- 5.100 with packets 66: NID_TSR 5 and 6
abbrev pub two_packets : Text
two_packets = codes "a1007f80a03250900f82a1201f06" ++ (padded 12 ++ codes "c0")

-- A packet inserted after another that was inserted stays where that one is struck, and stands after it again where it is done again.
abbrev pub TwoInserted : Type 0
TwoInserted =
    Gives (alone empty) (insert 0 (codes "42403e0a") ∷ insert 1 (codes "42403e0c") ∷ Strike 1 ∷ []) (Done 1 ∷ Done 2 ∷ Struck 1 ∷ [])
    (alone (codes "a1007f80a03250900f837f" ++ (padded 15 ++ codes "c0")))
    × Gives (alone empty) (insert 0 (codes "42403e0a") ∷ insert 1 (codes "42403e0c") ∷ Strike 1 ∷ Redo ∷ []) (Done 1 ∷ Done 2 ∷ Struck 1 ∷ Redone 1 ∷ [])
    (alone two_packets)
    × Gives (alone empty) (insert 0 (codes "42403e0a") ∷ insert 1 (codes "42403e0c") ∷ Strike 1 ∷ Redo ∷ Strike 1 ∷ Strike 2 ∷ Redo ∷ Redo ∷ [])
    (Done 1 ∷ Done 2 ∷ Struck 1 ∷ Redone 1 ∷ Struck 1 ∷ Struck 2 ∷ Redone 2 ∷ Redone 1 ∷ [])
    (alone two_packets)

-- A group added after another added one stays where that one is struck, and stands after it again when it is redone.
abbrev pub TwoAdded : Type 0
TwoAdded =
    Gives (alone empty) (add 1 linking_100 ∷ add 2 linking_twice ∷ Strike 1 ∷ []) (Done 1 ∷ Done 2 ∷ Struck 1 ∷ []) ((empty ∷ []) ∷ (linking_twice ∷ []) ∷ [])
    × Gives (alone empty) (add 1 linking_100 ∷ add 2 linking_twice ∷ Strike 1 ∷ Redo ∷ []) (Done 1 ∷ Done 2 ∷ Struck 1 ∷ Redone 1 ∷ []) ((empty ∷ []) ∷ (linking_100 ∷ []) ∷ (linking_twice ∷ []) ∷ [])

-- A packet moved after one that was inserted.
abbrev pub MovedBehind : Type 0
MovedBehind =
    Gives (alone revoking) (insert 1 (codes "42403e0c") ∷ insert 2 (codes "42403e0e") ∷ insert 0 (codes "42403e12") ∷ move 3 1 ∷ Strike 3 ∷ [])
    (Done 1 ∷ Done 2 ∷ Done 3 ∷ Done 4 ∷ Struck 3 ∷ [])
    (alone (codes "a1007f80a03250900f83a1201f0542403e0d" ++ (padded 8 ++ codes "c0")))
    × Gives (alone revoking) (insert 1 (codes "42403e0c") ∷ insert 2 (codes "42403e0e") ∷ insert 0 (codes "42403e12") ∷ move 3 1 ∷ Strike 3 ∷ Redo ∷ [])
    (Done 1 ∷ Done 2 ∷ Done 3 ∷ Done 4 ∷ Struck 3 ∷ Redone 3 ∷ [])
    (alone (codes "a1007f80a03250900f84a1201f0742403e0a84807c1b" ++ (padded 4 ++ codes "c0")))
