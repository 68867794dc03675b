-- Worked rows of groups and sessions.
use Rattle.std.specs.Prelude.{◌≡◌, ℕ, List, [], ◌∷◌, ◌++◌, codes, Ok}
use Rattle.balise_rules.specs.declared.variable.Var.TheVariants.{QLink, DLink, DTsr}
use Rattle.balise_rules.specs.declared.refusal.Refusal.TheVariants.{NotABalise, NoEnd, PacketCut, LayoutMismatch, PacketZero, GroupSize, HeaderDisagrees, NumberReserved, GroupTwice, NoSuchGroup, ValueTooWide, NumberTaken, NothingToUndo, NothingToRedo, NoSuchEdit, DependsOn}
use Rattle.balise_rules.specs.declared.tag.Tag.TheVariants.{Base}
use Rattle.balise_rules.specs.declared.review.Reviewed.TheVariants.{Field, Opaque}
use Rattle.balise_rules.specs.Refusals.{and_then}
use Rattle.balise_rules.specs.Addresses.{AskSet, AskSetHead, AskInsert, AskAdd, AskDrop, AskRenumber, AskTurn}
use Rattle.balise_rules.specs.Session.{Call, Ask, Undo, Redo, Strike, Done, Undone, Redone, Struck, Refused}
use Rattle.balise_rules.specs.Review.{review}
use Rattle.balise_rules.specs.Examples.{Text, padded, plan_of, word, line, id, alone, empty, revoking, restricting, linking_100, linking_twice, four_packets, three}
use Rattle.balise_rules.specs.Rows.{Gives, IsRefused, set_tsr, insert, delete, move}

abbrev pub renumber : ℕ → ℕ → Call
renumber n m = Ask (AskRenumber (id 5 n) m)

-- A group renumbered with the link that names it; a link to a group of another country stays.
abbrev pub Renumbered : Type 0
Renumbered =
    Gives ((empty ∷ []) ∷ (linking_100 ∷ []) ∷ (linking_twice ∷ []) ∷ []) (renumber 100 200 ∷ []) (Done 1 ∷ [])
    (((codes "a1007f80a0647f" ++ (padded 19 ++ codes "c0")) ∷ []) ∷ ((codes "a1007f80a032c15022a07d00646301" ++ (padded 11 ++ codes "c0")) ∷ []) ∷ (linking_twice ∷ []) ∷ [])
    × Gives ((empty ∷ []) ∷ (linking_100 ∷ []) ∷ (linking_twice ∷ []) ∷ []) (renumber 100 200 ∷ Undo ∷ []) (Done 1 ∷ Undone 1 ∷ [])
    ((empty ∷ []) ∷ (linking_100 ∷ []) ∷ (linking_twice ∷ []) ∷ [])

-- A number that only a dangling link has is taken; so is the group's own.
abbrev pub RenumberRefused : Type 0
RenumberRefused =
    Gives (alone linking_100) (renumber 101 100 ∷ renumber 101 101 ∷ renumber 101 16383 ∷ renumber 101 16384 ∷ renumber 999 7 ∷ [])
    (Refused NumberTaken ∷ Refused NumberTaken ∷ Refused NumberReserved ∷ Refused ValueTooWide ∷ Refused NoSuchGroup ∷ [])
    (alone linking_100)

abbrev pub turn : Call
turn = Ask (AskTurn (id 5 100))

abbrev pub three_turned : List Text
three_turned =
    (codes "a1047f80a0327f" ++ (padded 19 ++ codes "c0"))
    ∷ (codes "a114ff80a0324b1010697f" ++ (padded 15 ++ codes "c0"))
    ∷ (codes "a1257f80a032504023a0a0320096047f" ++ (padded 10 ++ codes "c0")) ∷ []

abbrev pub met_in_reverse : Text
met_in_reverse = codes "a1007f80a032c15022a07d00322301" ++ (padded 11 ++ codes "c0")

abbrev pub turned_and_more : List Text
turned_and_more =
    (codes "a1047f80a03250900f82" ++ (padded 16 ++ codes "c0"))
    ∷ (codes "a114ff80a0324b1010697f" ++ (padded 15 ++ codes "c0"))
    ∷ (codes "a1257f80a032504023a0a0320096047f" ++ (padded 10 ++ codes "c0")) ∷ []

-- A group of three turned, with a link elsewhere that names it; an insertion depends on the turn.
abbrev pub Turned : Type 0
Turned =
    Gives (three ∷ (linking_100 ∷ []) ∷ []) (turn ∷ []) (Done 1 ∷ []) (three_turned ∷ (met_in_reverse ∷ []) ∷ [])
    × Gives (three ∷ (linking_100 ∷ []) ∷ []) (turn ∷ insert 0 (codes "42403e0a") ∷ Strike 1 ∷ []) (Done 1 ∷ Done 2 ∷ Refused (DependsOn 2) ∷ []) (turned_and_more ∷ (met_in_reverse ∷ []) ∷ [])
    × Gives (three ∷ (linking_100 ∷ []) ∷ []) (turn ∷ insert 0 (codes "42403e0a") ∷ Undo ∷ Undo ∷ []) (Done 1 ∷ Done 2 ∷ Undone 2 ∷ Undone 1 ∷ []) (three ∷ (linking_100 ∷ []) ∷ [])

-- What is to be looked at after that turn.
abbrev pub TurnReviewed : Type 0
TurnReviewed =
    and_then (plan_of (three ∷ (linking_100 ∷ []) ∷ [])) (λ plan. Ok (review (Base 0) plan))
    ≡ Ok (record { id = id 5 100; pig = 1; pkt = 0; what = Opaque 44 }
    ∷ record { id = id 5 100; pig = 2; pkt = 0; what = Field DTsr 0 200 }
    ∷ record { id = id 5 101; pig = 0; pkt = 0; what = Field DLink 0 500 } ∷ [])

abbrev pub moved_1_4 : Text
moved_1_4 = codes "a1007f80a03250900f81a1201f0142403e09" ++ (padded 8 ++ codes "c0")

abbrev pub struck_2_3_4 : Text
struck_2_3_4 = codes "a1007f80a03250900f8121201f0342403e09" ++ (padded 8 ++ codes "c0")

abbrev pub moved_3_2_4 : Text
moved_3_2_4 = codes "a1007f80a03250900f81a1201f0242403e09" ++ (padded 8 ++ codes "c0")

-- A move struck while a later edit stands: one that takes out the moved packet's old neighbour depends on it.
abbrev pub FourPackets : Type 0
FourPackets =
    Gives (alone four_packets) (move 2 0 ∷ delete 2 ∷ Strike 1 ∷ []) (Done 1 ∷ Done 2 ∷ Refused (DependsOn 2) ∷ []) (alone moved_1_4)
    × Gives (alone four_packets) (move 2 0 ∷ delete 1 ∷ Strike 1 ∷ []) (Done 1 ∷ Done 2 ∷ Struck 1 ∷ []) (alone struck_2_3_4)
    × Gives (alone four_packets) (move 2 0 ∷ delete 1 ∷ Strike 1 ∷ Redo ∷ []) (Done 1 ∷ Done 2 ∷ Struck 1 ∷ Redone 1 ∷ []) (alone moved_3_2_4)
    × Gives (alone four_packets) (move 2 0 ∷ delete 1 ∷ Strike 1 ∷ Redo ∷ Strike 1 ∷ []) (Done 1 ∷ Done 2 ∷ Struck 1 ∷ Redone 1 ∷ Struck 1 ∷ []) (alone struck_2_3_4)
    × Gives (alone four_packets) (move 2 0 ∷ insert 3 (codes "2c402e") ∷ Strike 1 ∷ []) (Done 1 ∷ Done 2 ∷ Struck 1 ∷ [])
    (alone (codes "a1007f80a03250900f80a1201f022c402e84807c0d0900f827ffc0"))

-- An insertion into room that a deletion made depends on it.
abbrev pub Refilled : Type 0
Refilled = Gives (alone restricting) (delete 0 ∷ insert 0 (codes "42403e0a") ∷ Strike 1 ∷ []) (Done 1 ∷ Done 2 ∷ Refused (DependsOn 2) ∷ []) (alone revoking)

-- A link's distance struck, while the link was renumbered and a packet inserted since.
abbrev pub LinkStruck : Type 0
LinkStruck =
    Gives ((empty ∷ []) ∷ (linking_100 ∷ []) ∷ [])
    (Ask (AskSet (id 5 101) 0 0 DLink 0 600) ∷ renumber 101 300 ∷ Ask (AskInsert (id 5 300) 0 0 (word (codes "42403e0a"))) ∷ Strike 1 ∷ [])
    (Done 1 ∷ Done 2 ∷ Done 3 ∷ Struck 1 ∷ [])
    ((empty ∷ []) ∷ ((codes "a1007f80a09650900f8282a04540fa0064c603" ++ (padded 7 ++ codes "c0")) ∷ []) ∷ [])

-- Nothing to undo, to redo or to strike.
abbrev pub NothingDone : Type 0
NothingDone = Gives (alone empty) (Undo ∷ Redo ∷ Strike 9 ∷ []) (Refused NothingToUndo ∷ Refused NothingToRedo ∷ Refused NoSuchEdit ∷ []) (alone empty)

abbrev pub add : ℕ → Text → Call
add at t = Ask (AskAdd at (line t ∷ []))

-- Groups dropped and added, undone and done again; a group added twice, or past the end.
abbrev pub DroppedAndAdded : Type 0
DroppedAndAdded =
    Gives ((empty ∷ []) ∷ (linking_100 ∷ []) ∷ [])
    (Ask (AskDrop (id 5 100)) ∷ Ask (AskDrop (id 5 101)) ∷ add 0 revoking ∷ Undo ∷ Undo ∷ Undo ∷ Undo ∷ Redo ∷ Redo ∷ Redo ∷ [])
    (Done 1 ∷ Done 2 ∷ Done 3 ∷ Undone 3 ∷ Undone 2 ∷ Undone 1 ∷ Refused NothingToUndo ∷ Redone 1 ∷ Redone 2 ∷ Redone 3 ∷ [])
    (alone revoking)
    × Gives (alone empty) (add 1 empty ∷ add 3 linking_100 ∷ Ask (AskDrop (id 5 999)) ∷ []) (Refused GroupTwice ∷ Refused NoSuchGroup ∷ Refused NoSuchGroup ∷ []) (alone empty)

-- Plans that are refused: no balise, no end, a packet that is cut, packet 0, packets whose fields end elsewhere, a group twice, a group of none, headers that disagree.
abbrev pub PlansRefused : Type 0
PlansRefused =
    IsRefused (alone (codes "a1807f80a0327f" ++ (padded 19 ++ codes "c0"))) NotABalise
    × IsRefused (alone (codes "a1007f80a0324b2050000000000000000000000000000000000000")) NoEnd
    × IsRefused (alone (codes "a1007f80a0324b200b3f" ++ (padded 16 ++ codes "c0"))) PacketCut
    × IsRefused (alone (codes "a1007f80a0324b1f" ++ (padded 18 ++ codes "c0"))) PacketCut
    × IsRefused (alone (codes "a1007f80a032403f" ++ (padded 18 ++ codes "c0"))) PacketZero
    × IsRefused (alone (codes "a1007f80a03250901002bf" ++ (padded 15 ++ codes "c0"))) LayoutMismatch
    × IsRefused ((empty ∷ []) ∷ (empty ∷ []) ∷ []) GroupTwice
    × IsRefused ([] ∷ []) GroupSize
    × IsRefused (((codes "a1157f80a0324b0010697f" ++ (padded 15 ++ codes "c0")) ∷ (codes "a104ff80a032505023a0a0320096047f" ++ (padded 10 ++ codes "c0")) ∷ (codes "a1247f80a0327f" ++ (padded 19 ++ codes "c0")) ∷ []) ∷ []) HeaderDisagrees

-- A new edit empties the stack, and takes a new serial.
abbrev pub EditedAfterUndo : Type 0
EditedAfterUndo =
    Gives (alone revoking) (set_tsr ∷ Undo ∷ Ask (AskSetHead (id 5 100) 0 QLink 1) ∷ Redo ∷ []) (Done 1 ∷ Undone 1 ∷ Done 2 ∷ Refused NothingToRedo ∷ []) (alone revoking)
