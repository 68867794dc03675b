-- Worked rows of packet 136, which names a group without an orientation.
use Rattle.std.specs.Prelude.{◌≡◌, ℕ, [], ◌∷◌, ◌++◌, codes, Ok}
use Rattle.balise_rules.specs.declared.variable.Var.TheVariants.{NidBg, QNewcountry, QLinkorientation, DTsr}
use Rattle.balise_rules.specs.declared.refusal.Refusal.TheVariants.{LayoutMismatch, NoSuchVariable, Steering, NumberTaken, DependsOn}
use Rattle.balise_rules.specs.declared.tag.Tag.TheVariants.{Base}
use Rattle.balise_rules.specs.declared.review.Reviewed.TheVariants.{Field, Opaque}
use Rattle.balise_rules.specs.Refusals.{and_then}
use Rattle.balise_rules.specs.Addresses.{AskSet, AskTurn}
use Rattle.balise_rules.specs.Session.{Call, Ask, Undo, Strike, Done, Undone, Refused}
use Rattle.balise_rules.specs.Review.{review}
use Rattle.balise_rules.specs.Examples.{Text, padded, plan_of, id, alone, empty, three}
use Rattle.balise_rules.specs.Rows.{Gives, IsRefused}
use Rattle.balise_rules.specs.GroupRows.{renumber}

-- 5.103 with a packet 136 that names 5.100
abbrev pub informing_100 : Text
informing_100 = codes "a1007f80a033e210130064" ++ (padded 15 ++ codes "c0")

abbrev pub turn_of : ℕ → Call
turn_of n = Ask (AskTurn (id 5 n))

abbrev pub renamed_empty : Text
renamed_empty = codes "a1007f80a0647f" ++ (padded 19 ++ codes "c0")

-- A renumbering follows the name, a turn of the named group leaves the packet, and a turn of its own group exchanges its Q_DIR; its name counts as taken.
abbrev pub InfillRenumbered : Type 0
InfillRenumbered =
    Gives ((empty ∷ []) ∷ (informing_100 ∷ []) ∷ []) (renumber 100 200 ∷ []) (Done 1 ∷ [])
    ((renamed_empty ∷ []) ∷ ((codes "a1007f80a033e2101300c8" ++ (padded 15 ++ codes "c0")) ∷ []) ∷ [])
    × Gives ((empty ∷ []) ∷ (informing_100 ∷ []) ∷ []) (renumber 100 200 ∷ turn_of 200 ∷ turn_of 103 ∷ renumber 103 200 ∷ Strike 1 ∷ [])
    (Done 1 ∷ Done 2 ∷ Done 3 ∷ Refused NumberTaken ∷ Refused (DependsOn 2) ∷ [])
    ((renamed_empty ∷ []) ∷ ((codes "a1007f80a033e2001300c8" ++ (padded 15 ++ codes "c0")) ∷ []) ∷ [])
    × Gives ((empty ∷ []) ∷ (informing_100 ∷ []) ∷ []) (renumber 100 200 ∷ turn_of 200 ∷ turn_of 103 ∷ Undo ∷ Undo ∷ Undo ∷ []) (Done 1 ∷ Done 2 ∷ Done 3 ∷ Undone 3 ∷ Undone 2 ∷ Undone 1 ∷ [])
    ((empty ∷ []) ∷ (informing_100 ∷ []) ∷ [])

-- A number that only such a packet names is taken.
abbrev pub InfillTaken : Type 0
InfillTaken = Gives (alone informing_100) (renumber 103 100 ∷ []) (Refused NumberTaken ∷ []) (alone informing_100)

-- Its name is set like a link's; it has no orientation, and whether it names a country steers.
abbrev pub InfillSet : Type 0
InfillSet =
    Gives (alone informing_100)
    (Ask (AskSet (id 5 103) 0 0 NidBg 0 200) ∷ Ask (AskSet (id 5 103) 0 0 QLinkorientation 0 1) ∷ Ask (AskSet (id 5 103) 0 0 QNewcountry 0 1) ∷ [])
    (Done 1 ∷ Refused NoSuchVariable ∷ Refused Steering ∷ [])
    (alone (codes "a1007f80a033e2101300c8" ++ (padded 15 ++ codes "c0")))

-- One of another length is no packet.
abbrev pub InfillCut : Type 0
InfillCut = IsRefused (alone (codes "a1007f80a033e2101380647f" ++ (padded 14 ++ codes "c0"))) LayoutMismatch

-- A turn of the group that it names has nothing to look at in it.
abbrev pub InfillReviewed : Type 0
InfillReviewed =
    and_then (plan_of (three ∷ (informing_100 ∷ []) ∷ [])) (λ plan. Ok (review (Base 0) plan))
    ≡ Ok (record { id = id 5 100; pig = 1; pkt = 0; what = Opaque 44 } ∷ record { id = id 5 100; pig = 2; pkt = 0; what = Field DTsr 0 200 } ∷ [])
