-- Worked rows: what the rules give for them. The checker computes each.
use Rattle.std.specs.Prelude.{◌≡◌, ℕ, List, [], ◌∷◌, ◌++◌, codes, Result, Ok, Err}
use Rattle.balise_rules.specs.declared.variable.Var.TheVariants.{NidTsr, MMcount, NidBg, NidC, VDiff, QDiff, QDir, GA, NIter, DGradient, NidNtc, MLeveltr}
use Rattle.balise_rules.specs.declared.refusal.Refusal.{Refusal}
use Rattle.balise_rules.specs.declared.refusal.Refusal.TheVariants.{BadLength, SpareBits, PacketCut, LayoutMismatch, PacketZero, NoSuchTelegram, NoSuchPacket, NoSuchVariable, Steering, ValueTooWide, NoRoom, SamePlace}
use Rattle.balise_rules.specs.Addresses.{AskSet, AskSetHead, AskInsert, AskDelete, AskMove}
use Rattle.balise_rules.specs.Session.{Call, Ask, Undo, Reply, Done, Undone, Refused}
use Rattle.balise_rules.specs.Examples.{Text, times, padded, plan_of, outcome, word, id, alone, empty, empty_long, revoking, linking_twice, coloured}

-- replies, and the plan after them
abbrev pub Gives : List (List Text) → List Call → List Reply → List (List Text) → Type 0
Gives groups calls replies after = ◌≡◌ {A = Result (List Reply × List (List Text)) Refusal} (outcome groups calls) (Ok (replies, after))

-- A plan that is refused.
abbrev pub IsRefused : List (List Text) → Refusal → Type 0
IsRefused groups r = plan_of groups ≡ Err r

-- Plans without commands, of a short and of a long telegram, and of no group.
abbrev pub Unchanged : Type 0
Unchanged = Gives (alone empty) [] [] (alone empty) × Gives (alone empty_long) [] [] (alone empty_long) × Gives [] [] [] []

abbrev pub set_tsr : Call
set_tsr = Ask (AskSet (id 5 100) 0 0 NidTsr 0 9)

abbrev pub set_count : Call
set_count = Ask (AskSetHead (id 5 100) 0 MMcount 254)

abbrev pub insert : ℕ → Text → Call
insert at digits = Ask (AskInsert (id 5 100) 0 at (word digits))

abbrev pub revoking_9 : Text
revoking_9 = codes "a1007f80a03250900f84" ++ (padded 16 ++ codes "c0")

-- A field and a header's field set, and undone.
abbrev pub SetAndUndone : Type 0
SetAndUndone =
    Gives (alone revoking) (set_tsr ∷ set_count ∷ Undo ∷ []) (Done 1 ∷ Done 2 ∷ Undone 2 ∷ []) (alone revoking_9)
    × Gives (alone revoking) (set_tsr ∷ set_count ∷ Undo ∷ Undo ∷ []) (Done 1 ∷ Done 2 ∷ Undone 2 ∷ Undone 1 ∷ []) (alone revoking)
    × Gives (alone revoking) (set_tsr ∷ set_count ∷ []) (Done 1 ∷ Done 2 ∷ []) (alone (codes "a1007f00a03250900f84" ++ (padded 16 ++ codes "c0")))

-- A packet inserted, and the insertion undone.
abbrev pub InsertedAndUndone : Type 0
InsertedAndUndone =
    Gives (alone empty) (insert 0 (codes "42403e0a") ∷ []) (Done 1 ∷ []) (alone revoking)
    × Gives (alone empty) (insert 0 (codes "42403e0a") ∷ Undo ∷ []) (Done 1 ∷ Undone 1 ∷ []) (alone empty)

-- Bits after the last of a text, and a text that is too short.
abbrev pub SpareRefused : Type 0
SpareRefused = IsRefused (alone (codes "a1007f80a0327f" ++ (padded 19 ++ codes "c1"))) SpareBits × IsRefused (alone (codes "a1007f80a0327f" ++ padded 19)) BadLength

abbrev pub delete : ℕ → Call
delete pkt = Ask (AskDelete (id 5 100) 0 pkt)

abbrev pub coloured_after : Text
coloured_after = codes "a1007f80a03250900f82ffda" ++ (times 14 (codes "5a") ++ codes "40")

-- The padding comes back bit for bit where an insertion is taken back, or what it put in is deleted; read anew, it begins later.
abbrev pub PaddingKept : Type 0
PaddingKept =
    Gives (alone coloured) (insert 0 (codes "42403e0a") ∷ []) (Done 1 ∷ []) (alone coloured_after)
    × Gives (alone coloured) (insert 0 (codes "42403e0a") ∷ delete 0 ∷ []) (Done 1 ∷ Done 2 ∷ []) (alone coloured)
    × Gives (alone coloured) (insert 0 (codes "42403e0a") ∷ delete 0 ∷ Undo ∷ Undo ∷ []) (Done 1 ∷ Done 2 ∷ Undone 2 ∷ Undone 1 ∷ []) (alone coloured)
    × Gives (alone coloured_after) (delete 0 ∷ []) (Done 1 ∷ []) (alone (codes "a1007f80a0327fffffffffda" ++ (times 14 (codes "5a") ++ codes "40")))

abbrev pub move : ℕ → ℕ → Call
move pkt at = Ask (AskMove (id 5 100) 0 pkt at)

-- A telegram filled to its last bit, and refusals of room and place.
abbrev pub Filled : Type 0
Filled =
    Gives (alone empty) (insert 0 (codes "2c8130" ++ times 16 (codes "00")) ∷ insert 1 (codes "42403e0a") ∷ move 0 0 ∷ Ask (AskDelete (id 5 100) 1 0) ∷ [])
    (Done 1 ∷ Refused NoRoom ∷ Refused SamePlace ∷ Refused NoSuchTelegram ∷ [])
    (alone (codes "a1007f80a0324b204c" ++ (times 16 (codes "00") ++ codes "3fc0")))

-- Words of digits that are no packet for this telegram, and a place that isn't there.
abbrev pub DigitsRefused : Type 0
DigitsRefused =
    Gives (alone empty)
    (insert 0 (codes "00") ∷ insert 0 (codes "ff") ∷ insert 0 (codes "42403e") ∷ insert 0 (codes "42403e0a00") ∷ insert 0 (codes "42403e0b") ∷ insert 0 (codes "4240400a") ∷ insert 2 (codes "42403e0a") ∷ [])
    (Refused PacketZero ∷ Refused LayoutMismatch ∷ Refused PacketCut ∷ Refused BadLength ∷ Refused SpareBits ∷ Refused LayoutMismatch ∷ Refused NoSuchPacket ∷ [])
    (alone empty)

-- The second element of a link named 6.100 and names 6.150: its country is that of the element before.
abbrev pub LinkSet : Type 0
LinkSet =
    Gives (alone linking_twice)
    (Ask (AskSet (id 5 102) 0 0 NidBg 1 150) ∷ Ask (AskSet (id 5 102) 0 0 NidBg 2 5) ∷ Ask (AskSet (id 5 102) 0 0 NidC 0 7) ∷ Ask (AskSet (id 5 102) 0 0 NidBg 0 16384) ∷ [])
    (Done 1 ∷ Refused NoSuchVariable ∷ Refused Steering ∷ Refused ValueTooWide ∷ [])
    (alone (codes "a1007f80a03341503b204b20300c88c08190012d8c" ++ (padded 5 ++ codes "c0")))

abbrev pub profile : Text
profile = codes "1b40fa80002810659224107d062180f0"

-- A speed profile with three differences: known in version 33, unknown in version 16.
abbrev pub ProfileSet : Type 0
ProfileSet =
    Gives (alone empty)
    (insert 0 profile ∷ Ask (AskSet (id 5 100) 0 0 VDiff 2 31) ∷ Ask (AskSet (id 5 100) 0 0 QDiff 0 1) ∷ insert 0 (codes "1b40fa80002816659224107d062180f0") ∷ [])
    (Done 1 ∷ Done 2 ∷ Refused Steering ∷ Refused LayoutMismatch ∷ [])
    (alone (codes "a1007f80a03246d03ea0000a04196489041f4188603f" ++ (padded 4 ++ codes "c0")))
    × Gives (alone (codes "90007f80a0327f" ++ (padded 19 ++ codes "c0")))
    (insert 0 profile ∷ Ask (AskSet (id 5 100) 0 0 VDiff 0 1) ∷ Ask (AskSet (id 5 100) 0 0 QDir 0 2) ∷ [])
    (Done 1 ∷ Refused NoSuchVariable ∷ Done 2 ∷ [])
    (alone (codes "90007f80a03246e03ea0000a04196489041f4188603d" ++ (padded 4 ++ codes "c0")))

-- Gradients, a level transition and a speed profile that were read.
abbrev pub OthersSet : Type 0
OthersSet =
    Gives (alone (codes "a1007f80a032455027200020a10258" ++ (padded 11 ++ codes "c0")))
    (Ask (AskSet (id 5 100) 0 0 GA 1 7) ∷ Ask (AskSet (id 5 100) 0 0 NIter 0 2) ∷ Ask (AskSet (id 5 100) 0 0 DGradient 2 1) ∷ [])
    (Done 1 ∷ Refused Steering ∷ Refused NoSuchVariable ∷ [])
    (alone (codes "a1007f80a032455027200020a1025807" ++ (padded 10 ++ codes "c0")))
    × Gives (alone (codes "a1007f80a0324a502ca0190848032080029f" ++ (padded 8 ++ codes "c0")))
    (Ask (AskSet (id 5 100) 0 0 NidNtc 0 22) ∷ Ask (AskSet (id 5 100) 0 0 MLeveltr 0 2) ∷ Ask (AskSet (id 5 100) 0 0 NidNtc 1 3) ∷ [])
    (Done 1 ∷ Refused Steering ∷ Refused NoSuchVariable ∷ [])
    (alone (codes "a1007f80a0324a502ca01908b0032080029f" ++ (padded 8 ++ codes "c0")))
    × Gives (alone (codes "a1007f80a03246d03ea0000a04196489041f4188603f" ++ (padded 4 ++ codes "c0")))
    (Ask (AskSet (id 5 100) 0 0 QDiff 0 1) ∷ Ask (AskSet (id 5 100) 0 0 VDiff 3 1) ∷ [])
    (Refused Steering ∷ Refused NoSuchVariable ∷ [])
    (alone (codes "a1007f80a03246d03ea0000a04196489041f4188603f" ++ (padded 4 ++ codes "c0")))
