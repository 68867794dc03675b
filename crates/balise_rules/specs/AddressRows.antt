-- Worked rows of addresses, and of what is refused first.
use Rattle.std.specs.Prelude.{◌≡◌, ℕ, List, [], ◌∷◌, ◌++◌, codes, Result, Ok, Err}
use Rattle.balise_rules.specs.declared.variable.Var.TheVariants.{NidTsr, NidBg, MDup, MLeveltr, NcCddiff, NcDiff}
use Rattle.balise_rules.specs.declared.refusal.Refusal.{Refusal}
use Rattle.balise_rules.specs.declared.refusal.Refusal.TheVariants.{BadLength, LayoutMismatch, GroupSize, HeaderDisagrees, NumberReserved, NoSuchGroup, NoSuchTelegram, NoSuchPacket, NoSuchVariable, NumberTaken, NothingToUndo, Worn}
use Rattle.balise_rules.specs.declared.tag.Tag.TheVariants.{Base}
use Rattle.balise_rules.specs.declared.address.Address.{Address}
use Rattle.balise_rules.specs.declared.address.Address.TheVariants.{Group as GroupAddress, Telegram as TelegramAddress, Packet as PacketAddress, Head as HeadAddress, Field as FieldAddress}
use Rattle.balise_rules.specs.declared.address.Place.{Place}
use Rattle.balise_rules.specs.declared.address.Place.TheVariants.{Group as GroupPlace, Telegram as TelegramPlace, Packet as PacketPlace, Head as HeadPlace, Field as FieldPlace}
use Rattle.balise_rules.specs.Refusals.{and_then}
use Rattle.balise_rules.specs.Addresses.{AskSet, resolve}
use Rattle.balise_rules.specs.Names.{links_to}
use Rattle.balise_rules.specs.Session.{Call, Ask, Undo, Reply, Done, Refused, opened, answer_all}
use Rattle.balise_rules.specs.Examples.{Text, padded, plan_of, seen, id, alone, empty, revoking, linking_100, three}
use Rattle.balise_rules.specs.Rows.{Gives, IsRefused, insert, set_tsr, profile, revoking_9}
use Rattle.balise_rules.specs.GroupRows.{renumber}

-- what stands at an address of the group of three
abbrev pub Leads : Address → Result Place Refusal → Type 0
Leads a r = and_then (plan_of (three ∷ [])) (resolve a) ≡ r

-- What stands at addresses, and why nothing does.
abbrev pub Resolved : Type 0
Resolved =
    Leads (GroupAddress (id 5 100)) (Ok (GroupPlace (Base 0)))
    × Leads (TelegramAddress (id 5 100) 2) (Ok (TelegramPlace (Base 0) 2))
    × Leads (PacketAddress (id 5 100) 1 0) (Ok (PacketPlace (Base 0) 1 (Base 0)))
    × Leads (HeadAddress (id 5 100) 1 MDup) (Ok (HeadPlace (Base 0) 1 MDup))
    × Leads (FieldAddress (id 5 100) 0 0 NidTsr 0) (Ok (FieldPlace (Base 0) 0 (Base 0) NidTsr 0))
    × Leads (GroupAddress (id 6 100)) (Err NoSuchGroup)
    × Leads (FieldAddress (id 5 101) 9 9 MDup 9) (Err NoSuchGroup)
    × Leads (FieldAddress (id 5 100) 3 9 MDup 9) (Err NoSuchTelegram)
    × Leads (FieldAddress (id 5 100) 2 0 MDup 9) (Err NoSuchPacket)
    × Leads (FieldAddress (id 5 100) 0 0 NidTsr 1) (Err NoSuchVariable)
    × Leads (HeadAddress (id 5 100) 0 NidTsr) (Err NoSuchVariable)

-- The number 16383 is no group's; a header that disagrees is refused first. Nine telegrams are too many, whatever they
-- are.
abbrev pub GroupsRefused : Type 0
GroupsRefused =
    IsRefused (alone (codes "a1007f80bf" ++ (padded 21 ++ codes "c0"))) NumberReserved
    × IsRefused (alone (codes "a1027f80bf" ++ (padded 21 ++ codes "c0"))) HeaderDisagrees
    × IsRefused (alone (codes "a1027f80a0327f" ++ (padded 19 ++ codes "c0"))) HeaderDisagrees
    × IsRefused ((empty ∷ empty ∷ empty ∷ empty ∷ empty ∷ empty ∷ empty ∷ empty ∷ empty ∷ []) ∷ []) GroupSize
    × IsRefused ((empty ∷ empty ∷ empty ∷ empty ∷ empty ∷ empty ∷ empty ∷ empty ∷ []) ∷ []) HeaderDisagrees

-- A packet 41 of eight bits after its first three fields is none in version 33, and is kept bit for bit in version 16. A packet 27 has NC_CDDIFF where Q_DIFF is 0, and NC_DIFF where it is 1 or 2.
abbrev pub VersionsTold : Type 0
VersionsTold =
    Gives (alone empty) (insert 0 (codes "29403e0a") ∷ []) (Refused LayoutMismatch ∷ []) (alone empty)
    × Gives (alone (codes "90007f80a0327f" ++ (padded 19 ++ codes "c0"))) (insert 0 (codes "29403e0a") ∷ Ask (AskSet (id 5 100) 0 0 MLeveltr 0 2) ∷ []) (Done 1 ∷ Refused NoSuchVariable ∷ [])
    (alone (codes "90007f80a0324a500f82" ++ (padded 16 ++ codes "c0")))
    × Gives (alone empty)
    (insert 0 profile ∷ Ask (AskSet (id 5 100) 0 0 NcCddiff 1 0) ∷ Ask (AskSet (id 5 100) 0 0 NcDiff 2 0) ∷ Ask (AskSet (id 5 100) 0 0 NcCddiff 0 9) ∷ Ask (AskSet (id 5 100) 0 0 NcDiff 0 5) ∷ Ask (AskSet (id 5 100) 0 0 NcDiff 1 11) ∷ [])
    (Done 1 ∷ Refused NoSuchVariable ∷ Refused NoSuchVariable ∷ Done 2 ∷ Done 3 ∷ Done 4 ∷ [])
    (alone (codes "a1007f80a03246d03ea0000a04496549041f41886b3d" ++ (padded 4 ++ codes "c0")))

-- Digits of a wrong length are refused for that, whatever bits they end with.
abbrev pub LengthFirst : Type 0
LengthFirst = Gives (alone empty) (insert 0 (codes "42403e0b00") ∷ insert 0 (codes "42403e0bff") ∷ []) (Refused BadLength ∷ Refused BadLength ∷ []) (alone empty)

abbrev pub not_named : Text
not_named = codes "a1007f80a032c15022a07d1fffe301" ++ (padded 11 ++ codes "c0")

-- A link with the number 16383 names nothing: the number that it had is free.
abbrev pub NothingNamed : Type 0
NothingNamed =
    Gives (alone linking_100) (renumber 101 100 ∷ Ask (AskSet (id 5 101) 0 0 NidBg 0 16383) ∷ renumber 101 100 ∷ []) (Refused NumberTaken ∷ Done 1 ∷ Done 2 ∷ [])
    (alone (codes "a1007f80a032415022a07d1fffe301" ++ (padded 11 ++ codes "c0")))
    × (and_then (plan_of (alone linking_100)) (λ plan. Ok (links_to (id 5 100) plan)) ≡ Ok ((Base 0, 0, Base 0, 0) ∷ []))
    × (and_then (plan_of (alone not_named)) (λ plan. Ok (links_to (id 5 16383) plan)) ≡ Ok [])

-- what commands give after n commands were accepted
abbrev pub after_many : ℕ → List (List Text) → List Call → Result (List Reply × List (List Text)) Refusal
after_many n groups calls = and_then (plan_of groups) (λ plan. Ok (seen (answer_all calls (record (opened plan) { count = n }))))

-- The millionth command is accepted, and none after it; one that is refused isn't counted.
abbrev pub LastAccepted : Type 0
LastAccepted =
    ◌≡◌ {A = Result (List Reply × List (List Text)) Refusal} (after_many 999999 (alone revoking) (Undo ∷ set_tsr ∷ Undo ∷ set_tsr ∷ []))
    (Ok (Refused NothingToUndo ∷ Done 1 ∷ Refused Worn ∷ Refused Worn ∷ [], alone revoking_9))
