-- Worked telegrams as their digits, and what a session over them answers and shows.
use Rattle.std.specs.Prelude.{ℕ, zero, suc, ◌==◌, if◌then◌else◌, List, [], ◌∷◌, ◌++◌, Bool, length, map, codes, Result, Ok, Err}
use Rattle.balise_rules.specs.declared.refusal.Refusal.{Refusal}
use Rattle.balise_rules.specs.declared.identity.Id.{Id}
use Rattle.balise_rules.specs.Refusals.{and_then}
use Rattle.balise_rules.specs.Digits.{read_hex, read_digits, hex_of}
use Rattle.balise_rules.specs.Plan.{Plan, shown_plan, read_plan}
use Rattle.balise_rules.specs.Session.{State, Call, Reply, opened, held, answer_all}

abbrev pub Text : Type 0
Text = List ℕ

-- a text, n times
abbrev pub times : ℕ → Text → Text
times zero t = []
times (suc n) t = t ++ times n t

-- `ff`, n times
abbrev pub padded : ℕ → Text
padded n = times n (codes "ff")

-- the bits of a telegram's line: 830 where it has 208 digits, otherwise 210
abbrev pub read_line : Text → Result (List Bool) Refusal
read_line t = read_hex (if length t == 208 then 830 else 210) t

abbrev pub read_lines : List Text → Result (List (List Bool)) Refusal
read_lines [] = Ok []
read_lines (t ∷ ts) = and_then (read_line t) (λ b. and_then (read_lines ts) (λ bs. Ok (b ∷ bs)))

abbrev pub read_groups : List (List Text) → Result (List (List (List Bool))) Refusal
read_groups [] = Ok []
read_groups (g ∷ gs) = and_then (read_lines g) (λ bs. and_then (read_groups gs) (λ more. Ok (bs ∷ more)))

-- the plan of these lines
abbrev pub plan_of : List (List Text) → Result Plan Refusal
plan_of groups = and_then (read_groups groups) read_plan

-- its lines
abbrev pub lines_of : Plan → List (List Text)
lines_of plan = map (map hex_of) (shown_plan plan)

abbrev pub seen : List Reply × State → List Reply × List (List Text)
seen r = (r.0, lines_of (held r.1))

-- the replies to commands on the plan of these lines, and the lines of the plan after them
abbrev pub outcome : List (List Text) → List Call → Result (List Reply × List (List Text)) Refusal
outcome groups calls = and_then (plan_of groups) (λ plan. Ok (seen (answer_all calls (opened plan))))

abbrev pub bits_or_none : Result (List Bool) Refusal → List Bool
bits_or_none (Err r) = []
bits_or_none (Ok b) = b

-- the bits of a word of digits
abbrev pub word : Text → List Bool
word t = bits_or_none (read_digits t)

-- the bits of a telegram's line
abbrev pub line : Text → List Bool
line t = bits_or_none (read_line t)

abbrev pub id : ℕ → ℕ → Id
id c n = record { country = c; number = n }

-- a plan of one group of one telegram
abbrev pub alone : Text → List (List Text)
alone t = (t ∷ []) ∷ []

-- Telegrams of version 33, M_MCOUNT 255, linked, unless they say otherwise.
-- 5.100 without packets, short and long
abbrev pub empty : Text
empty = codes "a1007f80a0327f" ++ (padded 19 ++ codes "c0")

abbrev pub empty_long : Text
empty_long = codes "a1007f80a0327f" ++ (padded 96 ++ codes "fc")

-- 5.100 with a packet 66, NID_TSR 5
abbrev pub revoking : Text
revoking = codes "a1007f80a03250900f82" ++ (padded 16 ++ codes "c0")

-- 5.100 with a packet 65: NID_TSR 5, D_TSR 200, L_TSR 300, V_TSR 8
abbrev pub restricting : Text
restricting = codes "a1007f80a032505023a0a0320096047f" ++ (padded 10 ++ codes "c0")

-- 5.101 with a packet 5: D_LINK 500, NID_BG 100, orientation 1
abbrev pub linking_100 : Text
linking_100 = codes "a1007f80a032c15022a07d00326301" ++ (padded 11 ++ codes "c0")

-- 5.102 with a packet 5 of two elements: NID_C 6 and NID_BG 100, then NID_BG 100
abbrev pub linking_twice : Text
linking_twice = codes "a1007f80a03341503b204b20300c88c0819000c98c" ++ (padded 5 ++ codes "c0")

-- 5.100 with four packets 66: NID_TSR 1, 2, 3, 4
abbrev pub four_packets : Text
four_packets = codes "a1007f80a03250900f80a1201f0242403e0684807c13" ++ (padded 4 ++ codes "c0")

-- 5.100 without packets, its padding of many colours
abbrev pub coloured : Text
coloured = codes "a1007f80a0327fc0" ++ (times 18 (codes "5a") ++ codes "40")

-- group 5.100 of three: M_DUP 1 and a packet 65; M_DUP 2 and an unknown packet 44; none
abbrev pub three : List Text
three =
    (codes "a104ff80a032505023a0a0320096047f" ++ (padded 10 ++ codes "c0"))
    ∷ (codes "a1157f80a0324b0010697f" ++ (padded 15 ++ codes "c0"))
    ∷ (codes "a1247f80a0327f" ++ (padded 19 ++ codes "c0")) ∷ []
