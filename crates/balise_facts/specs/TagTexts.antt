-- The tags of a plan, as they are printed: groups by their identities, telegrams and packets by their places from 0
-- (this project's text).
use Rattle.std.specs.Prelude.{ℕ, suc, List, [], ◌∷◌, ◌++◌, codes, decimal, map}
use Rattle.balise_rules.specs.declared.identity.Id.{Id}
use Rattle.balise_rules.specs.declared.tag.Tag.{Tag}
use Rattle.balise_rules.specs.Packet.{Packet}
use Rattle.balise_rules.specs.Plan.{Group, Plan, identity_of}
use Rattle.balise_text.specs.Places.{tag_text}
use Rattle.balise_text.specs.Reviews.{id_text}
use Rattle.balise_text.specs.Texts.{Text, text_of, whole_line}

-- packet C.N PIG PKT TAG
abbrev pub packet_line : Id → ℕ → ℕ → Tag → Text
packet_line i pig pkt p = whole_line (codes "packet" ∷ id_text i ∷ decimal pig ∷ decimal pkt ∷ tag_text p ∷ [])

-- packets, from this place on
abbrev pub packet_lines : Id → ℕ → ℕ → List (Tag × Packet) → Text
packet_lines i pig pkt [] = []
packet_lines i pig pkt (x ∷ xs) = packet_line i pig pkt x.0 ++ packet_lines i pig (suc pkt) xs

-- telegram C.N PIG T
abbrev pub telegram_line : Id → ℕ → ℕ → Text
telegram_line i pig t = whole_line (codes "telegram" ∷ id_text i ∷ decimal pig ∷ decimal t ∷ [])

-- telegrams with their packets, from this place on
abbrev pub telegram_lines : Id → ℕ → Group → Text
telegram_lines i pig [] = []
telegram_lines i pig (y ∷ ys) =
    (telegram_line i pig y.0 ++ packet_lines i pig 0 y.1.packets) ++ telegram_lines i (suc pig) ys

-- group C.N TAG
abbrev pub group_line : Id → Tag → Text
group_line i g = whole_line (codes "group" ∷ id_text i ∷ tag_text g ∷ [])

-- a group with its telegrams
abbrev pub group_lines : Tag × Group → Text
group_lines g = group_line (identity_of g.1) g.0 ++ telegram_lines (identity_of g.1) 0 g.1

abbrev pub tags_text : Plan → Text
tags_text plan = text_of (map group_lines plan)
