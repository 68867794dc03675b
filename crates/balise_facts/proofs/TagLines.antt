-- The lines of telegrams and packets that are left.
use Rattle.std.proofs.Common.{◌≡◌, ◌∙◌, ◌≤◌, ◌+◌, ℕ, suc, List, [], ◌∷◌, ◌++◌, Some, drop, length, slice_get, sym, ap, arith}
use Rattle.std.proofs.lemmas.List.{drop_all}
use Rattle.balise_rules.specs.declared.identity.Id.{Id}
use Rattle.balise_rules.specs.declared.tag.Tag.{Tag}
use Rattle.balise_rules.specs.Packet.{Packet}
use Rattle.balise_rules.specs.Plan.{Group}
use Rattle.balise_rules.specs.Telegram.{Telegram}
use Rattle.balise_plan.proofs.GroupLists.{drop_found}
use Rattle.balise_facts.specs.TagTexts.{packet_line, packet_lines, telegram_line, telegram_lines}

-- the packet that comes next
pub packet_left : (i : Id) (pig pkt : ℕ) (xs rest : List (Tag × Packet)) (x : Tag × Packet) → xs ≡ x ∷ rest →
    packet_lines i pig pkt xs ≡ packet_line i pig pkt x.0 ++ packet_lines i pig (pkt + 1) rest
packet_left i pig pkt xs rest x e =
    let n : suc pkt ≡ pkt + 1 = omega arith in
    ap (packet_lines i pig pkt) e ∙ ap (λ (k : ℕ). packet_line i pig pkt x.0 ++ packet_lines i pig k rest) n

-- the telegram at a place comes next
pub telegram_left : (i : Id) (pig : ℕ) (ys : Group) (y : ℕ × Telegram) → Some y ≡ slice_get ys pig →
    telegram_lines i pig (drop pig ys) ≡ (telegram_line i pig y.0 ++ packet_lines i pig 0 y.1.packets) ++ telegram_lines
    i (pig + 1) (drop (pig + 1) ys)
telegram_left i pig ys y e =
    let n : suc pig ≡ pig + 1 = omega arith in
    ap (telegram_lines i pig) (drop_found ys pig y (sym e))
    ∙ ap (λ (k : ℕ). (telegram_line i pig y.0 ++ packet_lines i pig 0 y.1.packets) ++ telegram_lines i k
    (drop (pig + 1) ys)) n

pub no_telegram_left : (i : Id) (pig : ℕ) (ys : Group) → length ys ≤ pig → telegram_lines i pig (drop pig ys) ≡ []
no_telegram_left i pig ys h = ap (telegram_lines i pig) (drop_all pig ys h)
