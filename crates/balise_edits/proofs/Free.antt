-- Putting back in front of an old next neighbour isn't refused, where all that it asks holds.
use Rattle.std.proofs.Common.{◌≡◌, ◌∙◌, ℕ, nat_lt, false, is_some, Option, None, refl, ap, arith}
use Rattle.std.proofs.lemmas.Bool.{or_from, le-ltb}
use Rattle.balise_rules.specs.declared.tag.Tag.{Tag}
use Rattle.balise_rules.specs.Packet.{Packet, width}
use Rattle.balise_rules.specs.Telegram.{room}
use Rattle.balise_rules.specs.Plan.{Group, Plan, identity_of, telegram_at, group_named, IsSound}
use Rattle.balise_rules.specs.Doing.{in_telegram}
use Rattle.balise_rules.proofs.Accepted.{stands_from}
use Rattle.balise_edit_laws.specs.GoesBack.{HasGap, IsAstray, LacksGroup}
use Rattle.balise_edit_laws.proofs.Naming.{no_group_to}
use Rattle.balise_edit_laws.proofs.Refusing.{anchor_there, pass, pass_packet, pass_telegram, tested_here}
use Rattle.balise_index.specs.declared.spot.Spot.TheVariants.{Before}
use Rattle.balise_plan.specs.Spots.{group_refusal, put_refusal, shift_refusal}
use Rattle.balise_telegram.specs.Moving.{same_place_before}

pub packet_free : (g : Tag) → (t : ℕ) → (p : Tag) → (x : Packet) → (b : Option Tag) → (plan : Plan) → HasGap g t p x b plan → put_refusal g t (Before b) x plan ≡ None
packet_free g t p x b plan h =
    let y = h.telegram in
    let fit = h.room in
    let r : in_telegram (telegram_at g t plan) (λ z. nat_lt (room z) (width x)) ≡ false = tested_here (λ z. nat_lt (room z) (width x)) g t plan y h.stands ∙ le-ltb (room y) (width x) (omega (arith, fit)) in
    pass_telegram g t plan y h.stands _ (pass _ _ _ (anchor_there g t b plan y h.stands h.neighbour) (pass _ _ _ r refl))

pub shift_free : (g : Tag) → (t : ℕ) → (p : Tag) → (b : Option Tag) → (plan : Plan) → IsAstray g t p b plan → shift_refusal g t p (Before b) plan ≡ None
shift_free g t p b plan h =
    let y = h.telegram in
    let o : in_telegram (telegram_at g t plan) (same_place_before p b) ≡ false = tested_here (same_place_before p b) g t plan y h.stands ∙ or_from _ _ h.other h.apart in
    pass_packet g t p plan y h.stands h.packet.0 h.packet.1 _ (pass _ _ _ (anchor_there g t b plan y h.stands h.neighbour) (pass _ _ _ o refl))

pub group_free : (g : Tag) → (ys : Group) → (b : Option Tag) → (plan : Plan) → IsSound plan → LacksGroup g ys b plan → group_refusal (Before b) ys plan ≡ None
group_free g ys b plan sound h =
    let none : group_named (identity_of ys) plan ≡ None = no_group_to (identity_of ys) plan sound.tags h.free in
    pass _ _ _ (stands_from b plan h.neighbour) (pass _ _ _ (ap is_some none) refl)
