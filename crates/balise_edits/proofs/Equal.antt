-- Two places are one where their parts are: what `==` answers.
use Rattle.std.proofs.Common.{◌≡◌, Bool, true, false, ◌&&◌, eqb, refl, ap}
use Rattle.balise_rules.specs.Tags.{same_id, same_tag, same_var}
use Rattle.balise_rules.specs.Behind.{same_path}
use Rattle.balise_edits.specs.contracts.path.PathPartialEq.TheImpl as in-plan
use Rattle.balise_edits.specs.contracts.path.InGroupPartialEq.TheImpl as in-group
use Rattle.balise_edits.specs.contracts.path.InTelegramPartialEq.TheImpl as in-telegram
use Rattle.balise_edits.specs.contracts.path.InPacketPartialEq.TheImpl as in-packet
use Rattle.balise_edits.specs.declared.path.Path.{Path}
use Rattle.balise_edits.specs.declared.path.Path.TheVariants as path
use Rattle.balise_edits.specs.declared.path.InGroup.{InGroup}
use Rattle.balise_edits.specs.declared.path.InGroup.TheVariants as group
use Rattle.balise_edits.specs.declared.path.InTelegram.{InTelegram}
use Rattle.balise_edits.specs.declared.path.InTelegram.TheVariants as telegram
use Rattle.balise_edits.specs.declared.path.InPacket.{InPacket}
use Rattle.balise_edits.specs.declared.path.InPacket.TheVariants as packet
use Rattle.balise_edits.specs.Places.{in_group, in_packet, in_telegram, path_of}

and-last : (a b : Bool) → (a && b) ≡ (a && (b && true))
and-last true true = refl
and-last true false = refl
and-last false b = refl

last : (a : Bool) → a ≡ (a && true)
last true = refl
last false = refl

packet_one : (p q : InPacket) → in-packet.eq-value.it p q ≡ same_path (in_packet p) (in_packet q)
packet_one packet.Whole packet.Whole = refl
packet_one packet.After packet.After = refl
packet_one packet.Front packet.Front = refl
packet_one (packet.Field v k) (packet.Field w l) = and-last (same_var v w) (eqb k l)
packet_one p q = refl

telegram_one : (p q : InTelegram) → in-telegram.eq-value.it p q ≡ same_path (in_telegram p) (in_telegram q)
telegram_one (telegram.Head v) (telegram.Head w) = last (same_var v w)
telegram_one telegram.First telegram.First = refl
telegram_one telegram.Last telegram.Last = refl
telegram_one (telegram.Packet a r) (telegram.Packet b s) = ap (λ e. same_tag a b && e) (packet_one r s)
telegram_one p q = refl

group_one : (p q : InGroup) → in-group.eq-value.it p q ≡ same_path (in_group p) (in_group q)
group_one group.Whole group.Whole = refl
group_one group.After group.After = refl
group_one group.Front group.Front = refl
group_one group.Turn group.Turn = refl
group_one group.Name group.Name = refl
group_one (group.Telegram t r) (group.Telegram u s) = ap (λ e. eqb t u && e) (telegram_one r s)
group_one p q = refl

pub path_one : (p q : Path) → in-plan.eq-value.it p q ≡ same_path (path_of p) (path_of q)
path_one (path.Group g r) (path.Group h s) = ap (λ e. same_tag g h && e) (group_one r s)
path_one path.First path.First = refl
path_one path.Last path.Last = refl
path_one (path.Identity i) (path.Identity j) = last (same_id i j)
path_one p q = refl
