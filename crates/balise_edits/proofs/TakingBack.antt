-- What a deletion or a removal took out has its place, where it was the last edit.
use Rattle.std.proofs.Common.{◌≡◌, ◌∙◌, ℕ, Some}
use Rattle.balise_rules.specs.declared.tag.Tag.{Tag}
use Rattle.balise_rules.specs.declared.tagged_edit.TaggedEdit.TheVariants.{DeletePacket, DropGroup}
use Rattle.balise_rules.specs.Packet.{Packet}
use Rattle.balise_rules.specs.Paths.{Entry}
use Rattle.balise_rules.specs.Plan.{Group, Plan}
use Rattle.balise_rules.proofs.Cases.{unsome}
use Rattle.balise_edit_laws.specs.GoesBack.{HasGap, LacksGroup}
use Rattle.balise_edits.specs.Standing.{IsLast}
use Rattle.balise_edits.proofs.Bare.{asks_of}

pub gap_of : {f : Entry} {g : Tag} {t : ℕ} {p : Tag} {x : Packet} {plan : Plan} → IsLast f plan → f.0.1 ≡ DeletePacket g t p → Some x ≡ f.1.packet → HasGap g t p x f.1.before plan
gap_of l is taken = let asks = asks_of l is in rw (unsome (taken ∙ asks.1)) asks.2

pub lacks_of : {f : Entry} {g : Tag} {ys : Group} {plan : Plan} → IsLast f plan → f.0.1 ≡ DropGroup g → Some ys ≡ f.1.group → LacksGroup g ys f.1.before plan
lacks_of l is taken = let asks = asks_of l is in rw (unsome (taken ∙ asks.1)) asks.2
