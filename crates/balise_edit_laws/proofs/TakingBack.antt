-- The law of taking back, for each of the nine edits.
-- From its proof for packets, for fields and for turns; groups are put in and taken out as packets are.
-- What is taken back is the plan, so doing the edit again gives what it gave.
use Rattle.std.proofs.Common.{◌≡◌, ap, ◌∙◌}
use Rattle.balise_rules.specs.declared.tag.Tag.TheVariants.{Fresh}
use Rattle.balise_rules.specs.Tagged.{behind, without}
use Rattle.balise_rules.specs.Tags.{same_tag}
use Rattle.balise_rules.specs.Plan.{Plan, IsSound}
use Rattle.balise_rules.specs.Notes.{noted, note_drop}
use Rattle.balise_rules.specs.Doing.{done}
use Rattle.balise_rules.specs.Accepting.{Accepted, Unused}
use Rattle.balise_rules.specs.Edits.{Item, group_of}
use Rattle.balise_rules.specs.declared.tagged_edit.TaggedEdit.TheVariants.{SetVar, SetHead, InsertPacket, DeletePacket, MovePacket, AddGroup, DropGroup, Renumber, TurnGroup}
use Rattle.balise_rules.specs.Back.{back, put_back}
use Rattle.balise_rules.proofs.Tests.{tag_test}
use Rattle.balise_rules.proofs.ListsBack.{without-put_same, put_before-without}
use Rattle.balise_edit_laws.proofs.PacketsBack.{insert_back, delete_back, move_packet_back}
use Rattle.balise_edit_laws.proofs.FieldsBack.{set_back, set_head_back, renumber_back}
use Rattle.balise_edit_laws.proofs.TurnsBack.{turn_back}

pub taking_back : (e : Item) → (plan : Plan) → IsSound plan → Unused e.0 plan → Accepted e.1 plan → back e (noted e.1 plan) (done e plan) ≡ plan
taking_back (s, SetVar g t p v k n) plan sound u a = set_back s g t p v k n plan sound a
taking_back (s, SetHead g t v n) plan sound u a = set_head_back s g t v n plan sound a
taking_back (s, InsertPacket g t b x) plan sound u a = insert_back s g t b x plan sound u
taking_back (s, DeletePacket g t p) plan sound u a = delete_back s g t p plan sound a
taking_back (s, MovePacket g t p b) plan sound u a = move_packet_back s g t p b plan sound a
taking_back (s, AddGroup b bs) plan sound u a = without-put_same tag_test b (Fresh s, group_of bs) plan u.groups
taking_back (s, DropGroup g) plan sound u a =
    ap (λ n. put_back g n.before n.group (without same_tag g plan)) (ap (note_drop (behind same_tag g plan)) a.1.1) ∙ put_before-without tag_test g a.1.0 plan sound.tags a.1.1
taking_back (s, Renumber g n) plan sound u a = renumber_back s g n plan sound a
taking_back (s, TurnGroup g) plan sound u a = turn_back s g plan sound
