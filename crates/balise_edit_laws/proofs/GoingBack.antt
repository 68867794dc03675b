-- The law that taking back is never refused: kind by kind.
use Rattle.balise_rules.specs.Plan.{Plan}
use Rattle.balise_rules.specs.Notes.{noted}
use Rattle.balise_rules.specs.Doing.{done}
use Rattle.balise_rules.specs.Edits.{Item}
use Rattle.balise_rules.specs.declared.tagged_edit.TaggedEdit.TheVariants.{SetVar, SetHead, InsertPacket, DeletePacket, MovePacket, AddGroup, DropGroup, Renumber, TurnGroup}
use Rattle.balise_edit_laws.specs.TakenBack.{IsReady}
use Rattle.balise_edit_laws.specs.GoesBack.{AsksBack}
use Rattle.balise_edit_laws.proofs.FieldsReady.{set_ready, set_head_ready}
use Rattle.balise_edit_laws.proofs.PacketsReady.{insert_ready, delete_ready, move_ready}
use Rattle.balise_edit_laws.proofs.GroupsReady.{add_ready, drop_ready, renumber_ready, turn_ready}

pub going_back : (e : Item) → (plan : Plan) → IsReady e plan → AsksBack e (noted e.1 plan) (done e plan)
going_back (s, SetVar g t p v k n) plan r = set_ready s g t p v k n plan r
going_back (s, SetHead g t v n) plan r = set_head_ready s g t v n plan r
going_back (s, InsertPacket g t a x) plan r = insert_ready s g t a x plan r
going_back (s, DeletePacket g t p) plan r = delete_ready s g t p plan r
going_back (s, MovePacket g t p a) plan r = move_ready s g t p a plan r
going_back (s, AddGroup a bs) plan r = add_ready s a bs plan r
going_back (s, DropGroup g) plan r = drop_ready s g plan r
going_back (s, Renumber g n) plan r = renumber_ready s g n plan r
going_back (s, TurnGroup g) plan r = turn_ready s g plan r
