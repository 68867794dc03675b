-- What putting a packet or a group in makes of a plan is what the edit makes.
use Rattle.std.proofs.Common.{◌≡◌, ◌∙◌, ℕ, Bool, true, false, ◌&&◌, cond, eqb, not, List, [], ◌∷◌, Option, Ok, sym, ap}
use Rattle.balise_rules.specs.declared.tag.Tag.{Tag}
use Rattle.balise_rules.specs.declared.tag.Tag.TheVariants.{Fresh}
use Rattle.balise_rules.specs.Tagged.{each, put, changed, stands, Each, Put}
use Rattle.balise_rules.specs.Tags.{same_tag}
use Rattle.balise_rules.specs.Packet.{Packet}
use Rattle.balise_rules.specs.Telegram.{Telegram}
use Rattle.balise_rules.specs.Plan.{Group, Plan, identity_of, read_group}
use Rattle.balise_rules.specs.declared.tagged_edit.TaggedEdit.TheVariants.{AddGroup, InsertPacket}
use Rattle.balise_rules.specs.Back.{in_packets, with_packets}
use Rattle.balise_rules.specs.Names.{names_in}
use Rattle.balise_rules.specs.Notes.{noted, nothing}
use Rattle.balise_rules.specs.declared.refusal.Refusal.TheVariants.{NoSuchGroup}
use Rattle.balise_rules.specs.Doing.{done, first_of, group_fault, refusal, when}
use Rattle.balise_index.specs.declared.spot.Spot.TheVariants.{After}
use Rattle.balise_plan.specs.Spots.{group_refusal}
use Rattle.balise_rules.proofs.Each.{each-id}
use Rattle.balise_edit_laws.proofs.Refusing.{group_is}
use Rattle.balise_plan.proofs.Walking as walking

-- a telegram in which the packet is put in, or another one
in_telegram : (b : Bool) → (a : Option Tag) → (z : Tag × Packet) → (y : Telegram) →
    cond b (with_packets y (put same_tag a z y.packets)) y ≡ record { head = each (λ key n. n) y.head; packets = changed same_tag (cond b (Put a z) (Each (λ q x. x))) y.packets; padding = y.padding }
in_telegram true a z y = ap (λ hs. record { head = hs; packets = put same_tag a z y.packets; padding = y.padding }) (sym (each-id y.head))
in_telegram false a z y =
    ap (λ hs. record { head = hs; packets = y.packets; padding = y.padding }) (sym (each-id y.head))
    ∙ ap (λ ps. record { head = each (λ key n. n) y.head; packets = ps; padding = y.padding }) (sym (each-id y.packets))

pub inserted_is : (s : ℕ) → (g : Tag) → (t : ℕ) → (a : Option Tag) → (x : Packet) → (plan : Plan) → in_packets g t (put same_tag a (Fresh s, x)) plan ≡ done (s, InsertPacket g t a x) plan
inserted_is s g t a x plan =
    walking.each-same _ _ plan (λ h ys. walking.each-same _ _ ys (λ u y. in_telegram (same_tag g h && eqb t u) a (Fresh s, x) y))

-- ---- a group that was read is what its bits are put in as

pub added_noted : (a : Option Tag) → (bs : List (List Bool)) → (plan : Plan) → (ys : Group) → read_group bs ≡ Ok ys → record nothing { own = identity_of ys; names = names_in ys } ≡ noted (AddGroup a bs) plan
added_noted a bs plan ys is = ap (λ zs. record nothing { own = identity_of zs; names = names_in zs }) (sym (group_is bs ys is))

pub added_refusal : (a : Option Tag) → (bs : List (List Bool)) → (plan : Plan) → (ys : Group) → read_group bs ≡ Ok ys → refusal (AddGroup a bs) plan ≡ group_refusal (After a) ys plan
added_refusal a bs plan ys is = ap (λ r. first_of (when (not (stands same_tag a plan)) NoSuchGroup ∷ group_fault plan r ∷ [])) is

pub added_is : (s : ℕ) → (a : Option Tag) → (bs : List (List Bool)) → (plan : Plan) → (ys : Group) → read_group bs ≡ Ok ys → put same_tag a (Fresh s, ys) plan ≡ done (s, AddGroup a bs) plan
added_is s a bs plan ys is = ap (λ zs. put same_tag a (Fresh s, zs) plan) (sym (group_is bs ys is))
