-- An edit is refused by a number exactly where it isn't accepted.
-- From the table of refusals, line by line: none of its tests holds exactly where each part of acceptance does.
-- Soundness gives that room is what is left of the padding, and that tags are distinct.
use Rattle.std.proofs.Common.{◌≡◌, ℕ, ◌↔◌, nat_lt, Bool, true, false, not, eqb, ltb, List, [], ◌∷◌, is_some, is_none, Option, Some, None, Result, Ok, Err, option_and_then, refl, sym, ap, subst, ◌∙◌, arith}
use Rattle.std.proofs.lemmas.Bool.{or_parts, or_from, ltb-false, le-ltb, ne_eqb, eqb-false, not-false, not_from_true}
use Rattle.balise_rules.specs.declared.tag.Tag.{Tag}
use Rattle.balise_rules.specs.declared.refusal.Refusal.{Refusal}
use Rattle.balise_rules.specs.declared.variable.Var.{Var}
use Rattle.balise_rules.specs.declared.variable.Var.TheVariants.{NidBg}
use Rattle.balise_rules.specs.Variables.{width_of, steers, is_free_in_header}
use Rattle.balise_rules.specs.Bits.{fits}
use Rattle.balise_rules.specs.Tagged.{find, stands, next, same_spot}
use Rattle.balise_rules.specs.Tags.{same_tag}
use Rattle.balise_rules.specs.Packet.{Packet, field_of, width}
use Rattle.balise_rules.specs.Telegram.{Telegram, room}
use Rattle.balise_rules.specs.Plan.{Plan, Group, reserved, identity_of, telegram_at, packet_at, field_at, group_named, read_group, IsSound}
use Rattle.balise_rules.specs.Names.{is_named}
use Rattle.balise_rules.specs.Doing.{renumbered, refusal, first_of, when, taken, group_fault, no_group, no_packet, no_telegram, in_telegram, same_place}
use Rattle.balise_rules.specs.Accepting.{Accepted, Stands, NoGroup}
use Rattle.balise_rules.specs.Edits.{Edit, group_of, group_or_none}
use Rattle.balise_rules.specs.declared.tagged_edit.TaggedEdit.TheVariants.{SetVar, SetHead, InsertPacket, DeletePacket, MovePacket, AddGroup, DropGroup, Renumber, TurnGroup}
use Rattle.balise_rules.proofs.Cases.{found}
use Rattle.balise_rules.proofs.Found.{stood}
use Rattle.balise_rules.proofs.Accepted.{there, is_there, isnt, stands_to, stands_from, accepted_here, accepted_at}
use Rattle.balise_edit_laws.proofs.Naming.{no_group_from, no_group_to, no_name_from, no_name_to}

abbrev pub Both : Edit → Plan → Type 0
Both e plan = (refusal e plan ≡ None) ↔ Accepted e plan

first_none : (b : Bool) → (r : Refusal) → (rs : List (Option Refusal)) → first_of (when b r ∷ rs) ≡ None → (b ≡ false) × (first_of rs ≡ None)
first_none true r rs e = absurd cc
first_none false r rs e = (refl, e)

-- a line of a table whose test doesn't hold
pub pass : (b : Bool) → (r : Refusal) → (rs : List (Option Refusal)) → b ≡ false → first_of rs ≡ None → first_of (when b r ∷ rs) ≡ None
pass b r rs e h = ap (λ c. first_of (when c r ∷ rs)) e ∙ h

last_none : (b : Bool) → (r : Refusal) → when b r ≡ None → b ≡ false
last_none true r e = absurd cc
last_none false r e = refl

last_pass : (b : Bool) → (r : Refusal) → b ≡ false → when b r ≡ None
last_pass b r e = ap (λ c. when c r) e

-- look-ups in the telegram that is found
packet_here : (g : Tag) → (t : ℕ) → (p : Tag) → (plan : Plan) → (y : Telegram) → telegram_at g t plan ≡ Some y → packet_at g t p plan ≡ find same_tag p y.packets
packet_here g t p plan y h = ap (option_and_then (λ (z : Telegram). find same_tag p z.packets)) h

field_here : (g : Tag) → (t : ℕ) → (p : Tag) → (v : Var) → (k : ℕ) → (plan : Plan) → (x : Packet) → packet_at g t p plan ≡ Some x → field_at g t p v k plan ≡ field_of v k x.fields
field_here g t p v k plan x h = ap (option_and_then (λ (z : Packet). field_of v k z.fields)) h

pub tested_here : (f : Telegram → Bool) → (g : Tag) → (t : ℕ) → (plan : Plan) → (y : Telegram) → telegram_at g t plan ≡ Some y → in_telegram (telegram_at g t plan) f ≡ f y
tested_here f g t plan y h = ap (λ o. in_telegram o f) h

group_there : (g : Tag) → (t : ℕ) → (plan : Plan) → (y : Telegram) → telegram_at g t plan ≡ Some y → is_none (find same_tag g plan) ≡ false
group_there g t plan y h = found (find same_tag g plan) (λ e. absurd (let w = simp e at h in cc)) (λ ys e. ap is_none e)

pub anchor_there : (g : Tag) → (t : ℕ) → (a : Option Tag) → (plan : Plan) → (y : Telegram) → telegram_at g t plan ≡ Some y → Stands a y.packets → in_telegram (telegram_at g t plan) (λ z. not (stands same_tag a z.packets)) ≡ false
anchor_there g t a plan y h s = tested_here (λ z. not (stands same_tag a z.packets)) g t plan y h ∙ stands_from a y.packets s

-- the first lines of a table: the telegram stands, and the packet in it
telegram_there : (g : Tag) → (t : ℕ) → (plan : Plan) → (rs : List (Option Refusal)) → first_of (no_group g plan ∷ no_telegram g t plan ∷ rs) ≡ None → (y : Telegram) × (telegram_at g t plan ≡ Some y) × (first_of rs ≡ None)
telegram_there g t plan rs h =
    let b = first_none (is_none (telegram_at g t plan)) _ rs (first_none (is_none (find same_tag g plan)) _ _ h).1 in
    let y = there (telegram_at g t plan) b.0 in (y.0, y.1, b.1)

packet_there : (g : Tag) → (t : ℕ) → (p : Tag) → (plan : Plan) → (y : Telegram) → telegram_at g t plan ≡ Some y → (rs : List (Option Refusal)) → first_of (no_packet g t p plan ∷ rs) ≡ None → (x : Packet) × (find same_tag p y.packets ≡ Some x) × (first_of rs ≡ None)
packet_there g t p plan y h rs e =
    let c = first_none (is_none (packet_at g t p plan)) _ rs e in
    let x = there (packet_at g t p plan) c.0 in (x.0, sym (packet_here g t p plan y h) ∙ x.1, c.1)

pub pass_telegram : (g : Tag) → (t : ℕ) → (plan : Plan) → (y : Telegram) → telegram_at g t plan ≡ Some y → (rs : List (Option Refusal)) → first_of rs ≡ None → first_of (no_group g plan ∷ no_telegram g t plan ∷ rs) ≡ None
pass_telegram g t plan y h rs e = pass _ _ _ (group_there g t plan y h) (pass _ _ _ (is_there (telegram_at g t plan) y h) e)

pub pass_packet : (g : Tag) → (t : ℕ) → (p : Tag) → (plan : Plan) → (y : Telegram) → telegram_at g t plan ≡ Some y → (x : Packet) → find same_tag p y.packets ≡ Some x → (rs : List (Option Refusal)) → first_of rs ≡ None → first_of (no_group g plan ∷ no_telegram g t plan ∷ no_packet g t p plan ∷ rs) ≡ None
pass_packet g t p plan y h x is rs e = pass_telegram g t plan y h _ (pass _ _ _ (is_there (packet_at g t p plan) x (packet_here g t p plan y h ∙ is)) e)

refused_group : (g : Tag) → (plan : Plan) → (no_group g plan ≡ None) ↔ Stands (Some g) plan
refused_group g plan = (λ h. there (find same_tag g plan) (last_none (is_none (find same_tag g plan)) _ h), λ s. last_pass (is_none (find same_tag g plan)) _ (is_there (find same_tag g plan) s.0 s.1))

fault_none : (plan : Plan) → (r : Result Group Refusal) → first_of (group_fault plan r ∷ []) ≡ None → (ys : Group) × (r ≡ Ok ys) × (group_named (identity_of ys) plan ≡ None)
fault_none plan (Err x) h = absurd cc
fault_none plan (Ok ys) h = (ys, refl, isnt (group_named (identity_of ys) plan) (first_none (is_some (group_named (identity_of ys) plan)) _ _ h).0)

pub group_is : (bs : List (List Bool)) → (ys : Group) → read_group bs ≡ Ok ys → group_of bs ≡ ys
unfolding group_of
group_is bs ys e = ap group_or_none e

pub refused_exactly : (e : Edit) → (plan : Plan) → IsSound plan → Both e plan
refused_exactly (SetVar g t p v k n) plan s = (
  λ h.
      let y = telegram_there g t plan _ h in
      let x = packet_there g t p plan y.0 y.1 _ y.2 in
      let d = first_none (is_none (field_at g t p v k plan)) _ _ x.2 in
      let f = first_none (steers v) _ _ d.1 in
      let i = first_none (not (fits (width_of v) n)) _ _ f.1 in
      let o = there (field_at g t p v k plan) d.0 in
      let o_is : field_of v k x.0.fields ≡ Some o.0 = sym (field_here g t p v k plan x.0 (packet_here g t p plan y.0 y.1 ∙ x.1)) ∙ o.1 in
      ((f.0, not-false (fits (width_of v) n) i.0), accepted_at (SetVar g t p v k n) (telegram_at g t plan) y.0 y.1 (x.0, x.1, (o.0, o_is))),
  λ h.
      let y = accepted_here (SetVar g t p v k n) (telegram_at g t plan) h.1 in
      let fo : field_at g t p v k plan ≡ Some y.2.2.0 = field_here g t p v k plan y.2.0 (packet_here g t p plan y.0 y.1 ∙ y.2.1) ∙ y.2.2.1 in
      pass_packet g t p plan y.0 y.1 y.2.0 y.2.1 _ (pass _ _ _ (is_there (field_at g t p v k plan) y.2.2.0 fo) (pass _ _ _ h.0.0 (pass _ _ _ (not_from_true (fits (width_of v) n) h.0.1) refl))),
)
refused_exactly (SetHead g t v n) plan s = (
  λ h.
      let y = telegram_there g t plan _ h in
      let c = first_none (in_telegram (telegram_at g t plan) (λ y. is_none (field_of v 0 y.head))) _ _ y.2 in
      let d = first_none (not (is_free_in_header v)) _ _ c.1 in
      let f = first_none (not (fits (width_of v) n)) _ _ d.1 in
      let o = there (field_of v 0 y.0.head) (sym (tested_here (λ z. is_none (field_of v 0 z.head)) g t plan y.0 y.1) ∙ c.0) in
      ((not-false (is_free_in_header v) d.0, not-false (fits (width_of v) n) f.0), accepted_at (SetHead g t v n) (telegram_at g t plan) y.0 y.1 (o.0, o.1)),
  λ h.
      let y = accepted_here (SetHead g t v n) (telegram_at g t plan) h.1 in
      let c : in_telegram (telegram_at g t plan) (λ z. is_none (field_of v 0 z.head)) ≡ false = tested_here (λ z. is_none (field_of v 0 z.head)) g t plan y.0 y.1 ∙ is_there (field_of v 0 y.0.head) y.2.0 y.2.1 in
      pass_telegram g t plan y.0 y.1 _ (pass _ _ _ c (pass _ _ _ (not_from_true (is_free_in_header v) h.0.0) (pass _ _ _ (not_from_true (fits (width_of v) n) h.0.1) refl))),
)
refused_exactly (InsertPacket g t a x) plan sound = (
  λ h.
      let y = telegram_there g t plan _ h in
      let d = first_none (in_telegram (telegram_at g t plan) (λ y. not (stands same_tag a y.packets))) _ _ y.2 in
      let f = first_none (in_telegram (telegram_at g t plan) (λ y. nat_lt (room y) (width x))) _ _ d.1 in
      let s = stands_to a y.0.packets (sym (tested_here (λ z. not (stands same_tag a z.packets)) g t plan y.0 y.1) ∙ d.0) in
      let l : ltb (room y.0) (width x) ≡ false = sym (tested_here (λ z. nat_lt (room z) (width x)) g t plan y.0 y.1) ∙ f.0 in
      let m = ltb-false (room y.0) (width x) l in
      let fit = (stood g t plan sound y.0 y.1).placed.sound.fits in
      (tt, accepted_at (InsertPacket g t a x) (telegram_at g t plan) y.0 y.1 (s, omega (arith, m, fit))),
  λ h.
      let y = accepted_here (InsertPacket g t a x) (telegram_at g t plan) h.1 in
      let l = y.2.1 in
      let d : in_telegram (telegram_at g t plan) (λ z. nat_lt (room z) (width x)) ≡ false = tested_here (λ z. nat_lt (room z) (width x)) g t plan y.0 y.1 ∙ le-ltb (room y.0) (width x) (omega (arith, l)) in
      pass_telegram g t plan y.0 y.1 _ (pass _ _ _ (anchor_there g t a plan y.0 y.1 y.2.0) (pass _ _ _ d refl)),
)
refused_exactly (DeletePacket g t p) plan s = (
  λ h.
      let y = telegram_there g t plan _ h in
      let x = packet_there g t p plan y.0 y.1 _ y.2 in
      (tt, accepted_at (DeletePacket g t p) (telegram_at g t plan) y.0 y.1 (x.0, x.1)),
  λ h.
      let y = accepted_here (DeletePacket g t p) (telegram_at g t plan) h.1 in pass_packet g t p plan y.0 y.1 y.2.0 y.2.1 _ refl,
)
refused_exactly (MovePacket g t p a) plan sound = (
  λ h.
      let y = telegram_there g t plan _ h in
      let x = packet_there g t p plan y.0 y.1 _ y.2 in
      let f = first_none (in_telegram (telegram_at g t plan) (λ y. not (stands same_tag a y.packets))) _ _ x.2 in
      let i = first_none (in_telegram (telegram_at g t plan) (same_place p a)) _ _ f.1 in
      let s = stands_to a y.0.packets (sym (tested_here (λ z. not (stands same_tag a z.packets)) g t plan y.0 y.1) ∙ f.0) in
      let o : same_place p a y.0 ≡ false = sym (tested_here (same_place p a) g t plan y.0 y.1) ∙ i.0 in
      let w = or_parts (same_spot same_tag a (Some p)) (same_spot same_tag (next same_tag a y.0.packets) (Some p)) o in
      (tt, accepted_at (MovePacket g t p a) (telegram_at g t plan) y.0 y.1 ((x.0, x.1), s, w.0, w.1)),
  λ h.
      let y = accepted_here (MovePacket g t p a) (telegram_at g t plan) h.1 in
      let d : in_telegram (telegram_at g t plan) (same_place p a) ≡ false = tested_here (same_place p a) g t plan y.0 y.1 ∙ or_from _ _ y.2.2 y.2.3 in
      pass_packet g t p plan y.0 y.1 y.2.0.0 y.2.0.1 _ (pass _ _ _ (anchor_there g t a plan y.0 y.1 y.2.1) (pass _ _ _ d refl)),
)
refused_exactly (AddGroup a bs) plan sound = (
  λ h.
      let b = first_none (not (stands same_tag a plan)) _ _ h in
      let c = fault_none plan (read_group bs) b.1 in
      let q = group_is bs c.0 c.1 in
      (c.1 ∙ ap (λ z. Ok z) (sym q), (stands_to a plan b.0, subst (λ z. NoGroup (identity_of z) plan) (sym q) (no_group_from (identity_of c.0) plan c.2))),
  λ h.
      pass _ _ _ (stands_from a plan h.1.0)
      (ap (λ r. first_of (group_fault plan r ∷ [])) h.0 ∙ pass (is_some (group_named (identity_of (group_of bs)) plan)) _ _ (ap is_some (no_group_to (identity_of (group_of bs)) plan sound.tags h.1.1)) refl),
)
refused_exactly (DropGroup g) plan s = let r = refused_group g plan in ((λ h. (tt, r.0 h)), (λ h. r.1 h.1))
refused_exactly (Renumber g n) plan sound = (
  λ h.
      let a = first_none (is_none (find same_tag g plan)) _ _ h in
      let b = first_none (not (fits (width_of NidBg) n)) _ _ a.1 in
      let c = first_none (eqb n reserved) _ _ b.1 in
      let d = first_none (taken (renumbered (find same_tag g plan) n) plan) _ _ c.1 in
      let ys = there (find same_tag g plan) a.0 in
      let d_is : taken (renumbered (Some ys.0) n) plan ≡ false = sym (ap (λ o. taken (renumbered o n) plan) ys.1) ∙ d.0 in
      let w = or_parts (is_some (group_named (renumbered (Some ys.0) n) plan)) (is_named (renumbered (Some ys.0) n) plan) d_is in (
        (not-false (fits (width_of NidBg) n) b.0, eqb-false n reserved c.0),
        (ys.0, ys.1, no_group_from (renumbered (Some ys.0) n) plan (isnt (group_named (renumbered (Some ys.0) n) plan) w.0), no_name_from (renumbered (Some ys.0) n) plan w.1),
      ),
  λ h.
      let i = renumbered (Some h.1.0) n in
      let w : taken i plan ≡ false = or_from (is_some (group_named i plan)) (is_named i plan) (ap is_some (no_group_to i plan sound.tags h.1.2)) (no_name_to i plan sound h.1.3) in
      let d : taken (renumbered (find same_tag g plan) n) plan ≡ false = ap (λ o. taken (renumbered o n) plan) h.1.1 ∙ w in
      pass _ _ _ (is_there (find same_tag g plan) h.1.0 h.1.1) (pass _ _ _ (not_from_true (fits (width_of NidBg) n) h.0.0) (pass _ _ _ (ne_eqb n reserved h.0.1) (pass _ _ _ d refl))),
)
refused_exactly (TurnGroup g) plan s = let r = refused_group g plan in ((λ h. (tt, r.0 h)), (λ h. r.1 h.1))
