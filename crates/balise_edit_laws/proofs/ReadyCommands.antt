-- The law that a command that isn't refused asks for an edit that is ready.
-- From the equivalence of refusal and acceptance, and for an insertion from the reading of its digits.
-- The telegram that is found by its address is the one under its tags, so the packet is spelt in its version.
use Rattle.std.proofs.Common.{◌≡◌, ℕ, zero, suc, ◌+◌, Bool, not, cond, eqb, ltb, List, [], ◌∷◌, length, take, drop, Option, Some, None, Result, Ok, Err, option_and_then, refl, sym, ap, subst, ◌∙◌}
use Rattle.balise_rules.specs.declared.refusal.Refusal.TheVariants.{PacketCut, NoSuchGroup, NoSuchTelegram, NoSuchPacket}
use Rattle.balise_rules.specs.Refusals.{and_then}
use Rattle.balise_rules.specs.Digits.{fill, all_zero}
use Rattle.balise_rules.specs.Addresses.{Command, AskSet, AskSetHead, AskInsert, AskDelete, AskMove, AskAdd, AskDrop, AskRenumber, AskTurn, FoundTelegram, find_group, found_telegram, find_telegram, find_packet, anchor_at, packet_in, insert_at, move_to, edit_of}
use Rattle.balise_rules.proofs.PacketRead.{body_found}
use Rattle.std.specs.Prelude.{ok_or, slice_get}
use Rattle.balise_rules.specs.declared.tag.Tag.{Tag}
use Rattle.balise_rules.specs.declared.identity.Id.{Id}
use Rattle.balise_rules.specs.declared.refusal.Refusal.{Refusal}
use Rattle.balise_rules.specs.Bits.{num}
use Rattle.balise_rules.specs.Tagged.{find, behind, Distinct, without}
use Rattle.balise_rules.specs.Tags.{same_tag, same_id}
use Rattle.balise_rules.specs.Forms.{Fields, read_form}
use Rattle.balise_rules.specs.Packets.{packet}
use Rattle.balise_rules.specs.Packet.{Packet, IsSpelt, read_packet, read_body, length_said, is_cut}
use Rattle.balise_rules.specs.Telegram.{Telegram, version_of}
use Rattle.balise_rules.specs.Plan.{Plan, Group, identity_of, telegram_at, group_named, IsSound}
use Rattle.balise_rules.specs.Doing.{refusal}
use Rattle.balise_rules.specs.Accepting.{Unused, Spelt}
use Rattle.balise_rules.specs.Edits.{Edit}
use Rattle.balise_rules.specs.declared.tagged_edit.TaggedEdit.TheVariants.{SetVar, SetHead, InsertPacket, DeletePacket, MovePacket, AddGroup, DropGroup, Renumber, TurnGroup}
use Rattle.balise_edit_laws.specs.TakenBack.{IsReady}
use Rattle.balise_rules.proofs.Tests.{split_on, tag_test, nat_test}
use Rattle.balise_rules.proofs.Cases.{unsome, unok, unless}
use Rattle.balise_rules.proofs.Each.{found_later}
use Rattle.balise_rules.proofs.Found.{group_sound}
use Rattle.balise_edit_laws.proofs.Refusing.{refused_exactly}

-- what is first in order of an identity stands under its tag
group_tag : (i : Id) → (plan : Plan) → Distinct same_tag plan → (z : Tag × Group) → group_named i plan ≡ Some z → find same_tag z.0 plan ≡ Some z.1
group_tag i [] u z h = cc
group_tag i (y ∷ rest) u z h =
    split_on (same_id (identity_of y.1) i)
    (λ e. let w : y ≡ z = unsome (simp e at h) in subst (λ x. find same_tag x.0 (y ∷ rest) ≡ Some x.1) w (let r = tag_test.itself y.0 in simp r))
    (λ e. let w : group_named i rest ≡ Some z = simp e at h in found_later tag_test y rest u.0 z.0 z.1 (group_tag i rest u.1 z w))

-- what stands at a place of a list stands under its key
place_tag : (n : ℕ) → (ys : Group) → Distinct eqb ys → (z : ℕ × Telegram) → slice_get ys n ≡ Some z → find eqb z.0 ys ≡ Some z.1
place_tag n [] u z h = absurd cc
place_tag zero (y ∷ ys) u z h = let w : y ≡ z = unsome h in subst (λ x. find eqb x.0 (y ∷ ys) ≡ Some x.1) w (let r = nat_test.itself y.0 in simp r)
place_tag (suc n) (y ∷ ys) u z h = found_later nat_test y ys u.0 z.0 z.1 (place_tag n ys u.1 z h)

-- a result of two steps
record InTurn {A B : Type 0} (r : Result A Refusal) (f : A → Result B Refusal) (y : B) : Type 0 where
  first : A
  is : r ≡ Ok first
  then_is : f first ≡ Ok y

in_turn : {A B : Type 0} → (r : Result A Refusal) → (f : A → Result B Refusal) → (y : B) → and_then r f ≡ Ok y → InTurn r f y
in_turn (Err x) f y h = absurd cc
in_turn (Ok x) f y h = record { first = x; is = refl; then_is = h }

or_some : {A : Type 0} → (o : Option A) → (r : Refusal) → (x : A) → ok_or o r ≡ Ok x → o ≡ Some x
or_some None r x h = absurd cc
or_some (Some y) r x h = cc

-- what is read with nothing after it is read with anything after it
read_before : (behind : List Bool) → (o : Option (Fields × List Bool)) → (r : Packet × List Bool) → read_packet [] o ≡ Ok r → read_packet behind o ≡ Ok (r.0, behind)
read_before behind None r h = absurd cc
read_before behind (Some f) r h = ap (λ (z : Packet × List Bool). Ok (z.0, behind)) (unok h)

-- the packet in a word of digits is spelt
pub word_spelt : (version : ℕ) → (b : List Bool) → (x : Packet) → packet_in version b ≡ Ok x → IsSpelt version x
unfolding packet_in read_body
word_spelt version b x h =
    let h1 = unless (ltb (length b) 8) _ _ x h in
    let h2 = unless (eqb (num (take 8 b)) 0) _ _ x h1.1 in
    let h3 = unless (eqb (num (take 8 b)) 255) _ _ x h2.1 in
    let h4 = unless (is_cut b) _ _ x h3.1 in
    let h5 = unless (not (eqb (length b) (length_said b + fill (length_said b)))) _ _ x h4.1 in
    let h6 = unless (not (all_zero (drop (length_said b) b))) _ _ x h5.1 in
    let o = read_form (packet version) [] (take (length_said b) b) in
    let w = in_turn (read_packet [] o) (λ p. Ok p.0) x h6.1 in
    let r = read_before (drop (length_said b) b) o w.first w.is in
    let whole : read_body version b ≡ Ok (w.first.0, drop (length_said b) b) = ap (λ c. cond c (Err PacketCut) (read_packet (drop (length_said b) b) o)) h4.0 ∙ r in
    subst (IsSpelt version) (unok w.then_is) (body_found version b (w.first.0, drop (length_said b) b) whole).spelt

-- the telegram at an address stands under its tags
telegram_tag : (i : Id) → (pig : ℕ) → (plan : Plan) → IsSound plan → (z : FoundTelegram) → find_telegram i pig plan ≡ Ok z → telegram_at z.group z.place plan ≡ Some z.telegram
telegram_tag i pig plan sound z h =
    let a = in_turn (find_group i plan) (λ g. and_then (ok_or (slice_get g.1 pig) NoSuchTelegram) (λ t. Ok (found_telegram g.0 t))) z h in
    let b = in_turn (ok_or (slice_get a.first.1 pig) NoSuchTelegram) (λ t. Ok (found_telegram a.first.0 t)) z a.then_is in
    let group = group_tag i plan sound.tags a.first (or_some (group_named i plan) NoSuchGroup a.first a.is) in
    let tags = (group_sound plan sound a.first.0 a.first.1 group).tags in
    let at = place_tag pig a.first.1 tags b.first (or_some (slice_get a.first.1 pig) NoSuchTelegram b.first b.is) in
    let all : telegram_at a.first.0 b.first.0 plan ≡ Some b.first.1 = ap (option_and_then (find eqb b.first.0)) group ∙ at in
    subst (λ (y : FoundTelegram). telegram_at y.group y.place plan ≡ Some y.telegram) (unok b.then_is) all

pub command_spelt : (c : Command) → (e : Edit) → (plan : Plan) → IsSound plan → edit_of c plan ≡ Ok e → Spelt e plan
command_spelt (AskInsert i pig at b) e plan sound h =
    let t = in_turn (find_telegram i pig plan) (insert_at at b) e h in
    let a = in_turn (ok_or (anchor_at at t.first.telegram.packets) NoSuchPacket) (λ k. and_then (packet_in (version_of t.first.telegram) b) (λ x. Ok (InsertPacket t.first.group t.first.place k x))) e t.then_is in
    let x = in_turn (packet_in (version_of t.first.telegram) b) (λ x. Ok (InsertPacket t.first.group t.first.place a.first x)) e a.then_is in
    let here = telegram_tag i pig plan sound t.first t.is in
    let spelt = word_spelt (version_of t.first.telegram) b x.first x.is in
    subst (λ f. Spelt f plan) (unok x.then_is)
    (λ y q. subst (λ (z : Telegram). IsSpelt (version_of z) x.first) (unsome (sym here ∙ q)) spelt)
command_spelt (AskSet i pig pkt v k n) e plan s h = let w = in_turn (find_packet i pig pkt plan) (λ p. Ok (SetVar p.group p.place p.tag v k n)) e h in subst (λ f. Spelt f plan) (unok w.then_is) tt
command_spelt (AskSetHead i pig v n) e plan s h = let w = in_turn (find_telegram i pig plan) (λ t. Ok (SetHead t.group t.place v n)) e h in subst (λ f. Spelt f plan) (unok w.then_is) tt
command_spelt (AskDelete i pig pkt) e plan s h = let w = in_turn (find_packet i pig pkt plan) (λ p. Ok (DeletePacket p.group p.place p.tag)) e h in subst (λ f. Spelt f plan) (unok w.then_is) tt
command_spelt (AskMove i pig pkt at) e plan s h =
    let w = in_turn (find_packet i pig pkt plan) (move_to at) e h in
    let a = in_turn (ok_or (anchor_at at (without same_tag w.first.tag w.first.telegram.packets)) NoSuchPacket) (λ a. Ok (MovePacket w.first.group w.first.place w.first.tag a)) e w.then_is in
    subst (λ f. Spelt f plan) (unok a.then_is) tt
command_spelt (AskAdd at bs) e plan s h = let w = in_turn (ok_or (anchor_at at plan) NoSuchGroup) (λ a. Ok (AddGroup a bs)) e h in subst (λ f. Spelt f plan) (unok w.then_is) tt
command_spelt (AskDrop i) e plan s h = let w = in_turn (find_group i plan) (λ g. Ok (DropGroup g.0)) e h in subst (λ f. Spelt f plan) (unok w.then_is) tt
command_spelt (AskRenumber i n) e plan s h = let w = in_turn (find_group i plan) (λ g. Ok (Renumber g.0 n)) e h in subst (λ f. Spelt f plan) (unok w.then_is) tt
command_spelt (AskTurn i) e plan s h = let w = in_turn (find_group i plan) (λ g. Ok (TurnGroup g.0)) e h in subst (λ f. Spelt f plan) (unok w.then_is) tt

pub command_ready : (c : Command) → (s : ℕ) → (e : Edit) → (plan : Plan) → IsSound plan → Unused s plan → edit_of c plan ≡ Ok e → refusal e plan ≡ None → IsReady (s, e) plan
command_ready c s e plan sound unused h none = record { sound = sound; unused = unused; spelt = command_spelt c e plan sound h; accepted = (refused_exactly e plan sound).0 none }
