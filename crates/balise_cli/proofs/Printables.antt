-- The lines of a session's entries can be printed: each number is one of 32 bits, and digits are whole.
-- From acceptance, soundness, and the tags of the plan.
use Rattle.std.proofs.Common.{◌≡◌, ◌∙◌, inl, inr, ℕ, suc, ◌+◌, ◌%◌, ◌^◌, ◌<◌, ◌≤◌, nat_le, Bool, true, false, All, IsTrue, List, [], ◌∷◌, length, map, Option, Some, None, Result, Ok, Err, refl, sym, ap, subst, arith, length-append, pow_mono}
use Rattle.std.specs.Prelude.{unwrap_or}
use Rattle.std.proofs.lemmas.Bool.{leb-true, ltb-true}
use Rattle.std.proofs.lemmas.List.{length-replicate}
use Rattle.std.proofs.lemmas.List.Elements.{All-cons, All-nil}
use Rattle.balise_rules.specs.declared.refusal.Refusal.{Refusal}
use Rattle.balise_rules.specs.declared.tag.Tag.{Tag}
use Rattle.balise_rules.specs.declared.variable.Var.{Var}
use Rattle.balise_rules.specs.declared.variable.Var.TheVariants.{NidPacket, NidBg}
use Rattle.balise_rules.specs.Accepting.{Accepted, AcceptedAt, AcceptedIn, Spelt, Stands}
use Rattle.balise_rules.specs.Bits.{bits, fits, zeros}
use Rattle.balise_rules.specs.Digits.{fill}
use Rattle.balise_rules.specs.Doing.{done}
use Rattle.balise_rules.specs.Edits.{Edit, Item, group_of}
use Rattle.balise_rules.specs.declared.tagged_edit.TaggedEdit.TheVariants.{SetVar, SetHead, InsertPacket, DeletePacket, MovePacket, AddGroup, DropGroup, Renumber, TurnGroup}
use Rattle.balise_rules.specs.Forms.{Fields, Form, Matches, Numbered, count_of, spelling}
use Rattle.balise_rules.specs.Journal.{Nothing, Value, Number, BeforePacket, BeforeGroup, line_edit, line_of, noted_of, whole_bytes}
use Rattle.balise_rules.specs.Notes.{Note, note_at, note_drop, note_group, note_in, noted, set_note}
use Rattle.balise_rules.specs.Packet.{Packet, IsSpelt, bits_of, field_of, value, width}
use Rattle.balise_rules.specs.Packets.{packet}
use Rattle.balise_rules.specs.Plan.{Group, Plan, IsSound, IsSoundGroup, country_of, identity_of, read_telegrams, telegram_at, with_telegrams}
use Rattle.balise_rules.specs.Session.{entries}
use Rattle.balise_rules.specs.Tagged.{behind, find}
use Rattle.balise_rules.specs.Tags.{is_of, same_tag}
use Rattle.balise_rules.specs.Telegram.{IsLength, Telegram, header, read_telegram, version_of}
use Rattle.balise_rules.specs.Variables.{width_of}
use Rattle.balise_rules.proofs.Cases.{found}
use Rattle.balise_rules.proofs.Found.{Stood, field_fits, group_sound, packet_spelt, stood}
use Rattle.balise_rules.proofs.Keys.{found_counted}
use Rattle.balise_rules.proofs.Lists.{behind_found}
use Rattle.balise_rules.proofs.Numbers.{length-bits}
use Rattle.balise_rules.proofs.PacketAgain.{front_of}
use Rattle.balise_rules.proofs.TelegramShown.{telegram_read}
use Rattle.balise_rules.proofs.Tests.{split_on, tag_test}
use Rattle.balise_rules.proofs.Used.{used-without_there}
use Rattle.balise_strike_laws.specs.InSession.{Between}
use Rattle.balise_strike_laws.specs.Striking.{Standing}
use Rattle.balise_strike_laws.proofs.Strikes.{first-ready, standing-after}
use Rattle.balise_text.specs.Laws.{AreBytes, ArePrintable, IsNumber, IsPrintable, IsSpot, IsTagNumber}
use Rattle.balise_cli.proofs.SmallTags.{IsBig, SmallPlan, by_tag, small_kept, telegrams_of}

-- ---- values

few_bits : (v : Var) → nat_le (width_of v) 15 ≡ true
unfolding width_of
few_bits NidPacket = refl
few_bits v = refl

value_small : (v : Var) (n : ℕ) → IsTrue (fits (width_of v) n) → IsNumber n
value_small v n h = by (width_of v) (leb-true (width_of v) 15 (few_bits v)) h
  where
    by : (w : ℕ) → w ≤ 15 → IsTrue (fits w n) → IsNumber n
    by w l h = let most : 2 ^ w ≤ 2 ^ 15 = pow_mono l in let b : n < 2 ^ w = ltb-true n (2 ^ w) h in omega (arith, most, b)

-- the value of a field, or 0 where it isn't there
field_small : (form : Form) (fs : Fields) (rest : List Bool) → Matches form fs rest → (v : Var) (k : ℕ) → IsNumber (value v k fs)
field_small form fs rest m v k =
    found (field_of v k fs)
    (λ e. subst IsNumber (sym (ap (λ (o : Option ℕ). unwrap_or o 0) e)) (omega arith))
    (λ n e. subst IsNumber (sym (ap (λ (o : Option ℕ). unwrap_or o 0) e)) (value_small v n (field_fits form fs rest m (v, k) n e)))

-- the number of an occurrence is below that of the bits
some_bit : (v : Var) → nat_le 1 (width_of v) ≡ true
unfolding width_of
some_bit NidPacket = refl
some_bit v = refl

few_fields : (fs : Fields) → length fs ≤ length (spelling fs)
unfolding spelling
few_fields [] = omega arith
few_fields (f ∷ fs) =
    let one = leb-true 1 (width_of f.0.0) (some_bit f.0.0) in
    omega (arith, one, length-append (bits (width_of f.0.0) f.1) (spelling fs), length-bits (width_of f.0.0) f.1, few_fields fs)

few_of : (v : Var) (fs : Fields) → count_of v fs ≤ length fs
few_of v [] = omega arith
few_of v (f ∷ fs) =
    let more = few_of v fs in
    split_on (is_of v f.0)
    (λ e. let c : count_of v (f ∷ fs) ≡ suc (count_of v fs) = simp e in omega (arith, c, more))
    (λ e. let c : count_of v (f ∷ fs) ≡ count_of v fs = simp e in omega (arith, c, more))

occurrence_small : (x : Packet) → Numbered x.fields → width x ≤ 830 → (v : Var) (k n : ℕ) → field_of v k x.fields ≡ Some n → IsNumber k
occurrence_small x numbered room v k n h =
    let below : k < count_of v [] + count_of v x.fields = found_counted [] x.fields numbered v k n h in
    omega (arith, below, few_of v x.fields, few_fields x.fields, length-append (spelling x.fields) x.rest, room)

-- ---- tags

tag_small : {A : Type 0} (xs : List (Tag × A)) → ((k : Tag) → IsBig k → find same_tag k xs ≡ None) → (k : Tag) (x : A) → find same_tag k xs ≡ Some x → IsTagNumber k
tag_small xs none k x h = elim (by_tag k) [ inl n ↦ n | inr big ↦ absurd (let e = sym (none k big) ∙ h in cc) ]

spot_small : {A : Type 0} (xs : List (Tag × A)) → ((k : Tag) → IsBig k → find same_tag k xs ≡ None) → (a : Option Tag) → Stands a xs → IsSpot a
spot_small xs none None h = tt
spot_small xs none (Some k) h = tag_small xs none k h.0 h.1

behind_small : {A : Type 0} (xs : List (Tag × A)) → ((k : Tag) → IsBig k → find same_tag k xs ≡ None) → (p : Tag) (b : Option Tag) → behind same_tag p xs ≡ b → IsSpot b
behind_small xs none p None h = tt
behind_small xs none p (Some k) h = elim (by_tag k) [ inl n ↦ n | inr big ↦ absurd (behind_found tag_test p k xs h (none k big)) ]

-- ---- one telegram

-- a telegram that is asked something stands, under tags of 32 bits
record Asked (e : Edit) (g : Tag) (t : ℕ) (plan : Plan) : Type 0 where
  y : Telegram
  is : telegram_at g t plan ≡ Some y
  accepted : AcceptedAt e (Some y)
  stood : Stood g t plan y
  group : IsTagNumber g
  telegram : IsNumber t
  tags : (k : Tag) → IsBig k → find same_tag k y.packets ≡ None

asked : (e : Edit) (g : Tag) (t : ℕ) (plan : Plan) → IsSound plan → SmallPlan plan → AcceptedAt e (telegram_at g t plan) → Asked e g t plan
asked e g t plan sound small a =
    found (telegram_at g t plan)
    (λ q. absurd (subst (AcceptedAt e) q a))
    (λ y q. let s = stood g t plan sound y q in
    let w = small.within g s.group s.has_group in
    record { y = y; is = q; accepted = subst (AcceptedAt e) q a; stood = s; group = tag_small plan small.groups g s.group s.has_group; telegram = w.telegrams t y s.has_telegram; tags = w.packets t y s.has_telegram })

-- a packet of it takes at most 830 bits
packet_room : (e : Edit) (g : Tag) (t : ℕ) (plan : Plan) (q : Asked e g t plan) (p : Tag) (x : Packet) → find same_tag p q.y.packets ≡ Some x → width x ≤ 830
packet_room e g t plan q p x h =
    let s = q.stood.placed.sound in
    let parts = used-without_there p x q.y.packets s.tags h in
    let room = s.fits in
    elim s.size [ inl n ↦ omega (arith, n, parts, room) | inr n ↦ omega (arith, n, parts, room) ]

-- what it notes is what it notes there
noted_there : (e : Edit) (plan : Plan) (g : Tag) (t : ℕ) (q : Asked e g t plan) → noted e plan ≡ note_at e (telegram_at g t plan) → noted e plan ≡ note_in e q.y
noted_there e plan g t q h = h ∙ ap (note_at e) q.is

-- ---- the kinds of edits

setting : (g : Tag) (t : ℕ) (p : Tag) (v : Var) (k n : ℕ) (plan : Plan) → IsSound plan → SmallPlan plan → Accepted (SetVar g t p v k n) plan → ArePrintable (SetVar g t p v k n) (Value (noted (SetVar g t p v k n) plan).old)
setting g t p v k n plan sound small a =
    let e = SetVar g t p v k n in
    let q = asked e g t plan sound small a.1 in
    let here : AcceptedIn e q.y = q.accepted in
    let spelt = packet_spelt q.y q.stood.placed.sound p here.0 here.1 in
    let old : (noted e plan).old ≡ value v k here.0.fields = ap (λ (m : Note). m.old) (noted_there e plan g t q refl) ∙ ap (λ (o : Option Packet). (set_note v k n (country_of q.y) o).old) here.1 in (
      q.group,
      q.telegram,
      tag_small q.y.packets q.tags p here.0 here.1,
      occurrence_small here.0 spelt.numbered (packet_room e g t plan q p here.0 here.1) v k here.2.0 here.2.1,
      value_small v n a.0.1,
      subst IsNumber (sym old) (field_small (packet (version_of q.y)) here.0.fields here.0.rest spelt.form v k),
    )

header_setting : (g : Tag) (t : ℕ) (v : Var) (n : ℕ) (plan : Plan) → IsSound plan → SmallPlan plan → Accepted (SetHead g t v n) plan → ArePrintable (SetHead g t v n) (Value (noted (SetHead g t v n) plan).old)
header_setting g t v n plan sound small a =
    let e = SetHead g t v n in
    let q = asked e g t plan sound small a.1 in
    let old : (noted e plan).old ≡ value v 0 q.y.head = ap (λ (m : Note). m.old) (noted_there e plan g t q refl) in
    (q.group, q.telegram, value_small v n a.0.1, subst IsNumber (sym old) (field_small header q.y.head [] q.stood.placed.sound.header v 0))

whole : (n : ℕ) → (n + fill n) % 8 ≡ 0
whole n = omega arith

bytes_whole : (version : ℕ) (x : Packet) → IsSpelt version x → AreBytes (whole_bytes x)
bytes_whole version x s =
    let size : length (whole_bytes x) ≡ width x + fill (width x) = length-append (bits_of x) (zeros (fill (width x))) ∙ ap (λ (n : ℕ). width x + n) (length-replicate (fill (width x)) false) in
    let least = (front_of version x s).least in
    (omega (arith, size, least), ap (λ (n : ℕ). n % 8) size ∙ whole (width x))

insertion : (g : Tag) (t : ℕ) (at : Option Tag) (x : Packet) (plan : Plan) → IsSound plan → SmallPlan plan → Accepted (InsertPacket g t at x) plan → Spelt (InsertPacket g t at x) plan → ArePrintable (InsertPacket g t at (whole_bytes x)) Nothing
insertion g t at x plan sound small a spelt =
    let q = asked (InsertPacket g t at x) g t plan sound small a.1 in
    let here : AcceptedIn (InsertPacket g t at x) q.y = q.accepted in
    (q.group, q.telegram, spot_small q.y.packets q.tags at here.0, bytes_whole (version_of q.y) x (spelt q.y q.is))

deletion : (g : Tag) (t : ℕ) (p : Tag) (plan : Plan) → IsSound plan → SmallPlan plan → Accepted (DeletePacket g t p) plan → ArePrintable (DeletePacket g t p) (BeforePacket (noted (DeletePacket g t p) plan).before)
deletion g t p plan sound small a =
    let e = DeletePacket g t p in
    let q = asked e g t plan sound small a.1 in
    let here : AcceptedIn e q.y = q.accepted in
    let next : behind same_tag p q.y.packets ≡ (noted e plan).before = sym (ap (λ (m : Note). m.before) (noted_there e plan g t q refl)) in
    (q.group, q.telegram, tag_small q.y.packets q.tags p here.0 here.1, behind_small q.y.packets q.tags p (noted e plan).before next)

moving : (g : Tag) (t : ℕ) (p : Tag) (at : Option Tag) (plan : Plan) → IsSound plan → SmallPlan plan → Accepted (MovePacket g t p at) plan → ArePrintable (MovePacket g t p at) (BeforePacket (noted (MovePacket g t p at) plan).before)
moving g t p at plan sound small a =
    let e = MovePacket g t p at in
    let q = asked e g t plan sound small a.1 in
    let here : AcceptedIn e q.y = q.accepted in
    let next : behind same_tag p q.y.packets ≡ (noted e plan).before = sym (ap (λ (m : Note). m.before) (noted_there e plan g t q refl)) in
    (q.group, q.telegram, tag_small q.y.packets q.tags p here.0.0 here.0.1, spot_small q.y.packets q.tags at here.1, behind_small q.y.packets q.tags p (noted e plan).before next)

lengths_read : (n : ℕ) (bs : List (List Bool)) (ys : Group) → read_telegrams n bs ≡ Ok ys → All (λ (b : List Bool). IsLength (length b)) bs
unfolding read_telegrams
lengths_read n [] ys h = All-nil (λ (b : List Bool). IsLength (length b))
lengths_read n (b ∷ bs) ys h = by (λ zs d. lengths_read (suc n) bs zs d) (read_telegram b) refl (read_telegrams (suc n) bs) refl h
  where
    by : ((zs : Group) → read_telegrams (suc n) bs ≡ Ok zs → All (λ (b : List Bool). IsLength (length b)) bs) → (r : Result Telegram Refusal) → read_telegram b ≡ r → (q : Result Group Refusal) → read_telegrams (suc n) bs ≡ q
        → with_telegrams n r q ≡ Ok ys → All (λ (b : List Bool). IsLength (length b)) (b ∷ bs)
    by again (Err x) e q d k = absurd cc
    by again (Ok z) e (Err x) d k = absurd cc
    by again (Ok z) e (Ok zs) d k = All-cons (λ (c : List Bool). IsLength (length c)) b bs (telegram_read b z e).size (again zs d)

adding : (at : Option Tag) (bs : List (List Bool)) (plan : Plan) → SmallPlan plan → Accepted (AddGroup at bs) plan → ArePrintable (AddGroup at bs) Nothing
adding at bs plan small a =
    let r = telegrams_of bs (group_of bs) a.0 in
    (spot_small plan small.groups at a.1.0, (r.0, lengths_read 0 bs (group_of bs) r.2))

-- the group of a tag stands
number_small : (ys : Group) → IsSoundGroup ys → IsNumber (identity_of ys).number
number_small [] s = omega arith
number_small (y ∷ ys) s = field_small header y.1.head [] s.telegrams.0.header NidBg 0

renumbering : (g : Tag) (n : ℕ) (plan : Plan) → IsSound plan → SmallPlan plan → Accepted (Renumber g n) plan → ArePrintable (Renumber g n) (Number (noted (Renumber g n) plan).old)
renumbering g n plan sound small a =
    let old : (noted (Renumber g n) plan).old ≡ (identity_of a.1.0).number = ap (λ (o : Option Group). (note_group o).old) a.1.1 in
    (tag_small plan small.groups g a.1.0 a.1.1, value_small NidBg n a.0.0, subst IsNumber (sym old) (number_small a.1.0 (group_sound plan sound g a.1.0 a.1.1)))

dropping : (g : Tag) (plan : Plan) → SmallPlan plan → Accepted (DropGroup g) plan → ArePrintable (DropGroup g) (BeforeGroup (noted (DropGroup g) plan).before)
dropping g plan small a =
    let next : behind same_tag g plan ≡ (noted (DropGroup g) plan).before = sym (ap (λ (o : Option Group). (note_drop (behind same_tag g plan) o).before) a.1.1) in
    (tag_small plan small.groups g a.1.0 a.1.1, behind_small plan small.groups g (noted (DropGroup g) plan).before next)

-- ---- a session's lines

kinds_printable : (e : Edit) (plan : Plan) → IsSound plan → SmallPlan plan → Accepted e plan → Spelt e plan → ArePrintable (line_edit e) (noted_of e (noted e plan))
kinds_printable (SetVar g t p v k n) plan sound small a spelt = setting g t p v k n plan sound small a
kinds_printable (SetHead g t v n) plan sound small a spelt = header_setting g t v n plan sound small a
kinds_printable (InsertPacket g t at x) plan sound small a spelt = insertion g t at x plan sound small a spelt
kinds_printable (DeletePacket g t p) plan sound small a spelt = deletion g t p plan sound small a
kinds_printable (MovePacket g t p at) plan sound small a spelt = moving g t p at plan sound small a
kinds_printable (AddGroup at bs) plan sound small a spelt = adding at bs plan small a
kinds_printable (DropGroup g) plan sound small a spelt = dropping g plan small a
kinds_printable (Renumber g n) plan sound small a spelt = renumbering g n plan sound small a
kinds_printable (TurnGroup g) plan sound small a spelt = tag_small plan small.groups g a.1.0 a.1.1

pub entries_printable : (last next : ℕ) (es : List Item) (plan : Plan) → IsNumber next → Standing plan es → Between last next es → SmallPlan plan → All IsPrintable (map line_of (entries plan es))
entries_printable last next [] plan most st b small = All-nil IsPrintable
entries_printable last next (e ∷ es) plan most st b small =
    let below = b.1 in
    let number : IsNumber e.0 = omega (arith, below, most) in
    let r = first-ready plan e es st in
    All-cons IsPrintable (line_of (e, noted e.1 plan)) (map line_of (entries (done e plan) es)) (number, kinds_printable e.1 plan st.sound small st.accepted.0 st.spelt.0)
    (entries_printable e.0 next es (done e plan) most (standing-after plan e es st) b.2 (small_kept e plan r number small))
