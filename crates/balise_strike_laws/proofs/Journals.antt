-- A journal is read as the session that it was made of.
-- Proves that each line of an entry fits where its edit stood, and that the strikes leave the stack as it was.
-- From reading again what is spelt, and from what the stack keeps.
use Rattle.std.proofs.Common.{◌≡◌, ◌<◌, ◌+◌, ℕ, zero, suc, true, false, cond, ◌&&◌, eqb, ltb, nat_lt, nat_le, List, [], ◌∷◌, ◌++◌, length, map, take, drop, reverse, Option, Some, None, Result, Ok, refl, sym, ap, subst, ◌∙◌, arith, length-append, append_assoc}
use Rattle.std.specs.Prelude.{is_none, option_and_then}
use Rattle.std.proofs.lemmas.Bool.{le-ltb, lt-ltb, le-leb, and_from, eq-eqb}
use Rattle.std.proofs.lemmas.List.{take_at, drop_at, length-replicate, reverse-append, append-nil}
use Rattle.balise_rules.specs.Bits.{num, zeros}
use Rattle.balise_rules.specs.Digits.{fill, all_zero}
use Rattle.balise_rules.specs.Forms.{read_form}
use Rattle.balise_rules.specs.Packets.{packet}
use Rattle.balise_rules.specs.Packet.{Packet, bits_of, width, IsSpelt, length_said}
use Rattle.balise_rules.specs.Telegram.{version_of}
use Rattle.balise_rules.specs.Plan.{Plan, IsSound, telegram_at}
use Rattle.balise_rules.specs.Edits.{Edit, Item}
use Rattle.balise_rules.specs.declared.tagged_edit.TaggedEdit.TheVariants.{InsertPacket}
use Rattle.balise_rules.specs.Notes.{noted}
use Rattle.balise_rules.specs.Doing.{refusal, done}
use Rattle.balise_rules.specs.Accepting.{Accepted, Spelt}
use Rattle.balise_rules.specs.Addresses.{packet_in}
use Rattle.balise_rules.specs.Session.{State, Removed, made, entries, put_back}
use Rattle.balise_rules.specs.Journal.{Noted, Nothing, Value, Number, BeforePacket, BeforeGroup, noted_of, same_noted, whole_bytes, line_edit, line_of, all_back, lines, undone}
use Rattle.balise_rules.specs.Opening.{or_nothing, packet_for, inserting, edit_in, if_fits, item_of, most_serial, last_serial, with_item, uncounted, with_undone, or_place, with_entries, with_all_undone, and_undone, from_entries}
use Rattle.balise_rules.proofs.Tests.{spot_itself, tag_test, nat_test}
use Rattle.balise_rules.proofs.Spelt.{read_again}
use Rattle.balise_rules.proofs.PacketRead.{said_is, said_within}
use Rattle.balise_rules.proofs.PacketAgain.{front_of}
use Rattle.balise_edit_laws.proofs.Refusing.{refused_exactly}
use Rattle.balise_strike_laws.specs.Striking.{Standing}
use Rattle.balise_strike_laws.specs.Redoing.{WasStruck, Redoable}
use Rattle.balise_strike_laws.specs.InSession.{Between}
use Rattle.balise_strike_laws.specs.Journals.{JournalKept}
use Rattle.balise_strike_laws.proofs.Strikes.{standing-after, made-append}
use Rattle.balise_strike_laws.proofs.TakenOut.{strike_after}
use Rattle.balise_rules.proofs.Cases.{unok}
use Rattle.balise_rules.proofs.Accepted.{accepted_here}

-- ---- the lines

zeros-all : (n : ℕ) → all_zero (zeros n) ≡ true
zeros-all zero = refl
zeros-all (suc n) = zeros-all n

-- a packet's bits with zeros up to a whole byte are read as the packet
packet-again : (version : ℕ) → (x : Packet) → IsSpelt version x → packet_in version (bits_of x ++ zeros (fill (width x))) ≡ Ok x
unfolding packet_in
packet-again version x s =
    let b = bits_of x in
    let z = zeros (fill (length b)) in
    let f = front_of version x s in
    let long : length z ≡ fill (length b) = length-replicate (fill (length b)) false in
    let size : length (b ++ z) ≡ length b + length z = length-append b z in
    let said : length_said (b ++ z) ≡ length b = sym (said_within (length b) (b ++ z) f.least) ∙ ap length_said (take_at b z (length b) refl) ∙ sym (said_is version x.fields x.rest s.form s.numbered) ∙ s.said in
    let c0 : ltb (length (b ++ z)) 8 ≡ false = le-ltb _ _ (omega (arith, size, f.least)) in
    let n0 : eqb (num (take 8 (b ++ z))) 0 ≡ false = ap (λ n. eqb n 0) (f.is z) ∙ f.some in
    let n1 : eqb (num (take 8 (b ++ z))) 255 ≡ false = ap (λ n. eqb n 255) (f.is z) ∙ f.no_end in
    let c1 : ltb (length (b ++ z)) 23 ≡ false = le-ltb _ _ (omega (arith, size, f.least)) in
    let c2 : ltb (length_said (b ++ z)) 23 ≡ false = le-ltb _ _ (omega (arith, said, f.least)) in
    let c3 : ltb (length (b ++ z)) (length_said (b ++ z)) ≡ false = le-ltb _ _ (omega (arith, said, size)) in
    let whole : eqb (length (b ++ z)) (length_said (b ++ z) + fill (length_said (b ++ z))) ≡ true =
    eq-eqb _ _ (size ∙ ap (λ n. length b + n) long ∙ ap (λ n. n + fill n) (sym said)) in
    let behind : drop (length_said (b ++ z)) (b ++ z) ≡ z = ap (λ n. drop n (b ++ z)) said ∙ drop_at b z (length b) refl in
    let spare : all_zero (drop (length_said (b ++ z)) (b ++ z)) ≡ true = ap all_zero behind ∙ zeros-all (fill (length b)) in
    let own : take (length_said (b ++ z)) (b ++ z) ≡ b = ap (λ n. take n (b ++ z)) said ∙ take_at b z (length b) refl in
    let read : read_form (packet version) [] (take (length_said (b ++ z)) (b ++ z)) ≡ Some (x.fields, x.rest) = ap (read_form (packet version) []) own ∙ read_again (packet version) [] x.fields x.rest s.form s.numbered in
    rw (c0, n0, n1, c1, c2, c3, whole, spare, read) refl

pub same_itself : (m : Noted) → same_noted m m ≡ true
same_itself Nothing = refl
same_itself (Value n) = nat_test.itself n
same_itself (Number n) = nat_test.itself n
same_itself (BeforePacket b) = spot_itself tag_test b
same_itself (BeforeGroup b) = spot_itself tag_test b

-- the line of an edit that stands is of the edit
line-edit : (e : Edit) → (plan : Plan) → Accepted e plan → Spelt e plan → edit_in (line_edit e) plan ≡ Some e
line-edit (InsertPacket g t a x) plan acc sp =
    let y = accepted_here (InsertPacket g t a x) (telegram_at g t plan) acc.1 in
    ap (λ o. inserting g t a (option_and_then (packet_for (whole_bytes x)) o)) y.1 ∙ ap (λ r. inserting g t a (or_nothing r)) (packet-again (version_of y.0) x (sp y.0 y.1))
line-edit e plan acc sp = refl

item-again : (last next : ℕ) → (e : Item) → (plan : Plan) → IsSound plan → Accepted e.1 plan → Spelt e.1 plan → last < e.0 → e.0 < next →
    item_of last next (line_of (e, noted e.1 plan)) plan ≡ Some e
item-again last next e plan sound acc sp low high =
    let l = line_of (e, noted e.1 plan) in
    let none : is_none (refusal e.1 plan) ≡ true = ap is_none ((refused_exactly e.1 plan sound).1 acc) in
    let said : same_noted (noted_of e.1 (noted e.1 plan)) (noted_of e.1 (noted e.1 plan)) ≡ true = same_itself (noted_of e.1 (noted e.1 plan)) in
    let within : (nat_lt last e.0 && nat_lt e.0 next) ≡ true = and_from _ _ (lt-ltb last e.0 low) (lt-ltb e.0 next high) in
    ap (λ b. cond b (if_fits l plan (edit_in l.edit plan)) None) within
    ∙ ap (if_fits l plan) (line-edit e.1 plan acc sp)
    ∙ ap (λ b. cond b (Some (e.0, e.1)) None) (and_from _ _ none said)

-- the state with these edits, of which nothing is counted
abbrev with : State → List Item → List Removed → State
with s es rs = record { base = s.base; standing = es; stack = rs; serial = s.serial; count = 0 }

last-next : (es : List Item) → (e : Item) → last_serial (es ++ e ∷ []) ≡ e.0
last-next [] e = refl
last-next (f ∷ []) e = refl
last-next (f ∷ g ∷ gs) e = last-next (g ∷ gs) e

entries-again : (n : ℕ) → (s : State) → (before es : List Item) → (plan : Plan) → made s.base before ≡ plan → Standing plan es → Between (last_serial before) s.serial es →
    with_entries n (map line_of (entries plan es)) (with s before []) ≡ Ok (with s (before ++ es) [])
entries-again n s before [] plan q st b = ap (λ x. Ok (with s x [])) (sym (append-nil before))
entries-again n s before (e ∷ es) plan q st b =
    let l = line_of (e, noted e.1 plan) in
    let more = with_entries (suc n) (map line_of (entries (done e plan) es)) in
    let u = with s before [] in
    ap (λ p. or_place (Some n) (with_item u (item_of (last_serial before) s.serial l p)) more) q
    ∙ ap (λ o. or_place (Some n) (with_item u o) more) (item-again (last_serial before) s.serial e plan st.sound st.accepted.0 st.spelt.0 b.0 b.1)
    ∙ entries-again (suc n) s (before ++ e ∷ []) es (done e plan) (made-append s.base before (e ∷ []) ∙ ap (done e) q) (standing-after plan e es st) (subst (λ m. Between m s.serial es) (sym (last-next before e)) b.2)
    ∙ ap (λ x. Ok (with s x [])) (append_assoc before (e ∷ []) es)

-- ---- the stack

struck-again : (s : State) → (all left : List Item) → (r : Removed) → (rs : List Removed) → WasStruck s.base all r left → with_undone (with s all rs) r.item.0 ≡ Some (with s left (r ∷ rs))
struck-again s all left r rs w = ap (uncounted 0) (strike_after (with s all rs) r left w)

one-more : (n : ℕ) → (us : List ℕ) → (u : ℕ) → (s t v : State) → with_all_undone n us s ≡ Ok t → with_undone t u ≡ Some v → with_all_undone n (us ++ u ∷ []) s ≡ Ok v
one-more n [] u s t v h k = ap (λ x. or_place (Some n) (with_undone x u) (with_all_undone (suc n) [])) (unok h) ∙ ap (λ o. or_place (Some n) o (with_all_undone (suc n) [])) k
one-more n (w ∷ us) u s t v h k = at (λ x. one-more (suc n) us u x t v) (with_undone s w) h
  where
    at : ((x : State) → with_all_undone (suc n) us x ≡ Ok t → with_undone t u ≡ Some v → with_all_undone (suc n) (us ++ u ∷ []) x ≡ Ok v) →
        (o : Option State) → or_place (Some n) o (with_all_undone (suc n) us) ≡ Ok t → or_place (Some n) o (with_all_undone (suc n) (us ++ u ∷ [])) ≡ Ok v
    at more None h = absurd cc
    at more (Some x) h = more x h k

abbrev serials : List Removed → List ℕ
serials rs = map (λ (r : Removed). r.item.0) rs

undone-again : (s : State) → (n : ℕ) → (rs : List Removed) → (items : List Item) → Redoable s.base items rs → with_all_undone n (reverse (serials rs)) (with s (all_back rs items) []) ≡ Ok (with s items rs)
undone-again s n [] items d = refl
undone-again s n (r ∷ rs) items d =
    ap (λ l. with_all_undone n l (with s (all_back rs (put_back r items)) [])) (reverse-append (r.item.0 ∷ []) (serials rs))
    ∙ one-more n (reverse (serials rs)) r.item.0 (with s (all_back rs (put_back r items)) []) (with s (put_back r items) rs) (with s items (r ∷ rs)) (undone-again s n rs (put_back r items) d.1) (struck-again s (put_back r items) items r rs d.0)

pub journal_kept : JournalKept
journal_kept s one most d st b =
    let all = all_back s.stack s.standing in
    let ls = lines s in
    let inside : (nat_le 1 s.serial && nat_le s.serial most_serial) ≡ true = and_from _ _ (le-leb 1 s.serial one) (le-leb s.serial most_serial most) in
    let entered : ◌≡◌ {A = Result State (Option ℕ)} (from_entries s.base s.serial ls) (Ok (with s all [])) =
    ap (λ k. or_place None (cond k (Some (with s [] [])) None) (with_entries 0 ls)) inside ∙ entries-again 0 s [] all s.base refl st b in
    ap (and_undone (length ls) (undone s)) entered ∙ undone-again s (length ls) s.stack s.standing d
