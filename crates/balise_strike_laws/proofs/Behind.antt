-- Striking under later neighbours, on the plan: an edit after what another put in commutes with it, on the other's own anchor.
-- Proves it for an insertion and a move after an inserted packet, and for a group after an added one.
-- From the same on lists, the room that both need, and the identities of the two groups.
use Rattle.std.proofs.Common.{◌≡◌, ℕ, ◌+◌, ◌≤◌, Bool, false, cond, ◌&&◌, eqb, List, [], ◌∷◌, ◌++◌, length, Option, Some, None, refl, sym, ap, subst, ◌∙◌, arith}
use Rattle.std.specs.Option.{option_map}
use Rattle.balise_rules.specs.declared.tag.Tag.{Tag}
use Rattle.balise_rules.specs.declared.tag.Tag.TheVariants.{Fresh}
use Rattle.balise_rules.specs.Tagged.{same_spot, find, behind, put, each, Change, Put, Move, changed}
use Rattle.balise_rules.specs.Tags.{same_tag}
use Rattle.balise_rules.specs.Packet.{Packet, width}
use Rattle.balise_rules.specs.Telegram.{Telegram, used}
use Rattle.balise_rules.specs.Plan.{Plan, identity_of, telegram_at}
use Rattle.balise_rules.specs.Names.{names_of}
use Rattle.balise_rules.specs.Edits.{Item, group_of, telegram_after}
use Rattle.balise_rules.specs.declared.tagged_edit.TaggedEdit.TheVariants.{InsertPacket, MovePacket, AddGroup}
use Rattle.balise_rules.specs.Notes.{nothing, noted}
use Rattle.balise_rules.specs.Doing.{done}
use Rattle.balise_rules.specs.Accepting.{Stands, AcceptedIn, AcceptedAt, Accepted, Unused}
use Rattle.balise_rules.specs.Paths.{Whose, Path, meet, changes, needs}
use Rattle.balise_rules.proofs.Tests.{split_on, tag_test, nat_test}
use Rattle.balise_rules.proofs.Each.{each-each}
use Rattle.balise_rules.proofs.Anchors.{anchor-other, stands-put}
use Rattle.balise_rules.proofs.Found.{place_is}
use Rattle.balise_rules.proofs.Used.{used-put_there}
use Rattle.balise_strike_laws.proofs.Headers.{country-kept}
use Rattle.balise_strike_laws.proofs.Neighbours.{Accepts}
use Rattle.balise_strike_laws.proofs.Levels.{keep}
use Rattle.balise_strike_laws.proofs.Places.{In}
use Rattle.balise_strike_laws.proofs.Facts.{Facts}
use Rattle.balise_strike_laws.proofs.Locals.{asks-at, at-asks, noted-at, telegram-done}
use Rattle.balise_strike_laws.proofs.Identities.{no-group-back, no-group-forward}
use Rattle.balise_strike_laws.proofs.GroupReaders.{added_real}
use Rattle.balise_strike_laws.proofs.PutIn.{put-put_in, MovesBehind, moves-behind}
use Rattle.balise_strike_laws.specs.Laws.{CommutesBehind}

-- a change here
at-home : (g : Tag) → (t : ℕ) → (a : Change Tag Packet) → cond (same_tag g g && eqb t t) a keep ≡ a
at-home g t a = let gs = tag_test.itself g in let ts = nat_test.itself t in simp (gs, ts)

fits-here : (g : Tag) → (t : ℕ) → (a : Change Tag Packet) → (ps : List (Tag × Packet)) → (n l : ℕ) →
    used (changed same_tag (cond (same_tag g g && eqb t t) a keep) ps) + n ≤ l → used (changed same_tag a ps) + n ≤ l
fits-here g t a ps n l h = subst (λ u. used (changed same_tag u ps) + n ≤ l) (at-home g t a) h

asks-here : (g : Tag) → (t : ℕ) → (a : Change Tag Packet) → (c : Option Tag) → (ps : List (Tag × Packet)) → (n l : ℕ) → Stands c (changed same_tag a ps) →
    used (changed same_tag a ps) + n ≤ l →
    Stands c (changed same_tag (cond (same_tag g g && eqb t t) a keep) ps) × (used (changed same_tag (cond (same_tag g g && eqb t t) a keep) ps) + n ≤ l)
asks-here g t a c ps n l h k = subst (λ u. Stands c (changed same_tag u ps) × (used (changed same_tag u ps) + n ≤ l)) (sym (at-home g t a)) (h, k)

-- a change of the packets of one telegram
abbrev in_packets : Tag → ℕ → Change Tag Packet → Tag → ℕ → Telegram → Telegram
in_packets g t a g2 t2 y = record { head = each (λ key v. v) y.head; packets = changed same_tag (cond (same_tag g g2 && eqb t t2) a keep) y.packets; padding = y.padding }

abbrev in_plan : Tag → ℕ → Change Tag Packet → Plan → Plan
in_plan g t a plan = each (λ g2 xs. each (in_packets g t a g2) xs) plan

changes-same : (g : Tag) → (t : ℕ) → (a b c d : Change Tag Packet) → (plan : Plan) → Facts plan →
    ((y : Telegram) → telegram_at g t plan ≡ Some y → changed same_tag a (changed same_tag b y.packets) ≡ changed same_tag c (changed same_tag d y.packets)) →
    in_plan g t a (in_plan g t b plan) ≡ in_plan g t c (in_plan g t d plan)
changes-same g t a b c d plan s h = each-each tag_test (λ g2 xs. each (in_packets g t a g2) xs) (λ g2 xs. each (in_packets g t b g2) xs) (λ g2 xs. each (in_packets g t c g2) xs) (λ g2 xs. each (in_packets g t d g2) xs) plan s.groups
    (λ g2 xs q. each-each nat_test (in_packets g t a g2) (in_packets g t b g2) (in_packets g t c g2) (in_packets g t d g2) xs (s.telegrams g2 xs q)
    (λ t2 y k. ap (λ ps. record { head = each (λ key v. v) (each (λ key v. v) y.head); packets = ps; padding = y.padding })
    (split_on (same_tag g g2 && eqb t t2) (λ e. simp e (h y (place_is g g2 t t2 plan e ∙ simp q k))) (λ e. simp e))))

-- an insertion after an inserted packet
module _ (s0 : ℕ) (g : Tag) (t : ℕ) (a : Option Tag) (x : Packet) (s1 : ℕ) (plan : Plan) (s : Facts plan) (u0 : Unused s0 plan) (u1 : Unused s1 plan) (ae : Accepted (InsertPacket g t a x) plan) where
  abbrev e0 : Item
  e0 = (s0, InsertPacket g t a x)

  new-here : (y : Telegram) → telegram_at g t plan ≡ Some y → find same_tag (Fresh s0) y.packets ≡ None
  new-here y q = u0.packets g t y q

  stands-here : (y : Telegram) → telegram_at g t plan ≡ Some y → Stands a y.packets
  stands-here y q = let k : AcceptedIn (InsertPacket g t a x) y = subst (AcceptedAt (InsertPacket g t a x)) q ae.1 in k.0

  after-first : (y : Telegram) → telegram_at g t plan ≡ Some y → telegram_at g t (done e0 plan) ≡ Some (telegram_after e0 (noted e0.1 plan).own g t y)
  after-first y q = telegram-done e0 (noted e0.1 plan).own g t plan s tt ∙ ap (option_map (telegram_after e0 (noted e0.1 plan).own g t)) q

  pub insert-behind : (x1 : Packet) → Accepted (InsertPacket g t (Some (Fresh s0)) x1) (done e0 plan) →
      CommutesBehind e0 (s1, InsertPacket g t (Some (Fresh s0)) x1) plan
  insert-behind x1 af =
      let w = asks-at (InsertPacket g t a x) tt plan ae.1 in
      let qe = after-first w.0 w.1 in
      let qh = telegram-done (s1, InsertPacket g t a x1) (noted (InsertPacket g t a x1) plan).own g t plan s tt ∙ ap (option_map (telegram_after (s1, InsertPacket g t a x1) (noted (InsertPacket g t a x1) plan).own g t)) w.1 in
      let k = subst (AcceptedAt (InsertPacket g t (Some (Fresh s0)) x1)) qe af.1 in
      let fits : used (put same_tag a (Fresh s0, x) w.0.packets) + width x1 ≤ length w.0.padding = fits-here g t (Put a (Fresh s0, x)) w.0.packets (width x1) (length w.0.padding) k.1 in
      let o0 = used-put_there a (Fresh s0, x) w.0.packets w.2.0 in let o1 = used-put_there a (Fresh s1, x1) w.0.packets w.2.0 in
      let l = w.2.1 in
      let n1 = anchor-other a (Fresh s1) w.0.packets w.2.0 (u1.packets g t w.0 w.1) in
      let r1 : used w.0.packets + width x1 ≤ length w.0.padding = omega arith in
      let r2 : used (put same_tag a (Fresh s1, x1) w.0.packets) + width x ≤ length w.0.padding = omega arith in
      record {
        second_first = (tt, at-asks (InsertPacket g t a x1) tt plan w.0 w.1 (w.2.0, r1));
        second_notes = noted-at (InsertPacket g t a x1) tt plan w.0 w.1 ∙ ap (λ c. record nothing { names = names_of c x1 }) (sym (country-kept (InsertPacket g t a x) tt g t w.0.head))
            ∙ sym (noted-at (InsertPacket g t (Some (Fresh s0)) x1) tt (done e0 plan) (telegram_after e0 (noted e0.1 plan).own g t w.0) qe);
        first_then = (
          tt,
          at-asks (InsertPacket g t a x) tt (done (s1, InsertPacket g t a x1) plan) (telegram_after (s1, InsertPacket g t a x1) (noted (InsertPacket g t a x1) plan).own g t w.0) qh
              (asks-here g t (Put a (Fresh s1, x1)) a w.0.packets (width x) (length w.0.padding) (stands-put a (Fresh s1, x1) w.0.packets n1 w.2.0) r2),
        );
        first_notes = noted-at (InsertPacket g t a x) tt (done (s1, InsertPacket g t a x1) plan) (telegram_after (s1, InsertPacket g t a x1) (noted (InsertPacket g t a x1) plan).own g t w.0) qh
            ∙ ap (λ c. record nothing { names = names_of c x }) (country-kept (InsertPacket g t a x1) tt g t w.0.head) ∙ sym (noted-at (InsertPacket g t a x) tt plan w.0 w.1);
        same_plan = changes-same g t (Put (Some (Fresh s0)) (Fresh s1, x1)) (Put a (Fresh s0, x)) (Put a (Fresh s0, x)) (Put a (Fresh s1, x1)) plan s
            (λ y q. put-put_in a (Fresh s0, x) (Fresh s1, x1) (anchor-other a (Fresh s0) y.packets (stands-here y q) (new-here y q)) y.packets (new-here y q));
      }

  pub move-behind : (p : Tag) → same_spot same_tag a (Some p) ≡ false → Accepted (MovePacket g t p (Some (Fresh s0))) (done e0 plan) →
      CommutesBehind e0 (s1, MovePacket g t p (Some (Fresh s0))) plan
  move-behind p n af =
      let w = asks-at (InsertPacket g t a x) tt plan ae.1 in
      let qe = after-first w.0 w.1 in
      let qh = telegram-done (s1, MovePacket g t p a) (noted (MovePacket g t p a) plan).own g t plan s tt ∙ ap (option_map (telegram_after (s1, MovePacket g t p a) (noted (MovePacket g t p a) plan).own g t)) w.1 in
      let r = moves-here p n af w.0 w.1 in
      record {
        second_first = (tt, at-asks (MovePacket g t p a) tt plan w.0 w.1 r.accepted);
        second_notes = noted-at (MovePacket g t p a) tt plan w.0 w.1
            ∙ ap (λ b. record nothing { before = b }) (r.neighbour ∙ ap (λ c. behind same_tag p (changed same_tag c w.0.packets)) (sym (at-home g t (Put a (Fresh s0, x)))))
            ∙ sym (noted-at (MovePacket g t p (Some (Fresh s0))) tt (done e0 plan) (telegram_after e0 (noted e0.1 plan).own g t w.0) qe);
        first_then = (
          tt,
          at-asks (InsertPacket g t a x) tt (done (s1, MovePacket g t p a) plan) (telegram_after (s1, MovePacket g t p a) (noted (MovePacket g t p a) plan).own g t w.0) qh
              (asks-here g t (Move p a) a w.0.packets (width x) (length w.0.padding) r.stands r.fits),
        );
        first_notes = noted-at (InsertPacket g t a x) tt (done (s1, MovePacket g t p a) plan) (telegram_after (s1, MovePacket g t p a) (noted (MovePacket g t p a) plan).own g t w.0) qh
            ∙ ap (λ c. record nothing { names = names_of c x }) (country-kept (MovePacket g t p a) tt g t w.0.head) ∙ sym (noted-at (InsertPacket g t a x) tt plan w.0 w.1);
        same_plan = changes-same g t (Move p (Some (Fresh s0))) (Put a (Fresh s0, x)) (Put a (Fresh s0, x)) (Move p a) plan s (λ y q. (moves-here p n af y q).same_list);
      }
    where
      moves-here : (p : Tag) → same_spot same_tag a (Some p) ≡ false → Accepted (MovePacket g t p (Some (Fresh s0))) (done e0 plan) → (y : Telegram) →
          telegram_at g t plan ≡ Some y → MovesBehind a (Fresh s0, x) p (length y.padding) y.packets
      moves-here p n af y q =
          let k : AcceptedIn (InsertPacket g t a x) y = subst (AcceptedAt (InsertPacket g t a x)) q ae.1 in
          let f : Accepts (Move p (Some (Fresh s0))) (changed same_tag (cond (same_tag g g && eqb t t) (Put a (Fresh s0, x)) keep) y.packets) = subst (AcceptedAt (MovePacket g t p (Some (Fresh s0)))) (after-first y q) af.1 in
          moves-behind a (Fresh s0, x) p (length y.padding) y.packets (s.heads g t y q).1 (new-here y q) n k.0 k.1
          (subst (λ c. Accepts (Move p (Some (Fresh s0))) (changed same_tag c y.packets)) (at-home g t (Put a (Fresh s0, x))) f)

-- two groups, the second after the first
pub add-behind : (s0 : ℕ) → (a : Option Tag) → (bs : List (List Bool)) → (s1 : ℕ) → (cs : List (List Bool)) → (plan : Plan) → Facts plan → Unused s0 plan →
    Unused s1 plan →
    ((pl : Path) → In pl (changes ((s0, AddGroup a bs), noted (AddGroup a bs) plan) ++ needs ((s0, AddGroup a bs), noted (AddGroup a bs) plan)) → meet (Whose (identity_of (group_of cs)) ∷ []) pl ≡ false) →
    ((pl : Path) → In pl (changes ((s1, AddGroup a cs), noted (AddGroup a cs) plan) ++ needs ((s1, AddGroup a cs), noted (AddGroup a cs) plan)) → meet (Whose (identity_of (group_of bs)) ∷ []) pl ≡ false) →
    Accepted (AddGroup a bs) plan → Accepted (AddGroup (Some (Fresh s0)) cs) (done (s0, AddGroup a bs) plan) →
    CommutesBehind (s0, AddGroup a bs) (s1, AddGroup (Some (Fresh s0)) cs) plan
add-behind s0 a bs s1 cs plan s u0 u1 c0 c1 ae af =
    let ah : Accepted (AddGroup a cs) plan = (af.0, (ae.1.0, no-group-back plan s (s0, AddGroup a bs) ae u0 (identity_of (group_of cs)) (added_real cs af.0) c0 af.1.1)) in
    record {
      second_first = ah;
      second_notes = refl;
      first_then = (ae.0, (stands-put a (Fresh s1, group_of cs) plan (anchor-other a (Fresh s1) plan ae.1.0 u1.groups) ae.1.0, no-group-forward plan s (s1, AddGroup a cs) ah u1 (identity_of (group_of bs)) (added_real bs ae.0) c1 ae.1.1));
      first_notes = refl;
      same_plan = put-put_in a (Fresh s0, group_of bs) (Fresh s1, group_of cs) (anchor-other a (Fresh s0) plan ae.1.0 u0.groups) plan u0.groups;
    }
