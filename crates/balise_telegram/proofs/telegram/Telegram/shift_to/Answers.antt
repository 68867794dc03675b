use Rattle.std.proofs.Common.{◌≡◌, ◌∙◌, ◌⊎◌, inl, inr, ℕ, suc, ◌+◌, ◌-◌, cond, ltb, Option, Some, Ok, IfSome, slice_get, option_map, refl, ap, sym, subst, add-one, arith}
use Rattle.std.specs.List.{insert, remove}
use Rattle.balise_rules.specs.declared.tag.Tag.{Tag}
use Rattle.balise_rules.specs.Packet.{Packet}
use Rattle.balise_rules.specs.Telegram.{Telegram}
use Rattle.balise_rules.specs.Back.{with_packets}
use Rattle.balise_telegram.specs.declared.telegram.walking.Place.{Place}
use Rattle.balise_telegram.specs.Moving.{moved_to, Shifts, ShiftsBefore}
use Rattle.balise_telegram.specs.Shown.{packed_of, index_of, seen, Goes, IsPlace, StandsFor, IsOver, IsShown}
use Rattle.balise_telegram.proofs.Shifting as behind
use Rattle.balise_telegram.proofs.ShiftingBefore as before
use Rattle.balise_telegram.proofs.Shifting.{Moved}
use Rattle.balise_telegram.proofs.Seen.{is_again, stands_as}
use Rattle.balise_telegram.proofs.InAndOut.{taken_out, Standing}
use Rattle.balise_telegram.proofs.Walking.{few}
use Rattle.balise_telegram.proofs.Moves.{goes_from, goes_item, once_at}
use Rattle.balise_telegram.proofs.telegram.Telegram.shift_to.Goals as goal
use Rattle.balise_telegram.proofs.telegram.Telegram.shift_to.Goals.{then-to-from-via-then-to-from, then-to-from-via-else-to-from+then-to-from-2, After-deref_mut, Joined-packet-2}

pub returns-in_default : goal.returns-in_default
returns-in_default c = record {
  after = λ a e. inr (behind.no_packet c.args.tag a c.args.self.now c.in_default.ensures.place, refl);
  before = λ n e. inr (before.no_packet c.args.tag n c.args.self.now c.in_default.ensures.place, refl);
}

pub returns-in_default-place : goal.returns-in_default-place
returns-in_default-place c = record {
  after = λ a e. inr (behind.no_anchor c.args.tag a c.args.self.now c.in-Some.from.index c.in-Some.ensures.place (ap index_of (sym c.in_default-place.is) ∙ e), refl);
  before = λ n e. inr (before.no_neighbour c.args.tag n c.args.self.now c.in-Some.from.index c.in-Some.ensures.place (ap index_of (sym c.in_default-place.is) ∙ e), refl);
}

pub overflow_add-from : goal.overflow_add-from
overflow_add-from c = omega (arith, few _ c.args.self.now (stands_as c.self.inside.contents c.args.self.now c.self.invariant c.self.view_is).shown, c.in-Some.ensures.stands.1)

pub returns-then-to-from : goal.returns-then-to-from
returns-then-to-from c =
    let from = c.in-Some.from.index in
    let to = c.in-Some-place.to.index in
    let same : (to ≡ from) ⊎ (to ≡ suc from) = elim c.then-to-from.branch [ then-to-from-via-then-to-from w ↦ inl w.if-to-from.true | then-to-from-via-else-to-from+then-to-from-2 w ↦ inr (w.if-to-from-2.true ∙ add-one from) ] in
    record {
      after = λ a e. inr (behind.same_spots c.args.tag a c.args.self.now from to c.in-Some.ensures.place (ap index_of (sym c.in-Some-place.is) ∙ e) same, refl);
      before = λ n e. inr (before.same_spots c.args.tag n c.args.self.now from to c.in-Some.ensures.place (ap index_of (sym c.in-Some-place.is) ∙ e) same, refl);
    }

out : (c : After-deref_mut) → IsShown c.deref_mut.result.now.packed c.args.self.now × IsOver c.deref_mut.result.now.kept c.args.self.now
out c =
    let y = c.args.self.now in
    let o = stands_as c.self.inside.contents y c.self.invariant c.self.view_is in
    taken_out c.self.inside.contents c.in_ok-edited.edited.value c.deref_mut.result.now y o c.in_ok-edited.ensures.packed c.in_ok-edited.ensures.over c.deref_mut.ensures.value

goes : (c : After-deref_mut) → Goes c.args.self.now c.args.tag c.in_ok-packet.packet c.in-Some.from c.after-after.result c.in-Some-place.to (c.end-used.result.at + 8)
goes c = record {
  found = c.in-Some.ensures.place;
  packet = λ z e. c.in_ok-packet.ensures.ok ∙ c.lent.ensures z e;
  begins = c.in-Some.ensures.stands.0;
  next = c.after-after.ensures.index;
  ends = c.after-after.ensures.place;
  there = subst (λ (p : Option Place). IfSome p (λ q. IsPlace c.args.self.now q)) c.in-Some-place.is c.requires.within;
  all = c.end-used.ensures.at;
}

shown_of : (c : After-deref_mut) → IsShown (packed_of c.self.inside.contents) c.args.self.now
shown_of c = (stands_as c.self.inside.contents c.args.self.now c.self.invariant c.self.view_is).shown

abbrev before_move : Joined-packet-2 → After-deref_mut
before_move c = (goal.at.Joined-packet-2 c).After-deref_mut

abbrev wanted : Joined-packet-2 → Telegram
wanted c = with_packets c.args.self.now (moved_to c.in-Some.from.index c.in-Some-place.to.index (c.args.tag, c.in_ok-packet.packet) c.args.self.now.packets)

held : (c : Joined-packet-2) → StandsFor c.move_between.new.bits (Some c.move_between.new.edited) (wanted c)
held c = let d = before_move c in record {
  shown = c.move_between.ensures.shown c.args.self.now (out d).0 (out d).1 (goes d);
  kept = c.move_between.ensures.over c.args.self.now (out d).0 (out d).1 (goes d);
}

pub move_between-requires : goal.move_between-requires
move_between-requires c = let d = (goal.at.move_between-requires c).After-deref_mut in (c.args.self.now, (out d).0, (out d).1, goes d)

pub invariant_of-self-2 : goal.invariant_of-self-2
invariant_of-self-2 c = (is_again c.move_between.new.bits (Some c.move_between.new.edited) (wanted c) (held c)).0

was : (c : Joined-packet-2) → c.tag_at-next.result ≡ option_map (λ (q : Tag × Packet). q.0) (slice_get c.args.self.now.packets (suc c.in-Some.from.index))
was c = c.tag_at-next.ensures ∙ ap (λ (k : ℕ). option_map (λ (q : Tag × Packet). q.0) (slice_get c.args.self.now.packets k)) (c.after-after.ensures.index ∙ add-one c.in-Some.from.index)

now_is : (c : Joined-packet-2) → seen c.move_between.new.bits (Some c.move_between.new.edited) ≡ wanted c
now_is c = (is_again c.move_between.new.bits (Some c.move_between.new.edited) (wanted c) (held c)).1

abbrev standing_of : (c : Joined-packet-2) → Standing c.args.self.now c.args.tag c.in-Some.from c.after-after.result (c.end-used.result.at + 8)
standing_of c = goes_from (packed_of c.self.inside.contents) c.args.self.now c.args.tag c.in_ok-packet.packet c.in-Some.from c.after-after.result c.in-Some-place.to (c.end-used.result.at + 8) (shown_of (before_move c)) (goes (before_move c))

in_its_place : (c : Joined-packet-2) → (wanted c).packets ≡ insert (remove c.args.self.now.packets c.in-Some.from.index) (cond (ltb c.in-Some.from.index c.in-Some-place.to.index) (c.in-Some-place.to.index - 1) c.in-Some-place.to.index) (standing_of c).item
in_its_place c = ap (insert (remove c.args.self.now.packets c.in-Some.from.index) (cond (ltb c.in-Some.from.index c.in-Some-place.to.index) (c.in-Some-place.to.index - 1) c.in-Some-place.to.index)) (goes_item (packed_of c.self.inside.contents) c.args.self.now c.args.tag c.in_ok-packet.packet c.in-Some.from c.after-after.result c.in-Some-place.to (c.end-used.result.at + 8) (shown_of (before_move c)) (goes (before_move c)))

moved : (c : Joined-packet-2) → Moved c.args.self.now c.args.tag c.in-Some.from.index c.in-Some-place.to.index (cond (ltb c.in-Some.from.index c.in-Some-place.to.index) (c.in-Some-place.to.index - 1) c.in-Some-place.to.index) (standing_of c).item c.tag_at-next.result (wanted c).packets
moved c = record {
  distinct = (shown_of (before_move c)).tags;
  stands = (standing_of c).stands;
  elsewhere = c.if-to-from.false;
  not_next = λ d. c.if-to-from-2.false (d ∙ sym (add-one c.in-Some.from.index));
  follows = was c;
  placed = in_its_place c;
  once = once_at c.in-Some.from.index c.in-Some-place.to.index;
}

pub returns : goal.returns
returns c = record {
  after = λ a e. subst (Shifts c.args.tag a c.args.self.now (Ok c.tag_at-next.result)) (sym (now_is c)) (behind.shifted a c.args.self.now c.args.tag _ _ _ _ _ _ (moved c) (ap index_of (sym c.in-Some-place.is) ∙ e));
  before = λ n e. subst (ShiftsBefore c.args.tag n c.args.self.now (Ok c.tag_at-next.result)) (sym (now_is c)) (before.shifted n c.args.self.now c.args.tag _ _ _ _ _ _ (moved c) (ap index_of (sym c.in-Some-place.is) ∙ e));
}
