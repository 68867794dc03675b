use Rattle.std.proofs.Common.{◌∙◌, ◌+◌, ℕ, inr, Some, slice_get, option_map, refl, ap, sym, add-one, arith}
use Rattle.balise_rules.specs.declared.tag.Tag.{Tag}
use Rattle.balise_rules.specs.Packet.{Packet}
use Rattle.balise_rules.specs.Tagged.{without}
use Rattle.balise_rules.specs.Tags.{same_tag}
use Rattle.balise_rules.specs.Back.{with_packets}
use Rattle.balise_telegram.specs.Shown.{kept_of, packed_of, Kept, StandsFor, IsOver, IsShown}
use Rattle.balise_telegram.proofs.Tagging.{found, not_found}
use Rattle.balise_telegram.proofs.Placing.{neighbour}
use Rattle.balise_telegram.proofs.Seen.{is_again, stands_as}
use Rattle.balise_telegram.proofs.InAndOut.{standing, taken_one, taken_out, Standing}
use Rattle.balise_telegram.proofs.telegram.Telegram.take.Goals as goal
use Rattle.balise_telegram.proofs.telegram.Telegram.take.Goals.{After-deref_mut, Joined-self}

pub returns-in_default : goal.returns-in_default
returns-in_default c = inr (not_found c.args.tag c.args.self.now.packets c.in_default.ensures.place, refl, refl)

stands : (c : After-deref_mut) → StandsFor (packed_of c.self.inside.contents) (kept_of c.self.inside.contents) c.args.self.now
stands c = stands_as c.self.inside.contents c.args.self.now c.self.invariant c.self.view_is

standing_of : (c : After-deref_mut) → Standing c.args.self.now c.args.tag c.in-Some.place c.after_lent-after.result (c.end-used.result.at + 8)
standing_of c = standing (packed_of c.self.inside.contents) c.args.self.now c.args.tag c.in-Some.place c.after_lent-after.result (c.end-used.result.at + 8) (stands c).shown c.in-Some.ensures.place c.in-Some.ensures.stands.0 c.after_lent-after.ensures.index c.after_lent-after.ensures.place c.end-used.ensures.at

out : (c : After-deref_mut) → IsShown c.deref_mut.result.now.packed c.args.self.now × IsOver c.deref_mut.result.now.kept c.args.self.now
out c = taken_out c.self.inside.contents c.in_ok-edited.edited.value c.deref_mut.result.now c.args.self.now (stands c) c.in_ok-edited.ensures.packed c.in_ok-edited.ensures.over c.deref_mut.ensures.value

pub overflow_sub-after : goal.overflow_sub-after
overflow_sub-after c = omega (arith, (standing_of (goal.at.overflow_sub-after c).After-deref_mut).wide)

pub cut_out-requires : goal.cut_out-requires
cut_out-requires c = let d = (goal.at.cut_out-requires c).After-deref_mut in (c.args.self.now, (out d).0, (out d).1, (standing_of d).spot)

abbrev kept_now : Joined-self → Kept
kept_now c = Some c.cut_out.new.edited

-- what its bits show, and what is kept, without the packet
held : (c : Joined-self) → StandsFor c.cut_out.new.bits (kept_now c) (with_packets c.args.self.now (without same_tag c.args.tag c.args.self.now.packets))
held c =
    let y = c.args.self.now in
    let d = (goal.at.Joined-self c).After-deref_mut in
    let t = standing_of d in
    let o = out d in
    taken_one c.deref_mut.result.now.packed c.cut_out.new.bits (kept_now c) y c.args.tag c.in-Some.place.index t.item o.0 t.stands (c.cut_out.ensures.shown y o.0 o.1 t.spot) (c.cut_out.ensures.over y o.0 o.1 t.spot)

pub invariant_of-self-2 : goal.invariant_of-self-2
invariant_of-self-2 c = (is_again c.cut_out.new.bits (kept_now c) (with_packets c.args.self.now (without same_tag c.args.tag c.args.self.now.packets)) (held c)).0

pub returns : goal.returns
returns c =
    let y = c.args.self.now in
    let t = standing_of (goal.at.returns c).After-deref_mut in (
      found c.args.tag y.packets c.in-Some.place.index t.item t.stands ∙ ap Some (sym (c.in_ok-packet.ensures.ok ∙ c.lent-lent.ensures t.item t.there)),
      neighbour c.args.tag y.packets c.in-Some.place.index t.item t.stands ∙ sym (c.tag_at-next.ensures ∙ ap (λ (k : ℕ). option_map (λ (q : Tag × Packet). q.0) (slice_get y.packets k)) (c.after_lent-after.ensures.index ∙ add-one c.in-Some.place.index)),
      (is_again c.cut_out.new.bits (kept_now c) (with_packets y (without same_tag c.args.tag y.packets)) (held c)).1,
    )
