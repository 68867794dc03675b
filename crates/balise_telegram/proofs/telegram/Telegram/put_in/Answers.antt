use Rattle.std.proofs.Common.{◌≡◌, ◌≤◌, ◌+◌, length, Option, Some, IfSome, ap, subst, arith}
use Rattle.std.proofs.lemmas.Result.{on_ok_weaker, on_err_weaker}
use Rattle.std.specs.List.{insert}
use Rattle.balise_rules.specs.Packet.{width}
use Rattle.balise_rules.specs.Telegram.{Telegram, room, used}
use Rattle.balise_rules.specs.Back.{with_packets}
use Rattle.balise_telegram.specs.Shown.{kept_of, packed_of, index_of, Gap, IsOver, IsPlace, IsShown, StandsFor, seen}
use Rattle.balise_telegram.specs.declared.telegram.walking.Place.{Place}
use Rattle.balise_telegram.proofs.Seen.{is_again, stands_as}
use Rattle.balise_telegram.proofs.Walking.{used_within}
use Rattle.balise_telegram.proofs.InAndOut.{after, put_one, put_ok, put_wants, gap_of, taken_out}
use Rattle.balise_telegram.proofs.telegram.Telegram.put_in.Goals as goal
use Rattle.balise_telegram.proofs.telegram.Telegram.put_in.Goals.{in-Ok-done+in-Heap-1, in-Ok-done+in-Inline-1, in-Err-done, After-deref_mut, Joined-done}

pub overflow_sub-len : goal.overflow_sub-len
overflow_sub-len c =
    let y = c.args.self.now in
    let at : IsPlace y c.in-Some.place = subst (λ (p : Option Place). IfSome p (λ q. IsPlace y q)) c.in-Some.is c.requires.within in
    omega (arith, c.len.ensures, c.end-used.ensures.at, used_within c.packed.result.now y c.packed.ensures)

stands : (c : After-deref_mut) → StandsFor (packed_of c.self.inside.contents) (kept_of c.self.inside.contents) c.args.self.now
stands c = stands_as c.self.inside.contents c.args.self.now c.self.invariant c.self.view_is

out : (c : After-deref_mut) → IsShown c.deref_mut.result.now.packed c.args.self.now × IsOver c.deref_mut.result.now.kept c.args.self.now
out c = taken_out c.self.inside.contents c.in-Ok.edited.value c.deref_mut.result.now c.args.self.now (stands c) c.in-Ok.ensures.packed c.in-Ok.ensures.over c.deref_mut.ensures.value

fits : (c : After-deref_mut) → width c.args.packet ≤ room c.args.self.now
fits c = omega (arith, c.if-len-used.false, c.len.ensures, c.width.ensures, (stands c).shown.ground, c.end-used.ensures.at)

gap : (c : After-deref_mut) → Gap c.args.self.now c.in-Some.place.index c.in-Some.place.at (width c.args.packet) (c.end-used.result.at + 8) × (used c.args.self.now.packets + width c.args.packet ≤ length c.deref_mut.result.now.packed)
gap c =
    let y = c.args.self.now in
    let at : IsPlace y c.in-Some.place = subst (λ (p : Option Place). IfSome p (λ q. IsPlace y q)) c.in-Some.is c.requires.within in
    gap_of c.deref_mut.result.now.packed y c.in-Some.place.index c.in-Some.place.at (c.end-used.result.at + 8) (width c.args.packet) (out c).0 at.0 at.1 c.end-used.ensures.at (fits c)

pub put_between-done-requires : goal.put_between-done-requires
put_between-done-requires c = let d = (goal.at.put_between-done-requires c).After-deref_mut in (c.args.self.now, (out d).0, (out d).1, (gap d).0)

abbrev wanted : Joined-done → Telegram
wanted c = after c.put_between-done.result (with_packets c.args.self.now (insert c.args.self.now.packets c.in-Some.place.index (c.args.tag, c.args.packet))) c.args.self.now

held : (c : Joined-done) → StandsFor c.put_between-done.new.bits (Some c.put_between-done.new.edited) (wanted c)
held c =
    let y = c.args.self.now in
    let d = (goal.at.Joined-done c).After-deref_mut in
    let out = out d in
    let g = gap d in
    put_one c.put_between-done.result c.deref_mut.result.now.packed c.put_between-done.new.bits (Some c.put_between-done.new.edited) y c.in-Some.place.index (c.args.tag, c.args.packet) out.0 c.requires.new c.requires.spelt g.1
    (on_ok_weaker c.put_between-done.result (λ f. f y out.0 out.1 g.0) c.put_between-done.ensures.shown)
    (on_ok_weaker c.put_between-done.result (λ f. f y out.0 out.1 g.0) c.put_between-done.ensures.over)
    c.put_between-done.ensures.bits
    (on_err_weaker c.put_between-done.result (λ f. f y out.1) c.put_between-done.ensures.kept)

pub invariant_of-self-2 : goal.invariant_of-self-2
invariant_of-self-2 c = (is_again c.put_between-done.new.bits (Some c.put_between-done.new.edited) (wanted c) (held c)).0

pub returns : goal.returns
returns c =
    let y = c.args.self.now in
    let fits = fits (goal.at.returns c).After-deref_mut in
    let now : seen c.put_between-done.new.bits (Some c.put_between-done.new.edited) ≡ wanted c = (is_again c.put_between-done.new.bits (Some c.put_between-done.new.edited) (wanted c) (held c)).1 in
    elim c.match-done.branch [
      | in-Ok-done+in-Heap-1 w ↦ put_ok (index_of c.args.place) c.in-Some.place.index c.args.tag c.args.packet y _ c.put_between-done.result c.match-done.result _ _ (ap index_of c.in-Some.is) fits w.in-Ok-done.is w.result-is now
      | in-Ok-done+in-Inline-1 w ↦ put_ok (index_of c.args.place) c.in-Some.place.index c.args.tag c.args.packet y _ c.put_between-done.result c.match-done.result _ _ (ap index_of c.in-Some.is) fits w.in-Ok-done.is w.result-is now
      | in-Err-done w ↦ put_wants (index_of c.args.place) c.in-Some.place.index c.args.tag c.args.packet y _ c.put_between-done.result c.match-done.result _ w.in-Err-done.is w.result-is c.put_between-done.ensures.fault now
    ]
