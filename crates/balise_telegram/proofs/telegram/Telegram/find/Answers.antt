use Rattle.std.proofs.Common.{◌≡◌, ◌∙◌, ◌<◌, length, Some, ap, sym, subst, arith}
use Rattle.std.specs.List.{position}
use Rattle.balise_rules.specs.Tags.{same_tag}
use Rattle.balise_rules.specs.Telegram.{Telegram}
use Rattle.balise_telegram.specs.declared.telegram.contents.Contents.{Contents}
use Rattle.balise_telegram.specs.declared.telegram.contents.EditedBits.{EditedBits}
use Rattle.balise_telegram.specs.Shown.{kept_of, packed_of, seen, IsKept, IsOver, IsPlace, IsShown}
use Rattle.balise_telegram.proofs.Tagging.{is_tagged}
use Rattle.balise_telegram.proofs.Placing.{looked}
use Rattle.balise_telegram.proofs.KeptTags.{position-tags}
use Rattle.balise_telegram.proofs.Walking.{passed_to}
use Rattle.balise_telegram.proofs.telegram.Telegram.find.Goals as goal

pub returns-in_default-clause-place : goal.returns-in_default-clause-place
returns-in_default-clause-place c =
    let y = seen (packed_of c.self.inside.contents) (kept_of c.self.inside.contents) in
    let over : IsOver c.in-Edited.edited.value.kept y = subst (λ (d : Contents). IsKept (kept_of d) y) c.in-Edited.is c.self.invariant.kept in
    c.in_default.ensures.place
    ∙ ap (λ (e : EditedBits). position (same_tag c.args.tag) e.kept.tags.items) c.deref.ensures
    ∙ ap (position (same_tag c.args.tag)) over.0
    ∙ position-tags c.args.tag y.packets
    ∙ ap (λ (z : Telegram). position (is_tagged c.args.tag) z.packets) c.self.view_is

pub returns-in-Some : goal.returns-in-Some
returns-in-Some c =
    let y = seen (packed_of c.self.inside.contents) (kept_of c.self.inside.contents) in
    let over : IsOver c.in-Edited.edited.value.kept y = subst (λ (d : Contents). IsKept (kept_of d) y) c.in-Edited.is c.self.invariant.kept in
    let shown : IsShown c.in-Edited.edited.value.packed y = subst (λ (d : Contents). IsShown (packed_of d) y) c.in-Edited.is c.self.invariant.shown in
    let at : Some c.in-Some.i ≡ position (is_tagged c.args.tag) y.packets = c.in-Some.ensures.place
    ∙ ap (λ (e : EditedBits). position (same_tag c.args.tag) e.kept.tags.items) c.deref.ensures
    ∙ ap (position (same_tag c.args.tag)) over.0
    ∙ position-tags c.args.tag y.packets in
    let q = looked c.args.tag y.packets c.in-Some.i at in
    let p = c.walk.ensures y (subst (λ (e : EditedBits). IsShown e.packed y) (sym c.deref-in-Edited.ensures) shown) in
    let same : c.walk.result.index ≡ c.in-Some.i = omega (arith, p.counted, q.1.within) in
    record {
      place = ap Some same ∙ at ∙ ap (λ (z : Telegram). position (is_tagged c.args.tag) z.packets) c.self.view_is;
      stands = subst (λ (z : Telegram). IsPlace z c.walk.result × (c.walk.result.index < length z.packets)) c.self.view_is (passed_to y c.in-Some.i c.walk.result p, omega (arith, p.counted, q.1.within));
    }
