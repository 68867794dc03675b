use Rattle.std.proofs.Common.{◌≡◌, ℕ, Some, arith}
use Rattle.balise_rules.specs.declared.tag.Tag.{Tag}
use Rattle.balise_telegram.specs.Packed.{place_from}
use Rattle.balise_telegram.specs.Setting.{with_field}
use Rattle.balise_telegram.proofs.PackedFields.{packet_there}
use Rattle.balise_telegram.proofs.FieldPlaces.{field_there}
use Rattle.balise_telegram.proofs.FieldsSet.{field_set}
use Rattle.balise_telegram.proofs.Seen.{put_again, stands_as, IsAgain}
use Rattle.balise_telegram.proofs.telegram.Telegram.put_field.Goals as goal

pub put-requires-clause-within : goal.put-requires-clause-within
put-requires-clause-within c =
    let y = c.args.self.now in
    let s = c.requires.stands in
    let p = packet_there s.0 (c.args.var, s.1) 50 c.args.at y.packets s.2 in
    let f = field_there _ y s.0 c.args.var s.1 p.0 c.args.at (stands_as c.self.inside.contents y c.self.invariant c.self.view_is).shown p.1 s.2 in
    omega (arith, f.within, c.width.ensures.width)

again : (c : goal.After-put) (tag : Tag) (k : ℕ) → place_from 50 tag (c.args.var, k) c.args.self.now.packets ≡ Some c.args.at → IsAgain c.put.new.self (with_field tag c.args.var k c.args.value c.args.self.now)
again c tag k e =
    let o = stands_as c.self.inside.contents c.args.self.now c.self.invariant c.self.view_is in
    let set = field_set _ _ c.args.self.now tag c.args.var k c.args.value c.args.at o e c.requires.free c.requires.fits in
    put_again c.put.new.self c.self.inside.contents _ c.args.at _ c.args.value c.args.var c.put.ensures.packed c.width.ensures.width c.put.ensures.kept set

pub invariant_of-self : goal.invariant_of-self
invariant_of-self c = (again c c.requires.stands.0 c.requires.stands.1 c.requires.stands.2).0

pub returns : goal.returns
returns c = λ tag k e. (again c tag k e).1
