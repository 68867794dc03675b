use Rattle.std.proofs.Common.{sym, arith}
use Rattle.balise_telegram.proofs.HeaderForms.{changed_aside}
use Rattle.balise_telegram.proofs.HeaderPlaces.{head_stands, head_there}
use Rattle.balise_telegram.specs.Setting.{with_head}
use Rattle.balise_telegram.proofs.FieldsSet.{head_set}
use Rattle.balise_telegram.specs.Shown.{packed_of}
use Rattle.balise_telegram.proofs.Seen.{put_again, read_of, shown_read, stands_as, IsAgain}
use Rattle.balise_telegram.proofs.telegram.Telegram.put_in_head.Goals as goal

pub put-requires-clause-within : goal.put-requires-clause-within
put-requires-clause-within c =
    let b = packed_of c.self.inside.contents in
    let o = stands_as c.self.inside.contents c.args.self.now c.self.invariant c.self.view_is in
    let h = head_there b (read_of b c.args.self.now) c.args.var c.in-Some.place (shown_read b c.args.self.now o.shown) (sym c.in-Some.ensures) in
    omega (arith, h.within, c.width.ensures.width)

again : (c : goal.After-put) → IsAgain c.put.new.self (with_head c.args.var c.args.value c.args.self.now)
again c =
    let o = stands_as c.self.inside.contents c.args.self.now c.self.invariant c.self.view_is in
    let set = head_set _ _ c.args.self.now c.args.var c.args.value c.in-Some.place o (sym c.in-Some.ensures) (changed_aside c.args.var c.requires.var) c.requires.fits in
    put_again c.put.new.self c.self.inside.contents _ c.in-Some.place _ c.args.value c.args.var c.put.ensures.packed c.width.ensures.width c.put.ensures.kept set

pub invariant_of-self : goal.invariant_of-self
invariant_of-self c = (again c).0

pub returns-in-Some : goal.returns-in-Some
returns-in-Some c = (again c).1

pub returns-in_default : goal.returns-in_default
returns-in_default c = absurd (head_stands c.args.var c.requires.var (sym c.in_default.ensures))
