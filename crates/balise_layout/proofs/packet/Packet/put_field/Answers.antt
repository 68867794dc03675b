-- A value put where a field stands keeps the form, and is the field's new value.
use Rattle.std.proofs.Common.{◌≡◌, ℕ, sym, subst, ap, ◌∙◌, arith}
use Rattle.balise_rules.specs.Variables.{width_of}
use Rattle.balise_rules.specs.Bits.{bits, put_at}
use Rattle.balise_layout.specs.Held.{held, Holds, IsHeld}
use Rattle.balise_layout.specs.Layouts.{next_of}
use Rattle.balise_layout.specs.Kinds.{number_of}
use Rattle.balise_layout.proofs.Held.{put_held}
use Rattle.balise_layout.proofs.Layouts.{next_steady}
use Rattle.balise_layout.proofs.Values.{stands_within}
use Rattle.balise_layout.proofs.packet.Packet.put_field.Goals as goal

pub put-requires-clause-within : goal.put-requires-clause-within
put-requires-clause-within c =
    let next = next_of (number_of c.self.inside.kind) in
    let here : Holds next c.self.inside.packed c.args.self.now = subst (Holds next c.self.inside.packed) c.self.view_is c.self.invariant in
    omega (arith, c.width.ensures.width, stands_within next c.self.inside.packed c.args.self.now c.args.var c.requires.stands.0 c.args.at here c.requires.stands.1)

pub invariant_of-self : goal.invariant_of-self
invariant_of-self c =
    let own = number_of c.self.inside.kind in
    let here : Holds (next_of own) c.self.inside.packed c.args.self.now = subst (Holds (next_of own) c.self.inside.packed) c.self.view_is c.self.invariant in
    let new : c.put.new.self ≡ put_at c.args.at (bits (width_of c.args.var) c.args.value) c.self.inside.packed = c.put.ensures ∙ ap (λ (w : ℕ). put_at c.args.at (bits w c.args.value) c.self.inside.packed) c.width.ensures.width in
    subst (IsHeld (next_of own)) (sym new) (put_held (next_of own) c.self.inside.packed c.args.self.now c.args.var c.requires.stands.0 c.args.value c.args.at (next_steady own) c.requires.free c.requires.fits here c.requires.stands.1).0

pub returns : goal.returns
returns c = λ k at.
    let own = number_of c.self.inside.kind in
    let here : Holds (next_of own) c.self.inside.packed c.args.self.now = subst (Holds (next_of own) c.self.inside.packed) c.self.view_is c.self.invariant in
    let new : c.put.new.self ≡ put_at c.args.at (bits (width_of c.args.var) c.args.value) c.self.inside.packed = c.put.ensures ∙ ap (λ (w : ℕ). put_at c.args.at (bits w c.args.value) c.self.inside.packed) c.width.ensures.width in
    ap (held (next_of own)) new ∙ (put_held (next_of own) c.self.inside.packed c.args.self.now c.args.var k c.args.value c.args.at (next_steady own) c.requires.free c.requires.fits here at).1
