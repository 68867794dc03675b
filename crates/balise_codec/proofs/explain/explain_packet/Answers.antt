-- The packet's parts stand one after another.
use Rattle.std.proofs.Common.{◌≡◌, ◌∙◌, ◌+◌, ◌-◌, ℕ, List, refl, ap, length, arith}
use Rattle.balise_rules.specs.declared.variable.Var.{Var}
use Rattle.balise_rules.specs.Bits.{part}
use Rattle.balise_rules.specs.Forms.{Fields, spelling}
use Rattle.balise_rules.specs.Packet.{Packet, width}
use Rattle.balise_layout.specs.Collected.{all_keyed}
use Rattle.balise_codec.specs.Places.{placed}
use Rattle.balise_codec.proofs.Placing.{lies, Lies}
use Rattle.balise_codec.proofs.explain.explain_packet.Goals.{After-width, In_ok-placed}
use Rattle.balise_codec.proofs.explain.explain_packet.Goals as goal

-- the packet that is lent lies there
there : (c : After-width) → Lies c.args.bits.now c.args.at c.new-packet.result
there c = let r = c.requires in rw (c.new-packet.ensures r.0 r.1 r.2) (lies c.args.version c.args.bits.now c.args.at r.0 r.1 r.2)

pub overflow_add-end : goal.overflow_add-end
overflow_add-end c = omega (arith, (there (goal.at.overflow_add-end c).After-width).within, c.width.ensures, c.len-len.ensures)

pub place_all-requires : goal.place_all-requires
place_all-requires c =
    let l = there (goal.at.place_all-requires c).After-width in
    let fields : length (spelling (all_keyed c.deref.result.now)) ≡ length (spelling c.new-packet.result.fields) = ap (λ (x : List (Var × ℕ × ℕ)). length (spelling (all_keyed x))) c.deref.ensures.value ∙ ap (λ (x : Fields). length (spelling x)) c.in_ok-fields.ensures.ok in
    omega (arith, l.within, l.fields, fields, c.len-len.ensures)

-- the place after the fields
next : (c : In_ok-placed) → c.in_ok-placed.next ≡ c.args.at + length (spelling c.new-packet.result.fields)
next c = c.in_ok-placed.ensures.ok.1 ∙ ap (λ (x : List (Var × ℕ × ℕ)). c.args.at + length (spelling (all_keyed x))) c.deref.ensures.value ∙ ap (λ (x : Fields). c.args.at + length (spelling x)) c.in_ok-fields.ensures.ok

pub slice-requires : goal.slice-requires
slice-requires c =
    let l = there (goal.at.slice-requires c).After-width in
    omega (arith, l.within, l.fields, next (goal.at.slice-requires c).In_ok-placed, c.width.ensures)

pub returns-clause-ok : goal.returns-clause-ok
returns-clause-ok c = λ p after e.
    let b = c.args.bits.now in
    let l = there (goal.at.returns-clause-ok c).After-width in
    let n = next (goal.at.returns-clause-ok c).In_ok-placed in
    let q = c.new-packet.result in
    let same : q ≡ p = c.new-packet.ensures p after e in
    let fields : c.in_ok-placed.placed.items ≡ placed c.args.at q.fields = c.in_ok-placed.ensures.ok.0 ∙ ap (λ (x : List (Var × ℕ × ℕ)). placed c.args.at (all_keyed x)) c.deref.ensures.value ∙ ap (placed c.args.at) c.in_ok-fields.ensures.ok in
    let size : c.args.at + c.width.result - c.in_ok-placed.next ≡ width q - length (spelling q.fields) = omega (arith, n, c.width.ensures) in
    let rest : c.in_ok-rest.rest ≡ q.rest = c.in_ok-rest.ensures.ok ∙ ap (λ (k : ℕ). part k (c.args.at + c.width.result - c.in_ok-placed.next) b) n ∙ ap (λ (k : ℕ). part (c.args.at + length (spelling q.fields)) k b) size ∙ l.rest in
    ((refl, fields ∙ ap (λ (x : Packet). placed c.args.at x.fields) same, rest ∙ ap (λ (x : Packet). x.rest) same), ap (λ (k : ℕ). c.args.at + k) (c.width.ensures ∙ ap (λ (x : Packet). width x) same))
