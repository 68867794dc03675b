-- Q_DIR stands after 8 bits of every packet.
use Rattle.std.proofs.Common.{arith, ◌≡◌, ◌<◌, ◌^◌, ◌-◌, ℕ, refl, sym, ap, ◌∙◌}
use Rattle.balise_rules.specs.declared.variable.Var.TheVariants.{QDir}
use Rattle.balise_rules.specs.Variables.{width_of, steers}
use Rattle.balise_rules.specs.Packet.{value}
use Rattle.balise_rules.specs.Edits.{exchanged}
use Rattle.balise_layout.specs.Held.{with_field}
use Rattle.balise_layout.specs.Setting.{turned}
use Rattle.balise_layout.proofs.Values.{dir_stands, dir_within, dir_value, dir_found, exchanged_low, exchanged_high, with_field-same, spelt_still}
use Rattle.balise_layout.proofs.packet.Packet.flip_dir.Goals as goal

pub number-dir-requires-clause-within : goal.number-dir-requires-clause-within
number-dir-requires-clause-within c = dir_within c.bits.ensures.0 c.bits.result.now c.args.self.now c.bits.ensures.1

pub put_field-requires-clause-stands : goal.put_field-requires-clause-stands
put_field-requires-clause-stands c = (0, dir_stands c.bits.ensures.0 c.bits.result.now c.args.self.now c.bits.ensures.1)

pub returns-then-dir-lt2-clause-turned : goal.returns-then-dir-lt2-clause-turned
returns-then-dir-lt2-clause-turned c =
    let p = c.args.self.now in
    let dir : c.number-dir.result ≡ value QDir 0 p.fields = c.number-dir.ensures ∙ dir_value c.bits.ensures.0 c.bits.result.now p c.bits.ensures.1 in
    let new : 1 - c.number-dir.result ≡ exchanged 0 1 (value QDir 0 p.fields) = sym (exchanged_low c.number-dir.result c.if-dir-lt2.true) ∙ ap (exchanged 0 1) dir in
    c.put_field.ensures 0 (dir_stands c.bits.ensures.0 c.bits.result.now p c.bits.ensures.1)
    ∙ ap (λ (n : ℕ). with_field QDir 0 n p) new

pub returns-then-dir-lt2-clause-spelt : goal.returns-then-dir-lt2-clause-spelt
unfolding width_of steers
returns-then-dir-lt2-clause-spelt c = λ version s.
    let fit : 1 - c.number-dir.result < 2 ^ 2 = omega arith in
    spelt_still version c.args.self.now _ QDir 0 (1 - c.number-dir.result) refl fit (c.put_field.ensures 0 (dir_stands c.bits.ensures.0 c.bits.result.now c.args.self.now c.bits.ensures.1)) s

pub returns-else-dir-lt2-clause-turned : goal.returns-else-dir-lt2-clause-turned
returns-else-dir-lt2-clause-turned c =
    let p = c.args.self.now in
    let dir : c.number-dir.result ≡ value QDir 0 p.fields = c.number-dir.ensures ∙ dir_value c.bits.ensures.0 c.bits.result.now p c.bits.ensures.1 in
    let same : exchanged 0 1 (value QDir 0 p.fields) ≡ value QDir 0 p.fields = ap (exchanged 0 1) (sym dir) ∙ exchanged_high c.number-dir.result c.if-dir-lt2.false ∙ dir in
    let stays : turned p ≡ p = ap (λ (n : ℕ). with_field QDir 0 n p) same ∙ with_field-same c.bits.ensures.0 c.bits.result.now p QDir 0 (value QDir 0 p.fields) c.bits.ensures.1 (dir_found c.bits.ensures.0 c.bits.result.now p c.bits.ensures.1) in
    sym stays
