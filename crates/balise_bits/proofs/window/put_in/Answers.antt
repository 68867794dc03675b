use Rattle.std.proofs.Common.{◌≡◌, ◌*◌, ◌^◌, ◌/◌, ◌%◌, length, ℕ, sym, ap, ◌∙◌, arith}
use Rattle.balise_rules.specs.Bits.{bits}
use Rattle.balise_bits.specs.Bytes.{flat}
use Rattle.balise_bits.proofs.Windows.{set_one, set_four, set_eight, flat-one, flat-four, flat-eight}
use Rattle.balise_bits.proofs.window.put_in.Goals as goal

pub returns-then-count-eq-WINDOW : goal.returns-then-count-eq-WINDOW
returns-then-count-eq-WINDOW c =
    let n = c.args.number in
    let eight : length c.args.window.now ≡ 8 = omega arith in
    ap flat (set_eight c.args.window.now (n / 2 ^ 56 % 256) (n / 2 ^ 48 % 256) (n / 2 ^ 40 % 256) (n / 2 ^ 32 % 256) (n / 2 ^ 24 % 256) (n / 2 ^ 16 % 256) (n / 2 ^ 8 % 256) (n % 256) eight)
    ∙ flat-eight n ∙ ap (λ (k : ℕ). bits (8 * k) n) (sym eight)

pub returns-then-count-eq4 : goal.returns-then-count-eq4
returns-then-count-eq4 c =
    let n = c.args.number in
    let four : length c.args.window.now ≡ 4 = omega arith in
    ap flat (set_four c.args.window.now (n / 2 ^ 24 % 256) (n / 2 ^ 16 % 256) (n / 2 ^ 8 % 256) (n % 256) four) ∙ flat-four n ∙ ap (λ (k : ℕ). bits (8 * k) n) (sym four)

pub returns-then-count-eq1 : goal.returns-then-count-eq1
returns-then-count-eq1 c =
    let n = c.args.number in
    let one : length c.args.window.now ≡ 1 = omega arith in
    ap flat (set_one c.args.window.now (n % 256) one) ∙ flat-one n ∙ ap (λ (k : ℕ). bits (8 * k) n) (sym one)
