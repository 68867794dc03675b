use Rattle.std.proofs.Common.{◌≡◌, ◌+◌, ◌-◌, ◌*◌, ◌/◌, ◌%◌, ◌^◌, ◌<◌, drop, length, take, get_or, ℕ, sym, ap, ◌∙◌, arith}
use Rattle.std.proofs.lemmas.List.{length-drop, length-set, length-take, take_all}
use Rattle.balise_rules.specs.Bits.{bits, num, part}
use Rattle.balise_bits.specs.Bytes.{flat}
use Rattle.balise_bits.proofs.Flat.{flat-nil, take-flat}
use Rattle.balise_bits.proofs.Windows.{shifted_more, words_more}
use Rattle.balise_bits.proofs.window.fill_shifted.Goals as goal

pub returns-then-shift-eq0 : goal.returns-then-shift-eq0
returns-then-shift-eq0 c =
    ap flat c.copy_from_slice.ensures.after ∙ sym (take-flat (length c.args.out.now) c.args.from.now (omega arith))
    ∙ ap (λ (k : ℕ). part k (8 * length c.args.out.now) (flat c.args.from.now)) (sym c.if-shift-eq0.true)

pub words-init : goal.words-init
words-init c = (flat-nil, omega arith)

pub words-preserved : goal.words-preserved
words-preserved c =
    let i = c.words.i in
    let below = c.words.invariant.1 in
    let mid : length (take (i + 8 - i) (drop i c.words.out)) ≡ 8 = omega (arith, length-take (i + 8 - i) (drop i c.words.out), length-drop i c.words.out) in
    let nine : i + 9 - i ≡ 9 = omega arith in (
      words_more c.words.out c.put_in.new.window c.args.from.now c.args.shift c.words.i (c.words.i + 8 - c.words.i) c.word_across.result c.requires.shift below (omega arith) (omega arith) (c.put_in.ensures ∙ ap (λ (k : ℕ). bits (8 * k) c.word_across.result) mid) (c.word_across.ensures.value ∙ ap (λ (k : ℕ). num (part c.args.shift 64 (flat (take k (drop i c.args.from.now))))) nine) c.words.invariant.0,
      omega arith,
    )

pub bytes-preserved : goal.bytes-preserved
bytes-preserved c =
    let a : get_or c.args.from.now c.bytes.i 0 < 256 = omega (arith, c.type_inv.from c.bytes.i) in
    let b : get_or c.args.from.now (c.bytes.i + 1) 0 < 256 = omega (arith, c.type_inv.from (c.bytes.i + 1)) in (
      shifted_more c.bytes.out c.args.from.now c.args.shift c.bytes.i c.from.result c.from-in-bytes.result (omega arith) (omega arith) (omega arith) c.from.ensures c.from-in-bytes.ensures (omega (arith, a, c.from.ensures)) (omega (arith, b, c.from-in-bytes.ensures)) c.bytes.invariant.0,
      omega (arith, length-set c.bytes.out c.bytes.i ((c.from.result * 256 + c.from-in-bytes.result) / 2 ^ (8 - c.args.shift) % 256)),
    )

pub returns : goal.returns
returns c =
    let below = c.bytes.invariant.1 in
    let done : c.bytes.i ≡ length c.args.out.now = omega (arith, below) in
    sym (ap flat (take_all c.bytes.i c.bytes.out (omega (arith, done)))) ∙ c.bytes.invariant.0 ∙ ap (λ (k : ℕ). part c.args.shift (8 * k) (flat c.args.from.now)) done
