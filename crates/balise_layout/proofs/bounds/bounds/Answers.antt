-- Each test is one of the definition's, in its order.
use Rattle.std.proofs.Common.{arith, ◌≡◌, ◌-◌, ◌+◌, ◌/◌, ◌%◌, ◌≤◌, ℕ, List, Bool, take, drop, length, sym, ap, ◌∙◌}
use Rattle.std.proofs.lemmas.List.{length-drop, drop-drop}
use Rattle.std.proofs.lemmas.Bool.{ne_eqb}
use Rattle.balise_rules.specs.Bits.{num, part}
use Rattle.balise_rules.specs.Packet.{length_said}
use Rattle.balise_layout.proofs.Lent.{head_parts}
use Rattle.balise_layout.proofs.Refused.{refuse_zero, refuse_end, refuse_small, refuse_long}
use Rattle.balise_layout.proofs.bounds.bounds.Goals as goal
use Rattle.balise_layout.proofs.bounds.bounds.Goals.{then-size-lt23-via-then-size-lt23, then-size-lt23-via-else-size-lt23+then-left-size}

-- number and length, as the definition finds them
record Headed (b : List Bool) (at h : ℕ) : Type 0 where
  long : 23 ≤ length (drop at b)
  number : num (part at 8 b) ≡ h / 32768
  said : length_said (drop at b) ≡ h % 8192

headed : (b : List Bool) (at h : ℕ) → 23 ≤ length b - at → h ≡ num (part at 23 b) → Headed b at h
headed b at h few e =
    let s = head_parts b at h (omega (arith, few)) e in
    let place : drop 10 (drop at b) ≡ drop (at + 10) b = drop-drop 10 at b in
    record {
      long = omega (arith, length-drop at b, few);
      number = sym s.0;
      said = ap (λ (x : List Bool). num (take 13 x)) place ∙ sym s.1;
    }

pub returns-then-number-eq0 : goal.returns-then-number-eq0
returns-then-number-eq0 c =
    let h = headed c.args.bits.now c.args.at c.number-head.result (omega (arith, c.len.ensures, c.saturating_sub-left.ensures, c.if-left-lt23.false)) c.number-head.ensures in
    (λ e. cc, λ version. refuse_zero version (drop c.args.at c.args.bits.now) (omega (arith, h.long)) (h.number ∙ c.if-number-eq0.true))

pub returns-then-number-eq255 : goal.returns-then-number-eq255
returns-then-number-eq255 c =
    let h = headed c.args.bits.now c.args.at c.number-head.result (omega (arith, c.len.ensures, c.saturating_sub-left.ensures, c.if-left-lt23.false)) c.number-head.ensures in
    (λ e. cc, λ version. refuse_end version (drop c.args.at c.args.bits.now) (omega (arith, h.long)) (h.number ∙ c.if-number-eq255.true))

pub returns-then-size-lt23 : goal.returns-then-size-lt23
returns-then-size-lt23 c = (
  λ e. cc,
  λ version.
      let b = drop c.args.at c.args.bits.now in
      let h = headed c.args.bits.now c.args.at c.number-head.result (omega (arith, c.len.ensures, c.saturating_sub-left.ensures, c.if-left-lt23.false)) c.number-head.ensures in
      let long : 8 ≤ length b = omega (arith, h.long) in
      elim c.then-size-lt23.branch [
        | then-size-lt23-via-then-size-lt23 w ↦ refuse_small version b long (λ e. c.if-number-eq0.false (sym h.number ∙ e)) (λ e. c.if-number-eq255.false (sym h.number ∙ e)) (omega (arith, h.said, w.if-size-lt23.true))
        | then-size-lt23-via-else-size-lt23+then-left-size w ↦ refuse_long version b long (λ e. c.if-number-eq0.false (sym h.number ∙ e)) (λ e. c.if-number-eq255.false (sym h.number ∙ e)) (omega (arith, h.said, w.if-left-size.true, length-drop c.args.at c.args.bits.now, c.len.ensures, c.saturating_sub-left.ensures))
      ],
)

pub returns : goal.returns
returns c =
    let size = c.number-head.result % 8192 in
    let h = headed c.args.bits.now c.args.at c.number-head.result (omega (arith, c.len.ensures, c.saturating_sub-left.ensures, c.if-left-lt23.false)) c.number-head.ensures in
    let far : (c.args.at + size) - c.args.at ≡ size = omega arith in
    let within : size ≤ length (drop c.args.at c.args.bits.now) = omega (arith, length-drop c.args.at c.args.bits.now, c.len.ensures, c.saturating_sub-left.ensures, c.if-left-size.false) in (
      omega arith,
      omega (arith, length-drop c.args.at c.args.bits.now, c.len.ensures, c.saturating_sub-left.ensures, c.if-left-size.false, c.if-left-lt23.false),
      rw far (record {
        has_number = h.number;
        not_zero = ne_eqb _ _ c.if-number-eq0.false;
        not_end = ne_eqb _ _ c.if-number-eq255.false;
        has_size = h.said;
        least = c.if-size-lt23.false;
        within = within;
      }),
    )
