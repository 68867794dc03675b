use Rattle.std.proofs.Common.{◌≡◌, ◌∙◌, ◌≤◌, ◌<◌, ◌+◌, ◌-◌, ◌^◌, ◌∷◌, ℕ, List, ◌++◌, decimal, drop, length, set, take, take_all, ap, arith}
use Rattle.std.proofs.lemmas.Fmt.{length-decimal-le}
use Rattle.std.proofs.lemmas.List.{append-nil, drop-set, drop_all}
use Rattle.balise_facts.proofs.tag_text.TagText.letter_and_number.Goals as goal

few_digits : (n : ℕ) → n < 2 ^ 64 → length (decimal n) ≤ 20
few_digits n h = length-decimal-le 20 n (omega arith) (omega (arith, h)) h

-- a letter put before the digits at the end
before_digits : (at n letter : ℕ) (old new : List ℕ) → length old ≤ 21 → length new ≡ 21 → 1 ≤ at →
    at + length (decimal n) ≡ 21 → drop at new ≡ decimal n ++ drop 21 old →
    take (21 - (at - 1)) (drop (at - 1) (set new (at - 1) letter)) ≡ letter ∷ decimal n
before_digits at n letter old new o l one room w =
    let digits : drop at new ≡ decimal n = w ∙ ap (λ (t : List ℕ). decimal n ++ t) (drop_all 21 old o)
    ∙ append-nil (decimal n) in
    let next : at - 1 + 1 ≡ at = omega (arith, one) in
    let all : drop (at - 1) (set new (at - 1) letter) ≡ letter ∷ decimal n
    = drop-set new (at - 1) letter (omega (arith, one, l, room)) ∙ ap (λ (k : ℕ). letter ∷ drop k new) next
    ∙ ap (λ (t : List ℕ). letter ∷ t) digits in
    ap (take (21 - (at - 1))) all ∙ take_all (21 - (at - 1)) (letter ∷ decimal n) (omega (arith, one, room))

pub write_digits-digits-requires : goal.write_digits-digits-requires
write_digits-digits-requires c = let few = few_digits c.from.result
    (omega (arith, c.ranges.number.fits, c.from.ensures)) in (omega (arith, few), omega arith)

pub overflow_sub-start : goal.overflow_sub-start
overflow_sub-start c = let few = few_digits c.from.result (omega (arith, c.ranges.number.fits, c.from.ensures)) in omega
    (arith, few, c.write_digits-digits.ensures.start)

pub returns : goal.returns
returns c =
    let few = few_digits c.from.result (omega (arith, c.ranges.number.fits, c.from.ensures)) in
    before_digits c.write_digits-digits.result c.from.result c.args.letter c.args.self.now.bytes
    c.write_digits-digits.new.buf (omega arith) (omega (arith, c.write_digits-digits.auto.buf))
    (omega (arith, few, c.write_digits-digits.ensures.start)) c.write_digits-digits.ensures.start
    c.write_digits-digits.ensures.written
    ∙ ap (λ (k : ℕ). c.args.letter ∷ decimal k) c.from.ensures
