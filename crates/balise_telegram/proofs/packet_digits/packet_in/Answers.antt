use Rattle.std.proofs.Common.{◌≡◌, ◌≢◌, ◌+◌, ◌-◌, true, nat_lt, length, take, drop, arith, sym, ap, ◌∙◌, Err}
use Rattle.std.proofs.lemmas.Bool.Decides.{nat_tests}
use Rattle.balise_bits.proofs.Spare.{all_zero-zero, all_zero-other, part_behind}
use Rattle.balise_layout.specs.Faults.{refusal_of}
use Rattle.balise_rules.specs.Bits.{num, part}
use Rattle.balise_rules.specs.Digits.{all_zero, fill}
use Rattle.balise_rules.specs.Packet.{is_cut, length_said}
use Rattle.balise_telegram.proofs.PacketDigits.{word_short, word_zero, word_end, word_cut, word_long, word_spare, word_read, word_fault, Begins, IsWhole, whole}
use Rattle.balise_telegram.proofs.packet_digits.packet_in.Goals as goal
use Rattle.balise_telegram.proofs.packet_digits.packet_in.Goals.{then-said-lt23-via-then-said-lt23, then-said-lt23-via-else-said-lt23+then-len-said, After-number, Else-len-said, Else-len-said-2, Else-number-eq0, Else-number-eq255, Else-number-ne0}

pub returns-then-len-lt8-clause-fault : goal.returns-then-len-lt8-clause-fault
returns-then-len-lt8-clause-fault c = λ _. word_short c.args.version c.args.digits.now (omega arith)

pub returns-then-number-eq0-clause-fault : goal.returns-then-number-eq0-clause-fault
returns-then-number-eq0-clause-fault c = λ _. word_zero c.args.version c.args.digits.now (omega arith) (sym c.number-number.ensures ∙ c.if-number-eq0.true)

begins : (c : Else-number-eq0) → Begins c.args.digits.now
begins c = record { long = omega arith; some = λ z. c.if-number-eq0.false (c.number-number.ensures ∙ z) }

no_end : (c : Else-number-eq255) → num (take 8 c.args.digits.now) ≢ 255
no_end c = λ z. c.if-number-eq255.false (c.number-number.ensures ∙ z)

is_whole : (c : Else-len-said) → IsWhole c.args.digits.now
is_whole c =
    let at = goal.at.Else-len-said c in
    whole c.args.digits.now (begins at.Else-number-eq0) (no_end at.Else-number-eq255) (omega arith) (omega arith) (omega arith)

fills : (c : Else-len-said-2) → length c.args.digits.now ≡ length_said c.args.digits.now + fill (length_said c.args.digits.now)
fills c = omega arith

-- the number that is tested is that of the bits after the packet
number_spare : (c : After-number) → num (drop (length_said c.args.digits.now) c.args.digits.now) ≡ c.number.result
number_spare c =
    let d = c.args.digits.now in
    let e = fills (goal.at.After-number c).Else-len-said-2 in
    let s : c.number-said.result ≡ length_said d = c.number-said.ensures in
    let n : c.len-len.result - c.number-said.result ≡ fill (length_said d) = omega arith in
    sym (c.number.ensures ∙ ap (λ k. num (part k (c.len-len.result - c.number-said.result) d)) s ∙ ap (λ k. num (part (length_said d) k d)) n ∙ ap num (part_behind (length_said d) d e))

zeros : (c : Else-number-ne0) → all_zero (drop (length_said c.args.digits.now) c.args.digits.now) ≡ true
zeros c = all_zero-zero (drop (length_said c.args.digits.now) c.args.digits.now) (number_spare (goal.at.Else-number-ne0 c).After-number ∙ c.if-number-ne0.false)

pub returns-then-number-eq255-clause-fault : goal.returns-then-number-eq255-clause-fault
returns-then-number-eq255-clause-fault c = λ _. word_end c.args.version c.args.digits.now (begins (goal.at.returns-then-number-eq255-clause-fault c).Else-number-eq0) (sym c.number-number.ensures ∙ c.if-number-eq255.true)

pub returns-then-len-lt23-clause-fault : goal.returns-then-len-lt23-clause-fault
returns-then-len-lt23-clause-fault c =
    let at = goal.at.returns-then-len-lt23-clause-fault c in
    let k : is_cut c.args.digits.now ≡ true = let t : nat_lt (length c.args.digits.now) 23 ≡ true = grind (arith, nat_tests) in simp t in
    λ _. word_cut c.args.version c.args.digits.now (begins at.Else-number-eq0) (no_end at.Else-number-eq255) k

pub returns-then-said-lt23-clause-fault : goal.returns-then-said-lt23-clause-fault
returns-then-said-lt23-clause-fault c =
    let at = goal.at.returns-then-said-lt23-clause-fault c in
    let k : is_cut c.args.digits.now ≡ true = elim c.then-said-lt23.branch [
      | then-said-lt23-via-then-said-lt23 w ↦ (let t : nat_lt (length_said c.args.digits.now) 23 ≡ true = grind (arith, nat_tests) in grind (arith, nat_tests))
      | then-said-lt23-via-else-said-lt23+then-len-said w ↦ (let t : nat_lt (length c.args.digits.now) (length_said c.args.digits.now) ≡ true = grind (arith, nat_tests) in grind (arith, nat_tests))
    ] in
    λ _. word_cut c.args.version c.args.digits.now (begins at.Else-number-eq0) (no_end at.Else-number-eq255) k

pub returns-then-len-said-2-clause-fault : goal.returns-then-len-said-2-clause-fault
returns-then-len-said-2-clause-fault c = λ _. word_long c.args.version c.args.digits.now (is_whole (goal.at.returns-then-len-said-2-clause-fault c).Else-len-said) (λ e. c.if-len-said-2.true (omega (arith, e)))

pub returns-then-number-ne0-clause-fault : goal.returns-then-number-ne0-clause-fault
returns-then-number-ne0-clause-fault c =
    let at = goal.at.returns-then-number-ne0-clause-fault c in
    let d = c.args.digits.now in
    λ _. word_spare c.args.version d (is_whole at.Else-len-said) (fills at.Else-len-said-2) (all_zero-other (drop (length_said d) d) (λ z. c.if-number-ne0.true (sym (number_spare at.After-number) ∙ z)))

pub returns-in-Ok-clause-ok : goal.returns-in-Ok-clause-ok
returns-in-Ok-clause-ok c =
    let at = goal.at.returns-in-Ok-clause-ok c in
    word_read c.args.version c.args.digits.now (is_whole at.Else-len-said) (fills at.Else-len-said-2) (zeros at.Else-number-ne0) c.in-Ok.packet (drop c.in-Ok.field-0-1 c.args.digits.now) c.in-Ok.ensures.first

pub returns-in-Err-clause-fault : goal.returns-in-Err-clause-fault
returns-in-Err-clause-fault c =
    let at = goal.at.returns-in-Err-clause-fault c in
    λ m. word_fault c.args.version c.args.digits.now (is_whole at.Else-len-said) (fills at.Else-len-said-2) (zeros at.Else-number-ne0) c.refusal.result
    (c.in-Err.ensures.first (λ o. m (c.refusal.ensures ∙ ap refusal_of o)) ∙ ap Err (sym c.refusal.ensures))
