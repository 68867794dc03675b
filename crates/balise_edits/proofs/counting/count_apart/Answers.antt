-- The numbers are counted up to the first that isn't far, by blocks and then one by one: so many entries are apart.
use Rattle.std.proofs.Common.{◌≡◌, ◌+◌, ◌-◌, ◌∙◌, ℕ, List, Bool, ap, arith, drop, length-drop, map, subst, sym, take, true}
use Rattle.std.specs.List.{list_all, prefix_len}
use Rattle.std.proofs.lemmas.List.{drop-drop}
use Rattle.std.proofs.lemmas.List.Sums.{prefix_len-drop_all, prefix_len-drop_no}
use Rattle.balise_rules.specs.Paths.{Entry}
use Rattle.balise_edits.specs.Homes.{is_far, number_at, AllApart}
use Rattle.balise_edits.proofs.Far.{counted-apart}
use Rattle.balise_edits.proofs.Passing.{block-passes}
use Rattle.balise_edits.proofs.counting.count_apart.Goals as goal
use Rattle.balise_edits.proofs.counting.count_apart.Goals.{After-limit-limit}

pub whole-preserved : goal.whole-preserved
whole-preserved c =
    let far : ℕ → Bool = is_far c.group-group.result c.limit-limit.result in
    let numbers : List ℕ = c.args.numbers.now in
    let count : ℕ = c.whole.count in
    let wide : (count + 64) - count ≡ 64 = omega arith in
    let all = subst (λ (n : ℕ). list_all far (take n (drop count numbers)) ≡ true) wide (sym c.is_far_block.ensures ∙ c.if-is_far_block.true) in
    let block = block-passes far 64 (drop count numbers) (omega (arith, c.whole-test.true, length-drop count numbers)) all in
    let next : prefix_len far (drop 64 (drop count numbers)) ≡ prefix_len far (drop (count + 64) numbers) = ap (prefix_len far) (drop-drop 64 count numbers) in
    (omega (arith, c.whole-test.true, c.whole.invariant.0), omega (arith, block, next, c.whole.invariant.1))

-- the entries of the numbers that are far are apart
far_apart : (c : After-limit-limit) (n : ℕ) → n ≡ prefix_len (is_far c.group-group.result c.limit-limit.result) c.args.numbers.now → (fs : List Entry) → c.args.numbers.now ≡ map number_at fs → AllApart c.args.entry.now (take n fs)
far_apart c n counted fs is =
    counted-apart c.args.entry.now n c.args.numbers.now fs (rw (c.group-group.ensures, c.limit-limit.ensures, c.home-home.ensures) at counted) is

pub returns-else-is_far-clause-apart : goal.returns-else-is_far-clause-apart
returns-else-is_far-clause-apart c =
    let none = prefix_len-drop_no (is_far c.group-group.result c.limit-limit.result) c.args.numbers.now c.numbers.count 0 c.numbers-test.true (sym c.is_far.ensures ∙ c.if-is_far.false) in
    far_apart (goal.at.returns-else-is_far-clause-apart c).After-limit-limit c.numbers.count (omega (arith, none, c.numbers.invariant.1))

pub returns-after-numbers-clause-apart : goal.returns-after-numbers-clause-apart
returns-after-numbers-clause-apart c =
    let none = prefix_len-drop_all (is_far c.group-group.result c.limit-limit.result) c.args.numbers.now c.numbers.count c.numbers-test.false in
    far_apart (goal.at.returns-after-numbers-clause-apart c).After-limit-limit c.numbers.count (omega (arith, none, c.numbers.invariant.1))
