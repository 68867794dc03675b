-- The edit of a serial is looked for among those that stand.
use Rattle.std.proofs.Common.{◌≡◌, ◌≢◌, ◌∙◌, ℕ, Bool, List, eqb, true, false, find, Option, sym, ap, arith, eq-eqb}
use Rattle.std.proofs.lemmas.Bool.Decides.{nat_tests}
use Rattle.std.proofs.lemmas.List.{drop_all}
use Rattle.balise_rules.specs.Paths.{Entry}
use Rattle.balise_rules.specs.Session.{entries}
use Rattle.balise_facts.specs.FactTexts.{edit_if, one_text}
use Rattle.balise_facts.proofs.Sequences.{found_there, found_later, nothing_due}
use Rattle.balise_facts.proofs.edits.put_one.Goals as goal

abbrev has : ℕ → Entry → Bool
has n e = eqb n e.0.0

this_one : (n s : ℕ) (e : Entry) → s ≡ n → s ≡ e.0.0 → has n e ≡ true
this_one n s e same is = eq-eqb n e.0.0 (sym same ∙ is)

another : (n s : ℕ) (e : Entry) → (s ≡ n → ⊥) → s ≡ e.0.0 → has n e ≡ false
another n s e differs is = let k : ℕ = e.0.0 in let i : s ≡ k = is in let d : s ≢ n = differs in grind
    (arith, nat_tests)

-- by what is found among the standing entries
told_of : (n : ℕ) (standing es : List Entry) (found : Option Entry) → standing ≡ es → find (has n) standing ≡ found →
    one_text n es ≡ edit_if es found
told_of n standing es found s f = ap (λ (xs : List Entry). edit_if es (find (has n) xs)) (sym s) ∙ ap (edit_if es) f

pub loop-entry-preserved : goal.loop-entry-preserved
loop-entry-preserved g c =
    let n = c.args.serial in
    let there = another n c.serial.result c.entry-item.result c.if-serial.false c.serial.ensures in
    record {
      untouched = c.loop-entry.invariant.untouched;
      left = c.loop-entry.invariant.left ∙ found_later (has n) c.standing-standing.result.now c.loop-entry.entry-index
          c.entry-item.result c.loop-entry-test.true c.entry-item.is there;
    }

pub returns-then-serial : goal.returns-then-serial
returns-then-serial g c =
    let n = c.args.serial in
    let s = c.args.session.now.state in
    let there = this_one n c.serial.result c.entry-item.result c.if-serial.true c.serial.ensures in
    let found = c.loop-entry.invariant.left ∙ found_there (has n) c.standing-standing.result.now
    c.loop-entry.entry-index c.entry-item.result c.loop-entry-test.true c.entry-item.is there in
    rw (told_of n _ (entries s.base s.standing) _ c.standing-standing.ensures found, ← c.loop-entry.invariant.untouched)
    c.put_edit.ensures

pub returns : goal.returns
returns g c =
    let n = c.args.serial in
    let s = c.args.session.now.state in
    let found = c.loop-entry.invariant.left ∙ ap (find (has n))
    (drop_all c.loop-entry.entry-index c.standing-standing.result.now c.loop-entry-test.false) in
    rw (told_of n _ (entries s.base s.standing) _ c.standing-standing.ensures found, ← c.loop-entry.invariant.untouched)
    (nothing_due _ _)
