-- Each later entry is tested: those that depend on the entry are noted, the others passed.
use Rattle.std.proofs.Common.{◌≡◌, ◌∙◌, ◌+◌, Some, length, slice_get, refl, sym}
use Rattle.std.proofs.lemmas.Bool.{ltb-false}
use Rattle.balise_history.specs.Dependents.{dependents}
use Rattle.balise_history.proofs.DependentsTo.{DependentsTo, passed, next-independent, next-dependent}
use Rattle.balise_history.proofs.FoundTo.{found-all, found-at}
use Rattle.balise_history.proofs.dependents.dependents_among.Goals as goal
use Rattle.balise_history.proofs.dependents.dependents_among.Goals.{After-count_apart-place, In-Some, Left-later, else-later-test, then-later-test+in_default}

-- all up to the next that its home's number doesn't tell
up_to : (c : After-count_apart-place) → DependentsTo c.args.entry.now c.args.later.now c.later.dependents.items (c.later.place + c.count_apart-place.result)
up_to c = passed c.args.entry.now c.args.homes.now c.count_apart-place.result c.later.invariant c.requires.homes c.count_apart-place.ensures.within c.count_apart-place.ensures.apart

-- that next one
next_there : (c : In-Some) → slice_get c.args.later.now (c.later.place + c.count_apart-place.result) ≡ Some c.in-Some.f.now
next_there c = found-at _ _ _ c.in-Some.ensures.lookup.0 c.in-Some.ensures.lookup.1

pub later-preserved : goal.later-preserved
later-preserved c =
    let at = goal.at.later-preserved c in
    rw (c.in_ok-push.ensures.items, c.serial.ensures) (next-dependent c.args.entry.now (up_to at.After-count_apart-place) (next_there at.In-Some) (sym c.independent.ensures ∙ c.if-independent.false))

pub later-preserved-then-independent : goal.later-preserved-then-independent
later-preserved-then-independent c =
    let at = goal.at.later-preserved-then-independent c in
    next-independent c.args.entry.now (up_to at.After-count_apart-place) (next_there at.In-Some) (sym c.independent.ensures ∙ c.if-independent.true)

-- where the loop ends all were tested
ended : (c : Left-later) → c.later.dependents.items ≡ dependents c.args.entry.now c.args.later.now
ended c =
    let later = c.args.later.now in
    elim c.later-test.branch [
      | else-later-test w ↦ found-all (dependents c.args.entry.now) later c.later.dependents.items c.later.place refl c.later.invariant w.later-test.false
      | then-later-test+in_default w ↦
          let place = c.later.place + w.count_apart-place.result in
          let all = passed c.args.entry.now c.args.homes.now w.count_apart-place.result c.later.invariant c.requires.homes w.count_apart-place.ensures.within w.count_apart-place.ensures.apart in
          found-all (dependents c.args.entry.now) later c.later.dependents.items place refl all (ltb-false place (length later) (sym w.in_default.ensures.lookup.0))
    ]

pub returns-clause-ok : goal.returns-clause-ok
returns-clause-ok c = ended (goal.at.returns-clause-ok c).Left-later
