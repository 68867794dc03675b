-- Each later entry is tested as the rules test it: one that is apart is passed, one behind the entry is noted, and the first that depends on it is answered.
use Rattle.std.proofs.Common.{◌≡◌, ◌∙◌, ◌+◌, None, Some, length, slice_get, inl, inr, refl, sym, ap}
use Rattle.std.proofs.lemmas.Bool.{ltb-false}
use Rattle.std.proofs.lemmas.Result.{err_from_is_err_and}
use Rattle.balise_rules.specs.Behind.{serials_behind}
use Rattle.balise_rules.specs.Session.{first_dependent}
use Rattle.balise_history.proofs.FoundTo.{found-at}
use Rattle.balise_history.proofs.TestedTo.{TestedTo, counted, first-dependent, next-apart, next-behind, runs-out, tested-all}
use Rattle.balise_history.proofs.dependents.serials_behind.Goals as goal
use Rattle.balise_history.proofs.dependents.serials_behind.Goals.{After-count_apart-place, In-Some, Left-later, else-later-test, then-later-test+in_default}

-- all up to the next that its home's number doesn't tell
up_to : (c : After-count_apart-place) → TestedTo c.args.entry.now c.args.later.now c.later.behind.items (c.later.place + c.count_apart-place.result)
up_to c = counted c.args.homes.now c.count_apart-place.result c.later.invariant c.requires.homes c.count_apart-place.ensures.within c.count_apart-place.ensures.apart

-- that next one
next_there : (c : In-Some) → slice_get c.args.later.now (c.later.place + c.count_apart-place.result) ≡ Some c.in-Some.f.now
next_there c = found-at _ _ _ c.in-Some.ensures.lookup.0 c.in-Some.ensures.lookup.1

pub later-preserved-then-apart : goal.later-preserved-then-apart
later-preserved-then-apart c =
    let at = goal.at.later-preserved-then-apart c in
    next-apart (up_to at.After-count_apart-place) (next_there at.In-Some) (sym c.apart.ensures ∙ c.if-apart.true)

pub returns-then-not-stands_behind-clause-fault : goal.returns-then-not-stands_behind-clause-fault
returns-then-not-stands_behind-clause-fault c =
    let at = goal.at.returns-then-not-stands_behind-clause-fault c in
    let first = first-dependent (up_to at.After-count_apart-place) (next_there at.In-Some) (sym c.apart.ensures ∙ c.if-apart.false) (sym c.stands_behind.ensures ∙ c.if-not-stands_behind.true) in
    inr (c.serial.result, first ∙ ap Some (sym c.serial.ensures), refl)

pub returns-in_err-push-clause-fault : goal.returns-in_err-push-clause-fault
returns-in_err-push-clause-fault c =
    let at = goal.at.returns-in_err-push-clause-fault c in
    let out = runs-out (up_to at.After-count_apart-place) (next_there at.In-Some) (sym c.apart.ensures ∙ c.if-apart.false) (sym c.stands_behind.ensures ∙ c.if-not-stands_behind.false) in
    let answered = err_from_is_err_and c.from_residual.result c.from_residual.ensures.1 in
    rw (answered.1, answered.2) (inl (refl, out))

pub later-preserved : goal.later-preserved
later-preserved c =
    let at = goal.at.later-preserved c in
    rw (c.in_ok-push.ensures.items, c.serial-in-later.ensures) (next-behind (up_to at.After-count_apart-place) (next_there at.In-Some) (sym c.apart.ensures ∙ c.if-apart.false) (sym c.stands_behind.ensures ∙ c.if-not-stands_behind.false))

-- where the loop ends all were tested
ended : (c : Left-later) → (first_dependent c.args.entry.now c.args.later.now ≡ None) × (c.later.behind.items ≡ serials_behind c.args.entry.now c.args.later.now)
ended c =
    elim c.later-test.branch [
      | else-later-test w ↦ tested-all c.later.invariant w.later-test.false
      | then-later-test+in_default w ↦
          tested-all (counted c.args.homes.now w.count_apart-place.result c.later.invariant c.requires.homes w.count_apart-place.ensures.within w.count_apart-place.ensures.apart)
          (ltb-false (c.later.place + w.count_apart-place.result) (length c.args.later.now) (sym w.in_default.ensures.lookup.0))
    ]

pub returns-clause-independent : goal.returns-clause-independent
returns-clause-independent c = (ended (goal.at.returns-clause-independent c).Left-later).0

pub returns-clause-ok : goal.returns-clause-ok
returns-clause-ok c = (ended (goal.at.returns-clause-ok c).Left-later).1
