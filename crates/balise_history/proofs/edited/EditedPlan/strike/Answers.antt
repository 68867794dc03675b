-- A strike is answered as the rules answer it: the entry is taken out, or none has the serial, or a later one depends on it, or memory is wanting.
use Rattle.std.proofs.Common.{true, false, ◌≡◌, ◌≤◌, ◌+◌, ◌-◌, ◌∙◌, ⊎_elim, ℕ, suc, List, Some, None, length, map, take, drop, slice_get, refl, sym, ap, subst, arith, add-one, inl, inr}
use Rattle.std.proofs.lemmas.List.{drop-map, take_rest}
use Rattle.std.proofs.lemmas.Option.{slice_get-get_or, slice_get_within}
use Rattle.std.proofs.lemmas.Result.{err_from_is_err_and}
use Rattle.balise_rules.specs.declared.refusal.Refusal.TheVariants.{DependsOn, NoSuchEdit, OutOfMemory}
use Rattle.balise_rules.specs.Paths.{Entry}
use Rattle.balise_rules.specs.Behind.{serials_behind}
use Rattle.balise_rules.specs.Session.{entries, first_dependent, later, needs_no_memory, Strike, Struck}
use Rattle.balise_edit_laws.specs.Along.{back_along}
use Rattle.balise_history.specs.Held.{Edited, Accepts, Refuses}
use Rattle.balise_history.specs.Lists.{place_of, items_of, Ascends}
use Rattle.balise_history.specs.Tests.{MayRunOut, RunsOutAmong, StrikeMayRunOut}
use Rattle.balise_edits.specs.Homes.{number_at}
use Rattle.balise_history.proofs.Entries.{none-there, behind-ascends, rising-drop}
use Rattle.balise_history.proofs.Few.{few-held}
use Rattle.balise_history.proofs.Taking.{rising-standing, there}
use Rattle.balise_history.proofs.Answering.{back-without, view, HeldIn, is-last, took-out, strike-accepts, strike-missing, strike-dependent, strike-wants, strike-may-run-out, out-of-memory}
use Rattle.balise_rules.proofs.Cases.{unsome}
use Rattle.balise_history.proofs.edited.EditedPlan.strike.Goals as goal
use Rattle.balise_history.proofs.edited.EditedPlan.strike.Goals.{After-place_of-place, After-serial, Else-serial, In_ok-behind, In_ok-take_out}

pub place_of-place-requires : goal.place_of-place-requires
place_of-place-requires c = rw c.standing-standing.ensures (rising-standing c.self.inside.plan.groups c.self.inside.history.standing c.self.inside.history.stack c.self.inside.next c.self.invariant)

-- the place of the serial is that among the entries that stand
placed : (c : After-place_of-place) → c.place_of-place.result ≡ place_of c.args.serial c.self.inside.history.standing
placed c = c.place_of-place.ensures.place ∙ ap (place_of c.args.serial) c.standing-standing.ensures

-- the entry at that place
stands_there : (c : After-serial) → slice_get c.self.inside.history.standing c.place_of-place.result ≡ Some c.index-standing-place.result
stands_there c =
    ap (λ (es : List Entry). slice_get es c.place_of-place.result) (sym c.standing-standing.ensures)
    ∙ slice_get-get_or c.standing-standing.result.now c.place_of-place.result c.index-standing-place.result c.if-place-standing.false ∙ ap Some (sym c.index-standing-place.is)

-- has the serial
has_serial : (c : Else-serial) → c.index-standing-place.result.0.0 ≡ c.args.serial
has_serial c = sym c.serial.ensures ∙ c.if-serial.false

-- the entries that stand after it
abbrev later_ones : Else-serial → List Entry
later_ones c = drop (suc c.place_of-place.result) c.self.inside.history.standing

-- they are what the code looks through
later_are : (c : Else-serial) → take (length c.standing-standing.result.now - (c.place_of-place.result + 1)) (drop (c.place_of-place.result + 1) c.standing-standing.result.now) ≡ later_ones c
later_are c =
    let standing : List Entry = c.standing-standing.result.now in
    let place : ℕ = c.place_of-place.result in
    take_rest standing (place + 1) ∙ ap (λ (from : ℕ). drop from standing) (add-one place) ∙ ap (drop (suc place)) c.standing-standing.ensures

-- none of them depends on it
independent : (c : In_ok-behind) → first_dependent c.index-standing-place.result (later_ones (goal.at.In_ok-behind c).Else-serial) ≡ None
independent c = ap (first_dependent c.index-standing-place.result) (sym (later_are (goal.at.In_ok-behind c).Else-serial)) ∙ c.in_ok-behind.ensures.independent

-- those of them that are anchored on what it puts in
behind_are : (c : In_ok-behind) → c.in_ok-behind.behind.items ≡ serials_behind c.index-standing-place.result (later_ones (goal.at.In_ok-behind c).Else-serial)
behind_are c = c.in_ok-behind.ensures.ok ∙ ap (serials_behind c.index-standing-place.result) (later_are (goal.at.In_ok-behind c).Else-serial)

-- without it the session holds what it ought to
is_held : (c : In_ok-take_out) → HeldIn c.take_out.new.plan c.take_out.new.self c.self.inside.next
is_held c =
    let at = goal.at.In_ok-take_out c in
    (took-out c.in_ok-take_out.field-0 c.self.inside.plan c.self.inside.history c.self.inside.next c.place_of-place.result c.index-standing-place.result c.in_ok-behind.behind.items c.take_out.new.plan c.take_out.new.self c.self.invariant
    (stands_there at.After-serial) (independent at.In_ok-behind) (behind_are at.In_ok-behind) c.in_ok-take_out.ensures.takes).held

pub returns-then-place-standing-clause-answers : goal.returns-then-place-standing-clause-answers
returns-then-place-standing-clause-answers c =
    let history = c.self.inside.history in
    let serial = c.args.serial in
    let rising = rising-standing c.self.inside.plan.groups history.standing history.stack c.self.inside.next c.self.invariant in
    let place = placed (goal.at.returns-then-place-standing-clause-answers c).After-place_of-place in
    let beyond : length history.standing ≤ place_of serial history.standing = omega (arith, place, ap (λ (es : List Entry). length es) c.standing-standing.ensures) in
    let none = none-there serial history.standing rising (λ e there same. let within = slice_get_within history.standing (place_of serial history.standing) e there in omega arith) in
    subst (λ (e : Edited). Refuses (Strike serial) e NoSuchEdit e) c.self.view_is (strike-missing c.self.inside.plan history c.self.inside.next serial c.self.invariant none)

pub returns-then-serial-clause-answers : goal.returns-then-serial-clause-answers
returns-then-serial-clause-answers c =
    let at = goal.at.returns-then-serial-clause-answers c in
    let history = c.self.inside.history in
    let serial = c.args.serial in
    let stands : slice_get history.standing (place_of serial history.standing) ≡ Some c.index-standing-place.result = ap (slice_get history.standing) (sym (placed at.After-place_of-place)) ∙ stands_there at.After-serial in
    let rising = rising-standing c.self.inside.plan.groups history.standing history.stack c.self.inside.next c.self.invariant in
    let none = none-there serial history.standing rising (λ e there same. c.if-serial.true (c.serial.ensures ∙ ap (λ (x : Entry). x.0.0) (unsome (sym stands ∙ there)) ∙ same)) in
    subst (λ (e : Edited). Refuses (Strike serial) e NoSuchEdit e) c.self.view_is (strike-missing c.self.inside.plan history c.self.inside.next serial c.self.invariant none)

pub returns-in_err-behind-clause-answers : goal.returns-in_err-behind-clause-answers
returns-in_err-behind-clause-answers c =
    let at = goal.at.returns-in_err-behind-clause-answers c in
    let p = c.self.inside.plan in
    let h = c.self.inside.history in
    let s = c.args.serial in
    let e : Entry = c.index-standing-place.result in
    let r = c.in_err-behind.field-0.0 in
    let g = stands_there at.After-serial in
    let q = has_serial at.Else-serial in
    let w : Refuses (Strike s) (view p h c.self.inside.next) r (view p h c.self.inside.next) =
    ⊎_elim (λ m. strike-wants p h c.self.inside.next c.place_of-place.result s e p h r c.self.invariant g q (λ w. absurd (c.in_err-behind.ensures.always w m.0)) (m.0, refl, refl))
    (λ d. strike-dependent p h c.self.inside.next c.place_of-place.result s e r d.0 c.self.invariant g q (ap (first_dependent e) (sym (later_are at.Else-serial)) ∙ d.1) d.2)
    c.in_err-behind.ensures.fault in
    let z = err_from_is_err_and c.from_residual.result c.from_residual.ensures.1 in
    rw (z.1, z.2) (subst (λ (x : Edited). Refuses (Strike s) x r x) c.self.view_is w)

pub take_out-requires-clause-last : goal.take_out-requires-clause-last
take_out-requires-clause-last c = λ entry there.
    let at = goal.at.take_out-requires-clause-last c in
    is-last c.self.inside.plan c.self.inside.history c.self.inside.next c.place_of-place.result c.index-standing-place.result entry c.self.invariant (stands_there at.After-serial) (independent at.In_ok-behind) there

pub take_out-requires-clause-rising : goal.take_out-requires-clause-rising
take_out-requires-clause-rising c =
    let history = c.self.inside.history in
    let after : ℕ = suc c.place_of-place.result in
    let rising = rising-standing c.self.inside.plan.groups history.standing history.stack c.self.inside.next c.self.invariant in
    subst Ascends (sym (behind_are (goal.at.take_out-requires-clause-rising c).In_ok-behind)) (behind-ascends c.index-standing-place.result (drop after history.standing) (rising-drop after history.standing rising))

pub invariant_of-self-2 : goal.invariant_of-self-2
invariant_of-self-2 c = is_held (goal.at.invariant_of-self-2 c).In_ok-take_out

pub returns-clause-answers : goal.returns-clause-answers
returns-clause-answers c =
    let at = goal.at.returns-clause-answers c in
    let serial = c.args.serial in
    let answer = strike-accepts c.in_ok-take_out.field-0 c.self.inside.plan c.self.inside.history c.self.inside.next c.place_of-place.result serial c.index-standing-place.result c.in_ok-behind.behind.items c.take_out.new.plan c.take_out.new.self c.self.invariant
    (stands_there at.After-serial) (has_serial at.Else-serial) (independent at.In_ok-behind) (behind_are at.In_ok-behind) c.in_ok-take_out.ensures.takes in
    subst (λ (x : Edited). Accepts (Strike serial) x (Struck serial) (view c.take_out.new.plan c.take_out.new.self c.self.inside.next)) c.self.view_is answer

pub returns-clause-compared : goal.returns-clause-compared
returns-clause-compared c =
    let at = goal.at.returns-clause-compared c in
    let plan = c.self.inside.plan in
    let history = c.self.inside.history in
    let stands = there (back_along history.standing plan.groups) plan.groups history.standing history.stack c.self.inside.next c.place_of-place.result c.index-standing-place.result c.self.invariant (stands_there at.After-serial) in
    ap (λ (es : List Entry). length es) (later_are at.Else-serial ∙ sym stands.later_are)
    ∙ ap (λ (serial : ℕ). length (later serial (entries (back_along history.standing plan.groups) (items_of history.standing)))) (has_serial at.Else-serial)
    ∙ ap (λ (x : Edited). length (later c.args.serial (entries x.base x.standing))) c.self.view_is

pub returns-clause-few : goal.returns-clause-few
returns-clause-few c =
    few-held c.take_out.new.plan.groups c.take_out.new.self.standing c.take_out.new.self.stack c.self.inside.next (is_held (goal.at.returns-clause-few c).In_ok-take_out)

pub returns-in_err-take_out-clause-answers : goal.returns-in_err-take_out-clause-answers
returns-in_err-take_out-clause-answers c =
    let at = goal.at.returns-in_err-take_out-clause-answers c in
    let s = c.args.serial in
    let e : Entry = c.index-standing-place.result in
    let r = c.in_err-take_out.field-0.0 in
    let g = stands_there at.After-serial in
    let w = strike-wants c.self.inside.plan c.self.inside.history c.self.inside.next c.place_of-place.result s e c.take_out.new.plan c.take_out.new.self r c.self.invariant g (has_serial at.Else-serial) (λ t. c.in_err-take_out.ensures.always e g (back-without e.0 t)) c.in_err-take_out.ensures.takes in
    let z = err_from_is_err_and c.from_residual-in_err-take_out.result c.from_residual-in_err-take_out.ensures.1 in
    rw (z.1, z.2) (subst (λ (x : Edited). Refuses (Strike s) x r (view c.take_out.new.plan c.take_out.new.self c.self.inside.next)) c.self.view_is w)

-- what may run out of memory after an entry, said of what is seen
may_run_out : (c : Else-serial) → (needs_no_memory (Some c.index-standing-place.result.0) ≡ true → false ≡ true) → MayRunOut c.index-standing-place.result (later_ones c) → StrikeMayRunOut c.args.serial c.args.self.now.base c.args.self.now.standing
may_run_out c takes m =
    let w = strike-may-run-out c.self.inside.plan c.self.inside.history c.self.inside.next c.place_of-place.result c.args.serial c.index-standing-place.result c.self.invariant (stands_there (goal.at.Else-serial c).After-serial) (has_serial c) takes m in
    subst (λ (x : Edited). StrikeMayRunOut c.args.serial x.base x.standing) c.self.view_is w

pub returns-in_err-behind-clause-memory : goal.returns-in_err-behind-clause-memory
returns-in_err-behind-clause-memory c = λ k.
    let b = (goal.at.returns-in_err-behind-clause-memory c).Else-serial in
    let p = err_from_is_err_and c.from_residual.result c.from_residual.ensures.1 in
    let o : c.in_err-behind.field-0.0 ≡ OutOfMemory = sym p.2 ∙ out-of-memory p.0 (sym p.1 ∙ k) in
    may_run_out b (λ w. absurd (c.in_err-behind.ensures.always w o)) (⊎_elim
    (λ w. inl (subst (RunsOutAmong c.index-standing-place.result) (later_are b) w.1))
    (λ d. let z : DependsOn d.0 ≡ OutOfMemory = sym d.2 ∙ o in absurd cc)
    c.in_err-behind.ensures.fault)

pub returns-in_err-take_out-clause-memory : goal.returns-in_err-take_out-clause-memory
returns-in_err-take_out-clause-memory c = λ k.
    let at = goal.at.returns-in_err-take_out-clause-memory c in
    may_run_out at.Else-serial (λ t. c.in_err-take_out.ensures.always c.index-standing-place.result (stands_there at.After-serial) (back-without c.index-standing-place.result.0 t)) (inr (independent at.In_ok-behind))

pub serials_behind-requires : goal.serials_behind-requires
serials_behind-requires c =
    let standing : List Entry = c.standing-standing.result.now in
    let homes : List ℕ = c.homes.result.now in
    let after : ℕ = c.place_of-place.result + 1 in
    record {
      homes = take_rest homes after ∙ ap (drop after) c.homes.ensures ∙ ap (λ (es : List Entry). drop after (map number_at es)) (sym c.standing-standing.ensures) ∙ drop-map number_at after standing ∙ ap (map number_at) (sym (take_rest standing after));
    }
