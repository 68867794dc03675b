-- The entries that depend on the one of a serial are those that dependents_among finds after it; where none has the serial, that is the fault.
use Rattle.std.proofs.Common.{◌≡◌, ◌≤◌, ◌+◌, ◌-◌, ◌∙◌, ℕ, suc, List, Some, Ok, length, take, drop, slice_get, sym, ap, arith, add-one}
use Rattle.std.proofs.lemmas.List.{drop-map, take_rest}
use Rattle.std.proofs.lemmas.Option.{slice_get-get_or, slice_get_within}
use Rattle.std.proofs.lemmas.Result.{IfOk-weaker}
use Rattle.balise_rules.specs.Paths.{Entry}
use Rattle.balise_rules.proofs.Cases.{unsome}
use Rattle.balise_edits.specs.Homes.{number_at}
use Rattle.balise_history.specs.Dependents.{dependents, dependents_of}
use Rattle.balise_history.specs.Lists.{place_of}
use Rattle.balise_history.proofs.DependentsTo.{asked, none-asked}
use Rattle.balise_history.proofs.Entries.{none-there}
use Rattle.balise_history.proofs.dependents.dependents_of.Goals as goal
use Rattle.balise_history.proofs.dependents.dependents_of.Goals.{After-serial, Else-serial}

-- the entry at that place
stands_there : (c : After-serial) → slice_get c.args.standing.now c.place_of-place.result ≡ Some c.index-standing-place.result
stands_there c = slice_get-get_or c.args.standing.now c.place_of-place.result c.index-standing-place.result c.if-place-standing.false ∙ ap Some (sym c.index-standing-place.is)

pub returns-then-place-standing-clause-fault : goal.returns-then-place-standing-clause-fault
returns-then-place-standing-clause-fault c = λ other.
    let standing : List Entry = c.args.standing.now in
    let beyond : length standing ≤ place_of c.args.serial standing = omega (arith, c.place_of-place.ensures.place) in
    none-asked c.args.serial standing (none-there c.args.serial standing c.requires.rising (λ e there same. let within = slice_get_within standing (place_of c.args.serial standing) e there in omega arith))

pub returns-then-serial-clause-fault : goal.returns-then-serial-clause-fault
returns-then-serial-clause-fault c = λ other.
    let standing : List Entry = c.args.standing.now in
    let stands = rw c.place_of-place.ensures.place at (stands_there (goal.at.returns-then-serial-clause-fault c).After-serial) in
    none-asked c.args.serial standing (none-there c.args.serial standing c.requires.rising (λ e there same. c.if-serial.true (c.serial.ensures ∙ ap (λ (x : Entry). x.0.0) (unsome (sym stands ∙ there)) ∙ same)))

pub dependents_among-requires : goal.dependents_among-requires
dependents_among-requires c =
    let after : ℕ = c.place_of-place.result + 1 in
    record { homes = rw (take_rest c.args.homes.now after, take_rest c.args.standing.now after, c.requires.homes) (drop-map number_at after c.args.standing.now) }

-- the entries after the one that is asked for
later_are : (c : Else-serial) → take (length c.args.standing.now - (c.place_of-place.result + 1)) (drop (c.place_of-place.result + 1) c.args.standing.now) ≡ drop (suc c.place_of-place.result) c.args.standing.now
later_are c =
    let place : ℕ = c.place_of-place.result in
    rw (← add-one place) (take_rest c.args.standing.now (place + 1))

pub returns-clause-ok : goal.returns-clause-ok
returns-clause-ok c =
    let at = goal.at.returns-clause-ok c in
    let standing : List Entry = c.args.standing.now in
    let entry : Entry = c.index-standing-place.result in
    let place : ℕ = c.place_of-place.result in
    let answer = asked c.args.serial place standing entry c.requires.rising (stands_there at.After-serial) (sym c.serial.ensures ∙ c.if-serial.false) in
    IfOk-weaker c.dependents_among.result (λ v. v.items ≡ dependents entry (take (length standing - (place + 1)) (drop (place + 1) standing))) (λ v. dependents_of c.args.serial standing ≡ Ok v.items)
    (λ v found. answer ∙ ap Ok (ap (dependents entry) (sym (later_are at.Else-serial)) ∙ sym found)) c.dependents_among.ensures.ok
