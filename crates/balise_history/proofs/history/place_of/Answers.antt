-- The place where a search of the rising serials ends is how many are lower.
use Rattle.std.proofs.Common.{◌≡◌, ◌∙◌, ◌-◌, Ok, Err, Some, length, get_or, sym, ap, rules, arith}
use Rattle.std.proofs.lemmas.List.Sorted.{answers_always}
use Rattle.std.proofs.lemmas.Option.{get_or_from_slice_get, slice_get-get_or}
use Rattle.balise_rules.specs.Paths.{Entry}
use Rattle.balise_history.proofs.Halving.{searched-by, entries-rise, place-parts, place-found, place-last}
use Rattle.balise_history.proofs.history.place_of.Goals as goal

pub returns-in-Ok-clause-place : goal.returns-in-Ok-clause-place
returns-in-Ok-clause-place c =
    let up = entries-rise c.args.entries.now c.requires in
    place-found c.args.serial c.args.entries.now c.in-Ok.place c.requires c.in-Ok.ensures.bound
    (searched-by (λ (e : Entry). e.0.0) c.args.entries.now c.args.serial (Ok c.in-Ok.place) (c.in-Ok.ensures.position (λ e. e.0.0) (answers_always _ _ _ (λ f a r g called. search rules))) up)

pub returns-in-Err-clause-place : goal.returns-in-Err-clause-place
returns-in-Err-clause-place c =
    let up = entries-rise c.args.entries.now c.requires in
    let w = searched-by (λ (e : Entry). e.0.0) c.args.entries.now c.args.serial (Err c.in-Err.place) (c.in-Err.ensures.position (λ e. e.0.0) (answers_always _ _ _ (λ f a r g called. search rules))) up in
    place-parts c.args.serial c.args.entries.now c.in-Err.place c.in-Err.ensures.bound w.0 (λ k d l m. let a = w.1 k d l m in omega arith)

pub returns-then-serial-clause-place : goal.returns-then-serial-clause-place
returns-then-serial-clause-place c =
    let es = c.args.entries.now in
    let e = c.index-entries-count.result in
    let there = slice_get-get_or es (length es - 1) e (omega arith) ∙ ap Some (sym c.index-entries-count.is) in
    let last : (d : Entry) → get_or es (length es - 1) d ≡ e = λ d. get_or_from_slice_get es (length es - 1) e d there in
    place-last c.args.serial es (length es - 1) c.requires (omega arith) (λ d. rw (last d) (omega arith))
