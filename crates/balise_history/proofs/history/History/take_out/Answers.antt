-- An entry was taken out: the others stand as they stood, those behind it with its anchor, and it is on the stack without its content.
use Rattle.std.proofs.Common.{rules, ◌≡◌, ◌∙◌, ◌<◌, ◌∷◌, ◌++◌, [], suc, List, Some, length, take, drop, sym, refl, ap, arith, add-one, get_or-set_same}
use Rattle.std.proofs.lemmas.List.{drop_at, length-take-le, reverse-append, take_at}
use Rattle.std.proofs.lemmas.Option.{slice_get-get_or}
use Rattle.balise_rules.specs.Notes.{without_content}
use Rattle.balise_rules.specs.Paths.{Entry}
use Rattle.balise_history.specs.declared.history.Undone.{Undone}
use Rattle.balise_history.specs.Lists.{History}
use Rattle.balise_history.proofs.HomesKept.{numbers-cut, numbers-without}
use Rattle.balise_history.proofs.Mapping.{others-left}
use Rattle.balise_history.proofs.history.History.take_out.Goals as goal
use Rattle.balise_history.proofs.history.History.take_out.Goals.{After-remove-entry}

-- the place is one of those that stand
place_within : (c : After-remove-entry) → c.args.place < length c.self.inside.standing.items
place_within c = omega (arith, c.requires.within, ap (λ (h : History). length h.standing) c.self.view_is)

-- the others stand as they stood
others : (c : After-remove-entry) → c.remove-entry.new.self.items ≡ take c.args.place c.self.inside.standing.items ++ drop (suc c.args.place) c.self.inside.standing.items
others c = c.remove-entry.ensures.items ∙ others-left c.self.inside.standing.items c.args.place c.take_back.new.entry

-- what was taken out is the entry that stood there, without its content
taken : (c : After-remove-entry) → c.remove-entry.result ≡ (c.index_mut.result.now.0, without_content c.index_mut.result.now.1)
taken c = c.remove-entry.ensures.value ∙ get_or-set_same c.self.inside.standing.items c.args.place c.take_back.new.entry c.remove-entry.result (place_within c) ∙ c.in_ok-take_back.ensures.entry

pub returns-clause-takes : goal.returns-clause-takes
returns-clause-takes c =
    let out = (goal.at.returns-clause-takes c).After-remove-entry in
    let standing : List Entry = c.self.inside.standing.items in
    let long : length (take c.args.place standing) ≡ c.args.place = length-take-le c.args.place standing (omega (arith, place_within out)) in
    let undone : Undone = record { entry = c.remove-entry.result; behind = c.args.behind } in
    let pushed : c.push.new.self.items ≡ c.self.inside.stack.items ++ undone ∷ [] = rw c.unwrap.ensures at c.push.ensures.items in
    rw (← c.self.view_is) (
      c.index_mut.result.now,
      slice_get-get_or standing c.args.place c.index_mut.result.now (place_within out) ∙ ap Some (sym c.index_mut.ensures.value),
      c.in_ok-take_back.ensures.back,
      rw (c.re_anchor_from.ensures.items, others out, taken out, c.deref.ensures.value, take_at, drop_at, add-one) refl,
      rw (pushed, reverse-append, taken out) refl,
    )

pub invariant_of-self-2 : goal.invariant_of-self-2
invariant_of-self-2 c =
    let out = (goal.at.invariant_of-self-2 c).After-remove-entry in (
      rw (c.remove.ensures.items, c.re_anchor_from.ensures.items, numbers-cut, others out, numbers-without, c.self.invariant.0) refl,
      search rules,
      search rules,
      search rules,
    )
