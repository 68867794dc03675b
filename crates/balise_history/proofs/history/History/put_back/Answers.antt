-- The top of the stack was put back: it stands at its place with what it notes now, those behind it on what it puts in, and the stack is the rest.
use Rattle.std.proofs.Common.{rules, ◌≡◌, ◌-◌, ◌∙◌, suc, List, length, take, sym, refl, ap, arith, get_or-set_same}
use Rattle.std.proofs.lemmas.Bool.{false≢true}
use Rattle.std.proofs.lemmas.List.{append-nil, drop_all, drop_at, length-take-le, take_at}
use Rattle.balise_rules.specs.Paths.{Entry}
use Rattle.balise_history.specs.declared.history.Undone.{Undone}
use Rattle.balise_history.specs.Lists.{History, gone_of}
use Rattle.balise_history.proofs.HomesKept.{numbers-cut, numbers-with}
use Rattle.balise_history.proofs.Mapping.{others-left}
use Rattle.balise_history.proofs.Stacked.{remaining-all, remaining-step, top-at}
use Rattle.balise_history.proofs.history.History.put_back.Goals as goal
use Rattle.balise_history.proofs.history.History.put_back.Goals.{After-index_mut-undone, After-remove-entry}

-- the last of the stack is its top
is_top : (g : _) (c : After-index_mut-undone g) → gone_of c.index_mut-undone.result.now ≡ g.r
is_top g c =
    let stack = c.requires.1.1.0 in
    rw c.index_mut-undone.ensures.value (top-at c.self.inside.stack.items (c.len-top.result - 1) c.index_mut-undone.result.now g.r stack.0 (omega arith) (ap (λ (h : History). h.stack) c.self.view_is ∙ stack.1))

pub again-requires-clause-next : goal.again-requires-clause-next
again-requires-clause-next g c = rw (← is_top g (goal.at.again-requires-clause-next g c).After-index_mut-undone) at c.requires.1.1.1.0

pub returns-in_err-again-clause-always : goal.returns-in_err-again-clause-always
returns-in_err-again-clause-always g c =
    rw (← is_top g (goal.at.returns-in_err-again-clause-always g c).After-index_mut-undone) (λ w. absurd (false≢true (c.in_err-again.ensures.always w)))

-- what was taken from the stack is its top, with what it notes now
taken : (g : _) (c : After-remove-entry g) → c.remove-entry.result ≡ record { entry = c.again.new.entry; behind = c.index_mut-undone.result.now.behind }
taken g c =
    let top = c.len-top.result - 1 in
    c.remove-entry.ensures.value ∙ get_or-set_same c.self.inside.stack.items top _ c.remove-entry.result (search rules)

-- the rest of the stack stays
rest : (g : _) (c : After-remove-entry g) → c.remove-entry.new.self.items ≡ take (c.len-top.result - 1) c.self.inside.stack.items
rest g c = rw (c.remove-entry.ensures.items, others-left, drop_all (suc (c.len-top.result - 1)) c.self.inside.stack.items (omega arith), append-nil) refl

pub invariant_of-self-2 : goal.invariant_of-self-2
invariant_of-self-2 g c =
    let number = rw c.unwrap.ensures at c.insert.ensures.items in
    let put = rw c.unwrap-2.ensures at c.insert-2.ensures.items in (
      rw (number, put, c.home_number.ensures, numbers-with, c.re_anchor_from.ensures.items, numbers-cut, c.self.invariant.0) refl,
      search rules,
      search rules,
      search rules,
    )

pub returns-clause-puts : goal.returns-clause-puts
returns-clause-puts g c =
    let at = goal.at.returns-clause-puts g c in
    let top = c.len-top.result - 1 in
    let standing : List Entry = c.self.inside.standing.items in
    let stack : List Undone = c.self.inside.stack.items in
    let long : length (take c.args.place standing) ≡ c.args.place = length-take-le c.args.place standing (omega (arith, c.requires.1.0, ap (λ (h : History). length h.standing) c.self.view_is)) in
    let put = rw c.unwrap-2.ensures at c.insert-2.ensures.items in
    rw (← is_top g at.After-index_mut-undone, ← c.self.view_is) (
      c.in_ok-again.ensures.done,
      rw (put, c.re_anchor_from.ensures.items, take_at, drop_at, c.deref.ensures.value, taken g at.After-remove-entry, c.in_ok-again.ensures.entry) refl,
      rw (rest g at.After-remove-entry, c.index_mut-undone.ensures.value) (sym (remaining-all stack (suc top) (omega arith)) ∙ remaining-step stack top c.index_mut-undone.result.now (search rules)),
    )
