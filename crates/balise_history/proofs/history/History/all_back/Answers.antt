-- The entries of the stack come back to those that stand, the top first: as the rules bring them back.
use Rattle.std.proofs.Common.{◌≡◌, ◌<◌, ◌-◌, ◌∙◌, ℕ, suc, List, ◌∷◌, length, refl, ap, arith, rules}
use Rattle.balise_history.specs.declared.history.Undone.{Undone}
use Rattle.balise_history.specs.Lists.{History, gone_of}
use Rattle.balise_history.specs.Returned.{returned, AllReturn}
use Rattle.balise_history.proofs.Stacked.{remaining, remaining-step, remaining-all}
use Rattle.balise_history.proofs.history.History.all_back.Goals as goal
use Rattle.balise_history.proofs.history.History.all_back.Goals.{After-index}

pub loop-left-init : goal.loop-left-init
loop-left-init c =
    let stack : List Undone = c.self.inside.stack.items in
    let copied : c.in_ok-entries.entries.items ≡ c.args.self.now.standing = c.in_ok-entries.ensures.ok ∙ c.deref.ensures.value ∙ ap (λ (h : History). h.standing) c.self.view_is in
    let whole : remaining stack c.len-left.result ≡ c.args.self.now.stack = remaining-all stack c.len-left.result (omega arith) ∙ ap (λ (h : History). h.stack) c.self.view_is in
    record { within = omega arith; rest = rw (copied, whole) refl; returns = rw (copied, whole) c.requires }

pub index-requires : goal.index-requires
index-requires c = let within = c.loop-left.invariant.within in let some = c.loop-left-test.true in omega arith

-- the entry that comes back next is on top of what is left
next_back : (c : After-index) → remaining c.self.inside.stack.items c.loop-left.left ≡ gone_of c.index.result.now ∷ remaining c.self.inside.stack.items (c.loop-left.left - 1)
next_back c =
    let stack : List Undone = c.self.inside.stack.items in
    let place : ℕ = c.loop-left.left - 1 in
    let one_more : suc place ≡ c.loop-left.left = omega (arith, c.loop-left-test.true) in
    let within : place < length stack = omega (arith, c.loop-left.invariant.within) in
    rw (one_more, ← c.index.ensures) at (remaining-step stack place c.index.result.now within)

-- each of those that are left comes back
all_return : (c : After-index) → AllReturn (gone_of c.index.result.now ∷ remaining c.self.inside.stack.items (c.loop-left.left - 1)) c.loop-left.entries.items
all_return c = rw (next_back c) at c.loop-left.invariant.returns

pub put_copy-requires-clause-rising : goal.put_copy-requires-clause-rising
put_copy-requires-clause-rising c = (all_return (goal.at.put_copy-requires-clause-rising c).After-index).0

pub put_copy-requires-clause-ascends : goal.put_copy-requires-clause-ascends
put_copy-requires-clause-ascends c = (all_return (goal.at.put_copy-requires-clause-ascends c).After-index).1

pub loop-left-preserved : goal.loop-left-preserved
loop-left-preserved c =
    let next = (goal.at.loop-left-preserved c).After-index in
    let back : c.put_copy.new.entries.items ≡ returned c.loop-left.entries.items (gone_of c.index.result.now) = c.in_ok-put_copy.ensures.ok in
    let within = c.loop-left.invariant.within in
    record { within = omega arith; rest = rw (c.loop-left.invariant.rest, next_back next, back) refl; returns = rw back (all_return next).2 }

pub returns-clause-ok : goal.returns-clause-ok
returns-clause-ok c = search rules
