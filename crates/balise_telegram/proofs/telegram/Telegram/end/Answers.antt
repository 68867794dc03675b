use Rattle.std.proofs.Common.{subst, arith}
use Rattle.balise_telegram.specs.declared.telegram.contents.Contents.{Contents}
use Rattle.balise_telegram.specs.Shown.{kept_of, packed_of, seen, IsKept, IsOver}
use Rattle.balise_telegram.proofs.Walking.{shown_size, used_within}
use Rattle.balise_telegram.proofs.telegram.Telegram.end.Goals as goal

pub returns-in-Edited-clause-small : goal.returns-in-Edited-clause-small
returns-in-Edited-clause-small c =
    let b = packed_of c.self.inside.contents in
    let y = seen b (kept_of c.self.inside.contents) in
    let s = c.self.invariant.shown in
    let over : IsOver c.in-Edited.edited.value.kept y = subst (λ (d : Contents). IsKept (kept_of d) y) c.in-Edited.is c.self.invariant.kept in
    let all = over.2 in
    let most = shown_size b y s in
    omega (arith, all, used_within b y s, most.1)
