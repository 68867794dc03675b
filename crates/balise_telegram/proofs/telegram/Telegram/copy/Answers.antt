use Rattle.std.proofs.Common.{◌≡◌, ◌∙◌}
use Rattle.balise_telegram.specs.Shown.{kept_of, packed_of, seen, StandsFor}
use Rattle.balise_telegram.proofs.Seen.{is_again}
use Rattle.balise_telegram.proofs.telegram.Telegram.copy.Goals as goal

again : (c : goal.In_ok-contents) → let b = packed_of c.in_ok-contents.contents in let k = kept_of c.in_ok-contents.contents in let y = seen (packed_of c.self.inside.contents) (kept_of c.self.inside.contents) in StandsFor b k (seen b k) × (seen b k ≡ y)
again c =
    let y = seen (packed_of c.self.inside.contents) (kept_of c.self.inside.contents) in
    is_again (packed_of c.in_ok-contents.contents) (kept_of c.in_ok-contents.contents) y (c.in_ok-contents.ensures.ok y c.self.invariant)

pub invariant_of-result : goal.invariant_of-result
invariant_of-result c = (again c).0

pub returns-clause-ok : goal.returns-clause-ok
returns-clause-ok c = (again c).1 ∙ c.self.view_is
