-- What a change of a plan does is what the edit does under its serial.
use Rattle.std.proofs.Common.{◌≡◌, ◌∙◌, ℕ, Result, Ok, Err, inr, ap}
use Rattle.balise_rules.specs.declared.refusal.Refusal.{Refusal}
use Rattle.balise_rules.specs.Doing.{done}
use Rattle.balise_rules.specs.Edits.{Edit}
use Rattle.balise_plan.specs.Held.{Plan, Does, DoesAlways}
use Rattle.balise_edits.specs.Standing.{changed_to, DoesItem}

pub does_item : {A : Type 0} (s : ℕ) (e : Edit) (old : Plan) (r : Result A Refusal) (new : Plan) → done (0, e) old.groups ≡ done (s, e) old.groups → Does e old r new → DoesItem (s, e) old r new
does_item s e old (Ok a) new h d = (d.0, d.1 ∙ ap (λ q. changed_to q old) h)
does_item s e old (Err r) new h d = d

pub always_item : {A : Type 0} (s : ℕ) (e : Edit) (old : Plan) (r : Result A Refusal) (new : Plan) → done (0, e) old.groups ≡ done (s, e) old.groups → DoesAlways e old r new → DoesItem (s, e) old r new
always_item s e old (Ok a) new h d = (d.0, d.1 ∙ ap (λ q. changed_to q old) h)
always_item s e old (Err r) new h d = (inr d.0, d.1)
