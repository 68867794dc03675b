-- The laws of doing: what an edit makes is answered exactly where it is accepted.
-- From the equivalence of refusal and acceptance.
use Rattle.std.proofs.Common.{◌≡◌, [], ◌∷◌, Option, Some, None, Result, Ok, refl, ap, ◌∙◌}
use Rattle.balise_rules.specs.declared.refusal.Refusal.{Refusal}
use Rattle.balise_rules.specs.Refusals.{and_then}
use Rattle.balise_rules.specs.Plan.{Plan}
use Rattle.balise_rules.specs.Doing.{refusal, done, or_done}
use Rattle.balise_rules.specs.Session.{do_all}
use Rattle.balise_edit_laws.specs.Done.{DoneExactly, DoneAlong}
use Rattle.balise_edit_laws.proofs.Refusing.{refused_exactly}

given : (o : Option Refusal) → (q p : Plan) → or_done o q ≡ Ok p → (o ≡ None) × (p ≡ q)
given None q p h = (refl, cc)
given (Some r) q p h = absurd cc

pub done_exactly : DoneExactly
done_exactly e plan sound = (
  λ a. ap (λ o. or_done o (done e plan)) ((refused_exactly e.1 plan sound).1 a),
  λ p h. let g = given (refusal e.1 plan) (done e plan) p h in ((refused_exactly e.1 plan sound).0 g.0, g.1),
)

pub done_along : DoneAlong
done_along [] plan r = refl
done_along (e ∷ es) plan r = ap (λ (q : Result Plan Refusal). and_then q (do_all es)) ((done_exactly e plan r.0.sound).0 r.0.accepted) ∙ done_along es (done e plan) r.1
