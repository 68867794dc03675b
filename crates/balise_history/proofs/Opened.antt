-- What is held of a plan that nothing was done to.
use Rattle.std.proofs.Common.{◌≤◌, ℕ, [], refl}
use Rattle.balise_rules.specs.Accepting.{Unused}
use Rattle.balise_rules.specs.Plan.{Plan, IsSound}
use Rattle.balise_history.specs.Held.{IsHeld}

pub opened-held : (plan : Plan) (next : ℕ) → IsSound plan → ((n : ℕ) → Unused n plan) → 1 ≤ next → IsHeld plan [] [] next
opened-held plan next sound untagged first = record {
  session = record {
    untagged = untagged;
    first = first;
    standing = record { sound = sound; unused = tt; spelt = tt; accepted = tt };
    redoable = tt;
    within = tt;
  };
  noted_there = refl;
  made_of = refl;
  kept = tt;
}
