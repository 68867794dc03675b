-- What a change makes of the groups of a plan, and what its call answers by that.
use Rattle.std.proofs.Common.{◌≡◌, ◌⊎◌, ◌∙◌, ℕ, ◌+◌, Some, None, Result, Ok, Err, inr, sym, ap, subst}
use Rattle.std.specs.BTreeSet as set
use Rattle.std.specs.Map.{set_value}
use Rattle.std.proofs.lemmas.Map.Steps.{set_value_same}
use Rattle.balise_rules.specs.declared.tag.Tag.{Tag}
use Rattle.balise_rules.specs.declared.refusal.Refusal.{Refusal}
use Rattle.balise_rules.specs.declared.refusal.Refusal.TheVariants.{OutOfMemory}
use Rattle.balise_rules.specs.Tagged.{find}
use Rattle.balise_rules.specs.Tags.{same_tag}
use Rattle.balise_rules.specs.Plan.{Group}
use Rattle.balise_rules.specs.Plan as rules
use Rattle.balise_rules.specs.Doing.{refusal, done}
use Rattle.balise_rules.specs.Edits.{Edit}
use Rattle.balise_index.specs.declared.link_place.LinkPlace.{LinkPlace}
use Rattle.balise_index.specs.NameIndex.{IndexOf}
use Rattle.balise_plan.specs.Held.{Does, DoesAlways, IsHeld, Plan, edited}

-- groups and a count of changes
abbrev pub counted : rules.Plan → ℕ → Plan
counted groups n = record { groups = groups; changes = n }

-- An edit done, and the indexes for what it makes.
pub record Outcome (e : Edit) (ids : IndexOf Tag) (names : IndexOf (set.BTreeSet LinkPlace)) (plan new : rules.Plan) : Type 0 where
  pub accepted : refusal e plan ≡ None
  pub is : new ≡ done (0, e) plan
  pub held : IsHeld ids names new

-- An edit refused, or out of memory.
pub record Failed (e : Edit) (plan new : rules.Plan) (r : Refusal) : Type 0 where
  pub why : (r ≡ OutOfMemory) ⊎ (refusal e plan ≡ Some r)
  pub is : new ≡ plan

-- a group that was lent, and left as it was
pub left-alone : (g : Tag) (plan : rules.Plan) (ys : Group) (groups : rules.Plan) → Some ys ≡ find same_tag g plan → groups ≡ set_value (same_tag g) plan ys → groups ≡ plan
left-alone g plan ys groups h e = e ∙ set_value_same (same_tag g) plan ys (sym h)

-- ---- of the plan, by its groups

pub of-plan : {plan : rules.Plan} {n : ℕ} {old : Plan} (P : rules.Plan → Type 0) → counted plan n ≡ old → P plan → P old.groups
of-plan P v h = subst (λ (q : Plan). P q.groups) v h

pub to-groups : {plan : rules.Plan} {n : ℕ} {old : Plan} (P : rules.Plan → Type 0) → counted plan n ≡ old → P old.groups → P plan
to-groups P v h = subst (λ (q : Plan). P q.groups) (sym v) h

pub same-plan : {plan groups : rules.Plan} {n : ℕ} {old : Plan} → counted plan n ≡ old → groups ≡ plan → counted groups n ≡ old
same-plan {n = n} v e = ap (λ gs. counted gs n) e ∙ v

pub next-plan : {plan groups : rules.Plan} {n : ℕ} {old : Plan} (F : rules.Plan → rules.Plan) → counted plan n ≡ old → groups ≡ F plan → counted groups (n + 1) ≡ counted (F old.groups) (old.changes + 1)
next-plan {n = n} F v e = ap (λ gs. counted gs (n + 1)) e ∙ ap (λ (q : Plan). counted (F q.groups) (q.changes + 1)) v

-- ---- what is answered of an edit

pub does : {ids : IndexOf Tag} {names : IndexOf (set.BTreeSet LinkPlace)} {plan new groups : rules.Plan} {n : ℕ} {old : Plan} (e : Edit) → counted plan n ≡ old → groups ≡ new → Outcome e ids names plan new →
    (refusal e old.groups ≡ None) × (counted groups (n + 1) ≡ edited e old)
does e v w o = (of-plan (λ gs. refusal e gs ≡ None) v o.accepted, next-plan (done (0, e)) v (w ∙ o.is))

pub or-memory : {A : Type 0} (e : Edit) (old new : Plan) (r : Result A Refusal) → DoesAlways e old r new → Does e old r new
or-memory e old new (Ok a) d = d
or-memory e old new (Err f) d = (inr d.0, d.1)

pub fails : {plan new groups : rules.Plan} {n : ℕ} {old : Plan} (e : Edit) (r : Refusal) → counted plan n ≡ old → groups ≡ new → Failed e plan new r →
    ((r ≡ OutOfMemory) ⊎ (refusal e old.groups ≡ Some r)) × (counted groups n ≡ old)
fails e r v w f = (of-plan (λ gs. (r ≡ OutOfMemory) ⊎ (refusal e gs ≡ Some r)) v f.why, same-plan v (w ∙ f.is))
