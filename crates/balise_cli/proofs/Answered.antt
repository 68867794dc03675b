-- What a command is answered, from what its session answers.
use Rattle.std.proofs.Common.{◌≡◌, ◌≢◌, ◌⊎◌, ◌∙◌, inl, inr, ◌<◌, ◌≤◌, List, [], true, false, IfErr, cond, nat_le, Option, Some, None, Result, Ok, Err, option_map, refl, sym, ap}
use Rattle.std.proofs.lemmas.Bool.{cases_lt, le-leb, true≢false}
use Rattle.balise_rules.specs.declared.refusal.Refusal.{Refusal}
use Rattle.balise_rules.specs.declared.refusal.Refusal.TheVariants.{OutOfMemory, Worn}
use Rattle.balise_rules.specs.declared.review.ReviewLine.{ReviewLine}
use Rattle.balise_rules.specs.declared.tag.Tag.{Tag}
use Rattle.balise_rules.specs.Addresses.{AskTurn}
use Rattle.balise_rules.specs.Plan.{Group, Plan}
use Rattle.balise_rules.specs.Review.{review}
use Rattle.balise_rules.specs.Session.{State, Call, Ask, Refused, answer_in_time, most_commands}
use Rattle.balise_rules.proofs.Cases.{unsome}
use Rattle.balise_text.specs.Checks.{checked}
use Rattle.balise_text.specs.Commands.{call_of, reads_digits}
use Rattle.balise_text.specs.declared.request.Request.{Request}
use Rattle.balise_text.specs.Texts.{Text}
use Rattle.balise_cli.specs.Output.{MayAnswer, answer_line, group_review, reviewed}
use Rattle.balise_cli.specs.Private.{IsRefused, at_limit}

-- the review of a group that was found by its identity
pub group_reviewed : (o : Option (Tag × Group)) (g : Tag) (plan : Plan) → option_map (λ (y : Tag × Group). y.0) o ≡ Some g → review g plan ≡ group_review o plan
group_reviewed None g plan h = absurd cc
group_reviewed (Some z) g plan h = ap (λ (t : Tag). review t plan) (sym (unsome h))

-- Of a line that is refused.

wanted_or : (r : Refusal) → (r ≡ OutOfMemory) ⊎ (r ≢ OutOfMemory)
wanted_or OutOfMemory = inl refl
wanted_or r = inr (λ e. absurd cc)

none_reviewed : (c : Result Call Refusal) (r : Refusal) (s : State) → [] ≡ reviewed c (Refused r) s
none_reviewed (Err f) r s = refl
none_reviewed (Ok (Ask (AskTurn i))) r s = refl
none_reviewed c r s = refl

pub refused_answered : (line : Text) (s : State) (r : Refusal) (ls : List ReviewLine) → IsRefused line s r → ls ≡ [] → MayAnswer true line s (Refused r) s × (ls ≡ reviewed (call_of line) (Refused r) s)
refused_answered line s r ls may none = (may, none ∙ none_reviewed (call_of line) r s)

-- below the limit
before_limit : (s : State) → nat_le most_commands s.count ≡ false → s.count < most_commands
before_limit s h = by (cases_lt s.count most_commands)
  where
    by : (s.count < most_commands) ⊎ (most_commands ≤ s.count) → s.count < most_commands
    by (inl time) = time
    by (inr worn) = absurd (true≢false (sym (le-leb most_commands s.count worn) ∙ h))

pub read_refused : (line : Text) (s : State) (q : Result Request Refusal) → nat_le most_commands s.count ≡ false → IfErr q (λ e. e ≢ OutOfMemory → call_of line ≡ Err e) → IfErr q (λ e. e ≡ OutOfMemory → reads_digits line ≡ true)
    → IfErr q (λ e. IsRefused line s e)
read_refused line s (Ok x) time fault memory = tt
read_refused line s (Err r) time fault memory = by (wanted_or r)
  where
    by : (r ≡ OutOfMemory) ⊎ (r ≢ OutOfMemory) → IsRefused line s r
    by (inl e) = inr (refl, (before_limit s time, inl (memory e)), ap Refused e, refl)
    by (inr n) = inl (sym (ap (λ (x : Result Call Refusal). answer_line x s) (fault n)))

-- at the limit
pub limit_refused : (line : Text) (s : State) (r : Refusal) → nat_le most_commands s.count ≡ true → r ≡ at_limit (checked (call_of line)) → IsRefused line s r
limit_refused line s r worn h = by (call_of line) refl h
  where
    by : (c : Result Call Refusal) → call_of line ≡ c → r ≡ at_limit (checked c) → IsRefused line s r
    by (Err q) k e = inl (ap (λ (x : Refusal). (Refused x, s)) e ∙ sym (ap (λ (x : Result Call Refusal). answer_line x s) k))
    by (Ok c) k e = inl (ap (λ (x : Refusal). (Refused x, s)) e ∙ sym (ap (λ (x : Result Call Refusal). answer_line x s) k ∙ ap (λ b. cond b (Refused Worn, s) (answer_in_time c s)) worn))
