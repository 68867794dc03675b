-- The plan first read stays one that was read, group by group.
use Rattle.std.specs.Prelude.{if◌then◌else◌, is_some, IsOk}
use Rattle.std.proofs.Common.{◌≡◌, ◌⊎◌, ◌∙◌, ◌-◌, ◌==◌, inl, inr, ℕ, not, nat_le, Bool, true, false, cond, length, List, [], ◌∷◌, ◌++◌, Result, Ok, Err, OnOk, refl, sym, ap, subst}
use Rattle.balise_rules.specs.declared.refusal.Refusal.{Refusal}
use Rattle.balise_rules.specs.declared.refusal.Refusal.TheVariants.{GroupSize, GroupTwice, HeaderDisagrees, NumberReserved, OutOfMemory}
use Rattle.balise_rules.specs.declared.tag.Tag.TheVariants.{Base}
use Rattle.balise_rules.specs.Plan.{Group, Plan, agree_from, group_named, identity_of, pushed, pushed_all, read_plan, reserved, with_group}
use Rattle.balise_plan.specs.Held as held
use Rattle.balise_rules.specs.Digits.{read_hex}
use Rattle.balise_rules.specs.Refusals.{and_then}
use Rattle.balise_plan.specs.GroupReading.{PushesRead, WereRead, most_telegrams, with_read, with_telegram}
use Rattle.balise_plan.proofs.Reading.{telegram_added}
use Rattle.balise_text.specs.DigitWords.{bits_due}
use Rattle.balise_text.specs.Texts.{Text}
use Rattle.balise_text.specs.declared.plan_line.PlanLine.{PlanLine}
use Rattle.balise_cli.specs.Output.{InGroup}
use Rattle.balise_cli.specs.Phases.{EndMayRunOut, LineMayRunOut, is_telegram, phase_at}
use Rattle.balise_cli.specs.PlanRead.{WasRead, with_line}
use Rattle.balise_cli.specs.declared.plan_reader.PlanStage.{PlanStage}
use Rattle.balise_cli.specs.declared.plan_reader.PlanStage.TheVariants as stage

push_last : (p : Result Plan Refusal) (gs : List (List (List Bool))) (bs : List (List Bool)) → pushed_all p (gs ++ bs ∷ []) ≡ pushed_all (pushed_all p gs) (bs ∷ [])
push_last p [] bs = refl
push_last (Err r) (g ∷ gs) bs = refl
push_last (Ok plan) (g ∷ gs) bs = push_last (pushed plan g) gs bs

pub read_last : (gs : List (List (List Bool))) (bs : List (List Bool)) (plan more : Plan) → read_plan gs ≡ Ok plan → pushed plan bs ≡ Ok more → read_plan (gs ++ bs ∷ []) ≡ Ok more
read_last gs bs plan more e h = push_last (Ok []) gs bs ∙ ap (λ (q : Result Plan Refusal). pushed_all q (bs ∷ [])) e ∙ h

-- a group with the ones before it is refused for a fault of its own
pub never_out : (plan : Plan) (ys : Group) → with_read plan ys ≡ Err OutOfMemory → ⊥
never_out plan [] e = absurd cc
never_out plan (y ∷ ys) e = checked (not (agree_from (identity_of (y ∷ ys)) (length (y ∷ ys) - 1) 0 (y ∷ ys))) ((identity_of (y ∷ ys)).number == reserved) e
  where
    taken : (b : Bool) → ◌≡◌ {A = Result Plan Refusal} (if b then Err GroupTwice else Ok (plan ++ (Base (length plan), y ∷ ys) ∷ [])) (Err OutOfMemory) → ⊥
    taken true e = absurd cc
    taken false e = absurd cc

    checked : (a b : Bool) → with_group plan (if a then Err HeaderDisagrees else if b then Err NumberReserved else Ok (y ∷ ys)) ≡ Err OutOfMemory → ⊥
    checked true b e = absurd cc
    checked false true e = absurd cc
    checked false false e = taken (is_some (group_named (identity_of (y ∷ ys)) plan)) e

-- where memory ran out as a group ended, the group has no fault
ends_sound : (plan : Plan) (ys : Group) (r : Refusal) → r ≡ OutOfMemory → ((r ≡ OutOfMemory) × IsOk (with_read plan ys)) ⊎ (with_read plan ys ≡ Err r) → IsOk (with_read plan ys)
ends_sound plan ys r is (inl w) = w.1
ends_sound plan ys r is (inr w) = absurd (never_out plan ys (w ∙ ap (λ (q : Refusal). Err q) is))

module _ (at : PlanStage) (plan : Plan) (g : ℕ) (ys zs : Group) (r : Refusal) (here : at ≡ stage.InGroup g ys) (same : zs ≡ ys) (is : r ≡ OutOfMemory) (out : ((r ≡ OutOfMemory) × IsOk (with_read plan zs)) ⊎ (with_read plan zs ≡ Err r)) where
  ends_here : IsOk (with_read plan ys)
  ends_here = subst (λ (xs : Group). IsOk (with_read plan xs)) same (ends_sound plan zs r is out)

  -- at a line that isn't a telegram's
  pub line_ends : (kind is_kind : PlanLine) → kind ≡ is_kind → false ≡ is_telegram kind → LineMayRunOut (phase_at at plan) (is_telegram is_kind)
  line_ends kind is_kind e h = subst (λ (a : PlanStage). LineMayRunOut (phase_at a plan) (is_telegram is_kind)) (sym here) (subst (LineMayRunOut (InGroup plan g ys)) (h ∙ ap is_telegram e) ends_here)

  -- at the input's end
  pub input_ends : EndMayRunOut (phase_at at plan)
  input_ends = subst (λ (a : PlanStage). EndMayRunOut (phase_at a plan)) (sym here) ends_here

-- a line of digits more
pub added_read : (ys zs : Group) (line : Text) → WereRead ys → with_line ys line ≡ Ok zs → WereRead zs
added_read ys zs line w e = by (nat_le most_telegrams (length ys)) (read_hex (bits_due (length line)) line) e
  where
    by : (b : Bool) (r : Result (List Bool) Refusal) → cond b (Err GroupSize) (and_then r (with_telegram ys)) ≡ Ok zs → WereRead zs
    by true r e = absurd cc
    by false (Err f) e = absurd cc
    by false (Ok bits) e = telegram_added ys zs bits w e

pub base_kept : {A : Type 0} (ys : Group) (old new : held.Plan) (r : Result A Refusal) → (old.changes ≡ 0) × WasRead old.groups → PushesRead ys old r new → OnOk r ((bs : List (List Bool)) × (pushed old.groups bs ≡ Ok new.groups)) →
    (new.changes ≡ 0) × WasRead new.groups
base_kept ys old new (Ok u) inv p read =
    (p.1 ∙ inv.0, (inv.1.0 ++ read.0 ∷ [], read_last inv.1.0 read.0 old.groups new.groups inv.1.1 read.1))
base_kept ys old new (Err e) inv p read = subst (λ (q : held.Plan). (q.changes ≡ 0) × WasRead q.groups) (sym p.1) inv
