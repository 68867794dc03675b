-- A flush: the count of failed calls after it, and what holds where it succeeded.
use Rattle.std.proofs.Common.{◌≡◌, ℕ, Bool, true, OnOk, Result, Ok, Err, is_ok, subst, sym, ◌∙◌}
use Rattle.balise_lines.specs.Counts.{Counts}
use Rattle.balise_program.specs.Reporting.{count_after}

counted_at : {A E : Type 0} (old new : ℕ) (r : Result A E) → Counts old new r → new ≡ count_after (is_ok r) old
counted_at old new (Ok a) w = w
counted_at old new (Err x) w = w

-- a flush that failed was counted
pub flush_counted : {A E : Type 0} (old new : ℕ) (r : Result A E) (flushed : Bool) → flushed ≡ is_ok r → Counts old new r → new ≡ count_after flushed old
flush_counted old new r flushed e w = subst (λ b. new ≡ count_after b old) (sym e) (counted_at old new r w)

done_at : {A E P : Type 0} (r : Result A E) → OnOk r P → is_ok r ≡ true → P
done_at (Ok a) p t = p
done_at (Err x) p t = absurd cc

-- what holds after a flush
pub flush_done : {A E P : Type 0} (r : Result A E) (flushed : Bool) → flushed ≡ is_ok r → OnOk r P → flushed ≡ true → P
flush_done r flushed e p t = done_at r p (sym e ∙ t)
