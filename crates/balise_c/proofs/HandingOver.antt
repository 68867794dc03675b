-- What is handed over of what a run wrote, whatever the run.
use Rattle.std.proofs.Common.{◌≡◌, ◌⊎◌, ◌<◌, ◌≤◌, ℕ, [], inl, inr, length, take, Result, Ok, Err, arith, refl, subst, sym}
use Rattle.std.proofs.lemmas.Bool.{cases_lt}
use Rattle.std.specs.Result.{IsErrOf}
use Rattle.balise_text.specs.Texts.{Text}
use Rattle.balise_text.specs.declared.run_fault.RunFault.{RunFault}
use Rattle.balise_text.specs.declared.run_fault.RunFault.TheVariants.{InputTooLong, OutOfMemory, ReadFault, WriteFault}
use Rattle.balise_c.specs.HandedOver.{LeavesOutput, HandsOver, count_within, ends_within}

-- what fits or doesn't
fits_or_not : (n m : ℕ) → (n ≤ m) ⊎ (m < n)
fits_or_not n m = by (cases_lt m n)
  where
    by : (m < n) ⊎ (n ≤ m) → (n ≤ m) ⊎ (m < n)
    by (inl x) = inr x
    by (inr x) = inl x

-- no more is handed over than was written
count_below : {S : Type 0} (ended : Result S RunFault) (n : ℕ) → count_within ended n ≤ n
count_below (Ok status) n = omega arith
count_below (Err InputTooLong) n = omega arith
count_below (Err OutOfMemory) n = omega arith
count_below (Err ReadFault) n = omega arith
count_below (Err WriteFault) n = omega arith

module _ {S : Type 0} (ended result : Result S RunFault) (text old new : Text) (written : ℕ) (h : HandsOver ended text old new written result) where
  handed_within : written ≤ length old
  handed_within = by (fits_or_not (length text) (length old))
    where
      by : (length text ≤ length old) ⊎ (length old < length text) → written ≤ length old
      by (inl w) = let c = (h.fits w).0 in let b = count_below ended (length text) in omega (arith, w, c, b)
      by (inr w) = let c = (h.is_full w).0 in omega (arith, c)

  -- What holds of what was printed, where it does of all that was written, as the call ends then, and of each beginning of that.
  handed : (Wrote Printed : Text → Result S RunFault → Type 0)
      → (Wrote text ended → Printed (take (count_within ended (length text)) text) (ends_within ended))
      → ((n : ℕ) → n < length text → Wrote text ended → Printed (take n text) (Err WriteFault))
      → Wrote text ended → Printed (take written new) result
  handed Wrote Printed all cut wrote = subst (λ (t : Text). Printed t result) (sym h.copied) (by (fits_or_not (length text) (length old)))
    where
      by : (length text ≤ length old) ⊎ (length old < length text) → Printed (take written text) result
      by (inl w) =
          subst (λ (r : Result S RunFault). Printed (take written text) r) (sym (h.fits w).1)
          (subst (λ (n : ℕ). Printed (take n text) (ends_within ended)) (sym (h.fits w).0) (all wrote))
      by (inr w) =
          subst (λ (r : Result S RunFault). Printed (take written text) r) (sym (h.is_full w).1)
          (cut written (let c = (h.is_full w).0 in omega (arith, w, c)) wrote)

  not_full : (e : Result S RunFault) → IsErrOf (ends_within e) WriteFault → ⊥
  not_full (Ok status) f = cc
  not_full (Err InputTooLong) f = cc
  not_full (Err OutOfMemory) f = cc
  not_full (Err ReadFault) f = cc
  not_full (Err WriteFault) f = cc

  handed_full : IsErrOf result WriteFault → written ≡ length old
  handed_full f = by (fits_or_not (length text) (length old))
    where
      by : (length text ≤ length old) ⊎ (length old < length text) → written ≡ length old
      by (inl w) = absurd (not_full ended (subst (λ (r : Result S RunFault). IsErrOf r WriteFault) (h.fits w).1 f))
      by (inr w) = (h.is_full w).0

  pub filled : (Wrote Printed : Text → Result S RunFault → Type 0)
      → (Wrote text ended → Printed (take (count_within ended (length text)) text) (ends_within ended))
      → ((n : ℕ) → n < length text → Wrote text ended → Printed (take n text) (Err WriteFault))
      → Wrote text ended → LeavesOutput Printed old new written result
  filled Wrote Printed all cut wrote = record {
    within = handed_within;
    kept = h.kept;
    is_printed = handed Wrote Printed all cut wrote;
    is_full = λ e. handed_full (subst (λ (r : Result S RunFault). IsErrOf r WriteFault) (sym e) refl);
  }

-- where there is no memory for a text
pub unfilled : {S : Type 0} (Printed : Text → Result S RunFault → Type 0) (old : Text) → Printed [] (Err OutOfMemory) → LeavesOutput Printed old old 0 (Err OutOfMemory)
unfilled Printed old printed = record { within = omega arith; kept = refl; is_printed = printed; is_full = λ e. absurd cc }
