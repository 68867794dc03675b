-- What a run between digits and fields wrote, as it is handed over: all of it, nothing, or a longer text that is cut.
use Rattle.std.proofs.Common.{◌≡◌, ◌<◌, ℕ, Some, [], inl, inr, length, take, drop, Result, Ok, Err, arith, refl, subst, sym, take-append-drop}
use Rattle.std.proofs.Math.Seq.{take-length}
use Rattle.std.proofs.lemmas.List.{length-take-le}
use Rattle.balise_text.specs.Texts.{Text}
use Rattle.balise_text.specs.declared.run_fault.RunFault.{RunFault}
use Rattle.balise_text.specs.declared.run_fault.RunFault.TheVariants.{InputTooLong, OutOfMemory, ReadFault, WriteFault}
use Rattle.balise_fields_run.specs.Ways.{RanBy}
use Rattle.balise_fields_run.specs.declared.status.Status.{Status}
use Rattle.balise_fields_run.specs.declared.way.Way.{Way}
use Rattle.balise_c.specs.FieldsOutcome.{BeginsWhatIsWritten, IsPrintedBy, WroteBy}
use Rattle.balise_c.specs.HandedOver.{count_within, ends_within}

-- a run over all of the input, into an empty text
pub ran_over : (way : Way) (input text had has old new : Text) (read reads written writes : ℕ) (r : Result Status RunFault) → had ≡ input → old ≡ [] → new ≡ text → read ≡ 0 → written ≡ 0
    → RanBy way (Some had) (Some has) (Some old) (Some new) read reads written writes r → WroteBy way input text r
ran_over way input text had has old new read reads written writes r h o n i k w = record {
  has = Some has;
  reads = reads;
  writes = writes;
  ran = subst (λ (t : Text). RanBy way (Some t) (Some has) (Some []) (Some text) 0 reads 0 writes r) h
      (subst (λ (t : Text). RanBy way (Some had) (Some has) (Some t) (Some text) 0 reads 0 writes r) o
      (subst (λ (t : Text). RanBy way (Some had) (Some has) (Some old) (Some t) 0 reads 0 writes r) n
      (subst (λ (a : ℕ). RanBy way (Some had) (Some has) (Some old) (Some new) a reads 0 writes r) i
      (subst (λ (a : ℕ). RanBy way (Some had) (Some has) (Some old) (Some new) read reads a writes r) k w))));
}

pub printed_by : (way : Way) (input text : Text) (r : Result Status RunFault) → WroteBy way input text r → IsPrintedBy way input (take (count_within r (length text)) text) (ends_within r)
printed_by way input text (Ok status) w = subst (λ (t : Text). IsPrintedBy way input t (Ok status)) (sym (take-length text)) w
printed_by way input text (Err InputTooLong) w = subst (λ (t : Text). IsPrintedBy way input t (Err InputTooLong)) (sym (take-length text)) w
printed_by way input text (Err OutOfMemory) w = subst (λ (t : Text). IsPrintedBy way input t (Err OutOfMemory)) (sym (take-length text)) (inr w)
printed_by way input text (Err ReadFault) w = inl refl
printed_by way input text (Err WriteFault) w = inl refl

pub cut_by : (way : Way) (input text : Text) (r : Result Status RunFault) (n : ℕ) → n < length text → WroteBy way input text r → BeginsWhatIsWritten way input (take n text)
cut_by way input text r n less w =
    let size : length (take n text) ≡ n = length-take-le n text (omega (arith, less)) in (
    record {
      written = text;
      ended = r;
      wrote = w;
      begins = (drop n text, take-append-drop n text);
      longer = omega (arith, size, less);
    }
    )
