-- What begins an output of an input: nothing does, all that was written, and a longer text that is cut.
use Rattle.std.proofs.Common.{◌∙◌, ◌≡◌, ◌<◌, ℕ, true, [], ◌++◌, inl, inr, length, take, drop, Result, Ok, Err, arith, refl, subst, sym, ap, append_assoc, append-nil, length-append, take-append-drop}
use Rattle.std.proofs.Math.Seq.{take-length}
use Rattle.std.proofs.lemmas.List.{length-take-le}
use Rattle.balise_lines.specs.Lines.{lines_of}
use Rattle.balise_cli.specs.declared.asked.Asked.{Asked}
use Rattle.balise_text.specs.Texts.{Text}
use Rattle.balise_cli.specs.Ends.{BeginsOutput, IsOutputOf}
use Rattle.balise_cli.specs.Output.{Ended, Ending, Header, TooLong}
use Rattle.balise_text.specs.declared.run_fault.RunFault.{RunFault}
use Rattle.balise_text.specs.declared.run_fault.RunFault.TheVariants.{InputTooLong, OutOfMemory, ReadFault, WriteFault}
use Rattle.balise_cli.specs.declared.status.Status.{Status}
use Rattle.balise_cli.proofs.Outputs.{some_output}
use Rattle.balise_c.specs.HandedOver.{count_within, ends_within}
use Rattle.balise_c.specs.Outcome.{BeginsLonger, IsPrinted, Ran}

pub nothing : (asked : Asked) (input : Text) → BeginsOutput asked input []
nothing asked input = let o = some_output asked true Header 1 0 (lines_of input) in record { output = o.0; ending = o.1.0; is_output = o.1.1; begins = (o.0, refl) }

-- an output begins with itself
itself : (asked : Asked) (input text : Text) (e : Ending) → IsOutputOf asked input text e → BeginsOutput asked input text
itself asked input text e o = record { output = text; ending = e; is_output = o; begins = ([], append-nil text) }

-- however the run ended, its text begins one
begun : (asked : Asked) (input text : Text) (r : Result Status RunFault) → Ran asked input text r → BeginsOutput asked input text
begun asked input text (Ok status) p = itself asked input text (Ended status) p.0
begun asked input text (Err InputTooLong) o = itself asked input text TooLong o
begun asked input text (Err OutOfMemory) b = b.0
begun asked input text (Err ReadFault) b = b
begun asked input text (Err WriteFault) b = b.0

-- and where it is cut, that output is longer
pub cut : (asked : Asked) (input text : Text) (r : Result Status RunFault) (n : ℕ) → n < length text → Ran asked input text r → BeginsLonger asked input (take n text)
cut asked input text r n less p =
    let b = begun asked input text r p in
    let size : length (take n text) ≡ n = length-take-le n text (omega (arith, less)) in
    let whole = ap length b.begins.1 in
    let parts = length-append text b.begins.0 in (
      record {
        output = b.output;
        ending = b.ending;
        is_output = b.is_output;
        begins = (drop n text ++ b.begins.0, sym (append_assoc (take n text) (drop n text) b.begins.0) ∙ ap (λ (t : Text). t ++ b.begins.0) (take-append-drop n text) ∙ b.begins.1);
      },
      omega (arith, whole, parts, size, less),
    )

-- all that was written is printed, where it fits
pub printed : (asked : Asked) (input text : Text) (r : Result Status RunFault) → Ran asked input text r → IsPrinted asked input (take (count_within r (length text)) text) (ends_within r)
printed asked input text (Ok status) p = subst (λ (t : Text). IsPrinted asked input t (Ok status)) (sym (take-length text)) p
printed asked input text (Err InputTooLong) p = subst (λ (t : Text). IsPrinted asked input t (Err InputTooLong)) (sym (take-length text)) p
printed asked input text (Err OutOfMemory) p = subst (λ (t : Text). IsPrinted asked input t (Err OutOfMemory)) (sym (take-length text)) (p.0, inr p.1)
printed asked input text (Err ReadFault) p = (nothing asked input, inl refl)
printed asked input text (Err WriteFault) p = (nothing asked input, inl refl)
