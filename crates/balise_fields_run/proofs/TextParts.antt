-- A text that is written in two parts, and a line that ends no item.
use Rattle.std.proofs.Common.{◌≡◌, ◌∙◌, ◌++◌, ℕ, false, Option, refl, sym, ap}
use Rattle.std.proofs.KnownBytes.{Appends-nil}
use Rattle.balise_lines.specs.Writing.{LastFailed}
use Rattle.balise_lines.specs.declared.counted.Counted.{Counted}
use Rattle.balise_text.specs.Texts.{Text}
use Rattle.balise_fields.specs.declared.field_line.FieldLine.{FieldLine}
use Rattle.balise_fields.specs.FieldLines.{field_line_of}
use Rattle.balise_fields.proofs.Sequences.{some_front_of}
use Rattle.balise_items.specs.Items.{GivenItem}
use Rattle.balise_text.specs.declared.run_fault.RunFault.{RunFault}
use Rattle.balise_text.specs.declared.run_fault.RunFault.TheVariants.{InputTooLong, OutOfMemory, ReadFault, WriteFault}
use Rattle.balise_fields_run.specs.ItemLines.{ends_item, line_bad, line_text}
use Rattle.balise_fields_run.specs.ItemSteps.{TextDone, TextFails}

-- the first part failed
pub first_fails : {W : Type 0} (contents : W → Option Text) (old new : Counted W) (xs ys : Text) (e : RunFault) → TextFails contents old new xs e → TextFails contents old new (xs ++ ys) e
first_fails contents old new xs ys OutOfMemory f = f
first_fails contents old new xs ys WriteFault f = some_front_of LastFailed contents (xs ++ ys) xs ys old new refl f
first_fails contents old new xs ys InputTooLong f = absurd f
first_fails contents old new xs ys ReadFault f = absurd f

-- nothing is printed for a line that ends no item
pub ends_none : {W : Type 0} (contents : W → Option Text) (writer : Counted W) (n : ℕ) (text : Text) (item : Option GivenItem) (l : FieldLine) → l ≡ field_line_of text → ends_item text l ≡ false
    → TextDone contents writer writer (line_text n text item) (line_bad n text item) false
ends_none contents writer n text item l e f =
    let no : ends_item text (field_line_of text) ≡ false = ap (ends_item text) (sym e) ∙ f in
    rw no (refl, record { appended = Appends-nil (contents writer.inner); unfailed = refl })
