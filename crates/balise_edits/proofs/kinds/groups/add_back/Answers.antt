-- A group put in is taken out again, which isn't refused.
use Rattle.std.proofs.Common.{◌≡◌, ◌∙◌, None, Option, Some, sym}
use Rattle.balise_rules.specs.declared.refusal.Refusal.{Refusal}
use Rattle.balise_rules.specs.declared.tag.Tag.TheVariants.{Fresh}
use Rattle.balise_rules.specs.Doing.{refusal}
use Rattle.balise_rules.specs.declared.tagged_edit.TaggedEdit.TheVariants.{DropGroup}
use Rattle.balise_edits.proofs.Bare.{asks_of}
use Rattle.balise_edits.proofs.Standing.{last_free}
use Rattle.balise_edits.proofs.kinds.groups.add_back.Goals as goal

pub returns-in-Err : goal.returns-in-Err
returns-in-Err c =
    let f = c.args.entry.now in
    let groups = c.args.plan.now.groups in
    let asks = asks_of c.requires.last c.requires.is.2 in
    let free : refusal (DropGroup (Fresh c.serial.result)) groups ≡ None = rw c.serial.ensures (last_free f (DropGroup (Fresh f.0.0)) groups c.requires.last asks) in
    let never : ◌≡◌ {A = Option Refusal} None (Some c.in-Err.fault) = sym free ∙ c.in-Err.ensures.does.0 in
    absurd cc
