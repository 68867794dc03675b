use Rattle.std.proofs.Common.{◌≡◌, ◌∙◌, ap, arith}
use Rattle.std.proofs.lemmas.Grind.{common_steps}
use Rattle.balise_rules.specs.declared.tagged_edit.TaggedEdit.TheVariants.{SetVar}
use Rattle.balise_rules.specs.Notes.{noted, nothing}
use Rattle.balise_edits.specs.Notes.{names_in, with_names, with_old}
use Rattle.balise_edits.proofs.SetNames.{noted_form}
use Rattle.balise_edits.proofs.kinds.fields.set_var.Goals as goal

pub returns-in-Ok-clause-noted : goal.returns-in-Ok-clause-noted
returns-in-Ok-clause-noted c =
    let m = noted (SetVar c.args.g c.args.t c.args.p c.args.var c.args.k c.args.value) c.args.plan.now.groups in
    let names : names_in c.names_set-names.result ≡ m.names = grind (arith, common_steps, c.names_set-names.ensures.names, c.in-Ok.ensures.does.0) in
    c.set_old.ensures.noted ∙ ap (with_old c.in-Ok.old) c.in_ok-note.ensures.noted
    ∙ ap (λ is. with_old c.in-Ok.old (with_names is nothing)) names
    ∙ ap (λ n. with_old n (with_names m.names nothing)) c.in-Ok.ensures.old
    ∙ noted_form c.args.g c.args.t c.args.p c.args.var c.args.k c.args.value c.args.plan.now.groups
