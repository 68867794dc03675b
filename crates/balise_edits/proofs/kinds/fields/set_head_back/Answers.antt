-- A field of a header set back: its old value isn't refused.
use Rattle.std.proofs.Common.{◌≡◌, ◌∙◌, None, ap}
use Rattle.balise_rules.specs.Doing.{refusal}
use Rattle.balise_rules.specs.declared.tagged_edit.TaggedEdit.TheVariants.{SetHead}
use Rattle.balise_edits.proofs.Bare.{asks_of}
use Rattle.balise_edits.proofs.Standing.{last_free}
use Rattle.balise_edits.proofs.kinds.fields.set_head_back.Goals as goal

pub returns-in-Err : goal.returns-in-Err
returns-in-Err c =
    let old : c.old-old.result ≡ c.args.entry.now.1.old = c.old-old.ensures ∙ ap (λ m. m.old) c.note.ensures in
    let free : refusal (SetHead c.args.g c.args.t c.args.var c.old-old.result) c.args.plan.now.groups ≡ None = rw old (last_free _ (SetHead c.args.g c.args.t c.args.var c.args.entry.now.1.old) _ c.requires.last (asks_of c.requires.last c.requires.is.1)) in
    let refused = c.in-Err.ensures.does.0 in
    absurd (cc)
