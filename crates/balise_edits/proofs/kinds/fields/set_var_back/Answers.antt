-- A field of a packet set back: its old value isn't refused, and the plan is what taking the edit back makes of it.
use Rattle.std.proofs.Common.{◌≡◌, ◌∙◌, None, inl, inr, refl, ap}
use Rattle.balise_rules.specs.Doing.{refusal}
use Rattle.balise_rules.specs.declared.tagged_edit.TaggedEdit.TheVariants.{SetVar}
use Rattle.balise_edits.proofs.Bare.{asks_of, back_of, bare_last}
use Rattle.balise_edits.proofs.Standing.{last_free}
use Rattle.balise_edits.proofs.kinds.fields.set_var_back.Goals as goal
use Rattle.balise_edits.proofs.kinds.fields.set_var_back.Goals.{After-old-old}

-- what it is set to is what the entry notes
is_old : (c : After-old-old) → c.old-old.result ≡ c.args.entry.now.1.old
is_old c = c.old-old.ensures ∙ ap (λ m. m.old) c.note.ensures

-- and isn't refused
not_refused : (c : After-old-old) → refusal (SetVar c.args.g c.args.t c.args.p c.args.var c.args.k c.old-old.result) c.args.plan.now.groups ≡ None
not_refused c = rw (is_old c) (last_free _ (SetVar c.args.g c.args.t c.args.p c.args.var c.args.k c.args.entry.now.1.old) _ c.requires.last (asks_of c.requires.last c.requires.is.1))

pub returns-in-Ok-clause-back : goal.returns-in-Ok-clause-back
returns-in-Ok-clause-back c =
    let set_back = rw (is_old (goal.at.returns-in-Ok-clause-back c).After-old-old) at c.in-Ok.ensures.does.1 in
    (bare_last c.requires.last c.requires.is.1 refl, set_back ∙ back_of c.args.plan.now c.requires.last c.requires.is.1)

pub returns-in-Err-clause-back : goal.returns-in-Err-clause-back
returns-in-Err-clause-back c =
    let free = not_refused (goal.at.returns-in-Err-clause-back c).After-old-old in
    (elim c.in-Err.ensures.does.0 [ inl e ↦ e | inr e ↦ absurd (cc) ], refl, c.in-Err.ensures.does.1)

pub returns-in-Err-clause-always : goal.returns-in-Err-clause-always
returns-in-Err-clause-always c h =
    let free = not_refused (goal.at.returns-in-Err-clause-always c).After-old-old in
    let refused = (c.in-Err.ensures.always h).0 in
    absurd (cc)
