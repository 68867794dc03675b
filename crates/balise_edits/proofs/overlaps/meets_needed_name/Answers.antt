use Rattle.std.proofs.Common.{◌∙◌, [], ◌∷◌, refl, ap, sym}
use Rattle.balise_rules.specs.Paths.{ids, meets_any, At, Start, End, After, Front}
use Rattle.balise_edits.specs.declared.path.Path as ours
use Rattle.balise_edits.specs.Places.{in_group, path_of}
use Rattle.balise_edits.specs.Needs.{needed_names}
use Rattle.balise_edits.proofs.Meets.{meets-no-name}
use Rattle.balise_edits.proofs.overlaps.meets_needed_name.Goals as goal

pub returns-in-Group : goal.returns-in-Group
returns-in-Group c = sym (ap (λ (p : ours.Path). meets_any (path_of p) (ids (needed_names c.args.entry.now))) c.in-Group.is ∙ meets-no-name (At c.in-Group.field-0) (in_group c.in-Group.field-1) (λ i. refl) (needed_names c.args.entry.now))

pub returns-in-First : goal.returns-in-First
returns-in-First c = sym (ap (λ (p : ours.Path). meets_any (path_of p) (ids (needed_names c.args.entry.now))) c.in-First.is ∙ meets-no-name Start (After ∷ []) (λ i. refl) (needed_names c.args.entry.now))

pub returns-in-Last : goal.returns-in-Last
returns-in-Last c = sym (ap (λ (p : ours.Path). meets_any (path_of p) (ids (needed_names c.args.entry.now))) c.in-Last.is ∙ meets-no-name End (Front ∷ []) (λ i. refl) (needed_names c.args.entry.now))
