use Rattle.std.proofs.Common.{◌∙◌, ◌++◌, ap, sym}
use Rattle.std.specs.Prelude.{option_map}
use Rattle.balise_rules.specs.Paths.{changes, needs}
use Rattle.balise_edits.specs.Places.{path_of}
use Rattle.balise_edits.specs.Needs.{but}
use Rattle.balise_edits.proofs.Meets.{any-here, any-more}
use Rattle.balise_edits.proofs.overlaps.any_changed_meets.Goals as goal

pub returns-then-meets_touched : goal.returns-then-meets_touched
returns-then-meets_touched c = sym (c.loop-i.invariant ∙ any-here (path_of c.in-Some.place) (changes c.args.entry.now) (but (option_map path_of c.args.out.now) (changes c.args.later.now) ++ needs c.args.later.now) c.loop-i.i (sym c.changed-found.ensures ∙ ap (option_map path_of) c.in-Some.is) (sym c.meets_touched.ensures ∙ c.if-meets_touched.true))

pub loop-i-preserved : goal.loop-i-preserved
loop-i-preserved c = c.loop-i.invariant ∙ any-more (path_of c.in-Some.place) (changes c.args.entry.now) (but (option_map path_of c.args.out.now) (changes c.args.later.now) ++ needs c.args.later.now) c.loop-i.i (sym c.changed-found.ensures ∙ ap (option_map path_of) c.in-Some.is) (sym c.meets_touched.ensures ∙ c.if-meets_touched.false)
