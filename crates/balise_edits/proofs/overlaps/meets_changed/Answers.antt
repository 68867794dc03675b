use Rattle.std.proofs.Common.{◌∙◌, ap, sym}
use Rattle.std.specs.Prelude.{option_map}
use Rattle.balise_rules.specs.Paths.{changes}
use Rattle.balise_edits.specs.Places.{path_of}
use Rattle.balise_edits.proofs.Meets.{meets-here, meets-more, meets-none}
use Rattle.balise_edits.proofs.overlaps.meets_changed.Goals as goal

pub returns-in_default : goal.returns-in_default
returns-in_default c = sym (c.loop-i.invariant ∙ meets-none (option_map path_of c.args.out.now) (path_of c.args.place.now) (changes c.args.entry.now) c.loop-i.i (sym c.changed-found.ensures ∙ ap (option_map path_of) c.in_default.is))

pub returns-then-meets_other : goal.returns-then-meets_other
returns-then-meets_other c = sym (c.loop-i.invariant ∙ meets-here (option_map path_of c.args.out.now) (path_of c.args.place.now) (path_of c.in-Some.other) (changes c.args.entry.now) c.loop-i.i (sym c.changed-found.ensures ∙ ap (option_map path_of) c.in-Some.is) (sym c.meets_other.ensures ∙ c.if-meets_other.true))

pub loop-i-preserved : goal.loop-i-preserved
loop-i-preserved c = c.loop-i.invariant ∙ meets-more (option_map path_of c.args.out.now) (path_of c.args.place.now) (path_of c.in-Some.other) (changes c.args.entry.now) c.loop-i.i (sym c.changed-found.ensures ∙ ap (option_map path_of) c.in-Some.is) (sym c.meets_other.ensures ∙ c.if-meets_other.false)
