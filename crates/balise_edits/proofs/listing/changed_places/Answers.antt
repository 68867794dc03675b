use Rattle.std.proofs.Common.{◌∙◌, ◌++◌, [], ◌∷◌, map, ap, sym, rules}
use Rattle.std.proofs.lemmas.List.{map-append}
use Rattle.balise_rules.specs.Paths.{changes}
use Rattle.balise_edits.specs.Places.{path_of}
use Rattle.balise_edits.proofs.Steps.{take-more}
use Rattle.balise_edits.proofs.listing.changed_places.Goals as goal

pub loop-i-preserved : goal.loop-i-preserved
loop-i-preserved c =
    ap (map path_of) c.in_ok-push.ensures.items
    ∙ map-append path_of c.loop-i.places.items (c.in-Some.place ∷ [])
    ∙ ap (λ ps. ps ++ path_of c.in-Some.place ∷ []) c.loop-i.invariant
    ∙ sym (take-more (changes c.args.entry.now) c.loop-i.i (path_of c.in-Some.place) (sym c.in-Some.ensures))

pub loop-i-init : goal.loop-i-init
loop-i-init c = search rules
