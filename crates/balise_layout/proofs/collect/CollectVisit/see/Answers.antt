-- The field that comes last has the number of its occurrence.
use Rattle.std.proofs.Common.{◌≡◌, ◌++◌, ◌∷◌, [], ℕ, sym, ap, subst, ◌∙◌}
use Rattle.balise_rules.specs.Forms.{Numbered, count_of}
use Rattle.balise_layout.specs.Collected.{all_keyed}
use Rattle.balise_layout.proofs.Counts.{Numbered-push, all_keyed-push}
use Rattle.balise_layout.proofs.collect.CollectVisit.see.Goals as goal

pub invariant_of-self-2 : goal.invariant_of-self-2
invariant_of-self-2 c =
    let items = c.self.inside.fields.items in
    let occurrence : c.in-Ok.occurrence ≡ count_of c.args.var (all_keyed items) = c.in-Ok.ensures.1 ∙ c.count.ensures ∙ ap (count_of c.args.var) (sym c.self.view_is) in
    let pushed : c.push.new.self.items ≡ items ++ (c.args.var, c.in-Ok.occurrence, c.args.value) ∷ [] = c.in_ok-push.ensures.items ∙ ap (λ l. l ++ (c.args.var, c.in-Ok.occurrence, c.args.value) ∷ []) c.make_room.ensures in
    let new : all_keyed c.push.new.self.items ≡ all_keyed items ++ ((c.args.var, count_of c.args.var (all_keyed items)), c.args.value) ∷ [] = ap all_keyed pushed ∙ all_keyed-push items c.args.var c.in-Ok.occurrence c.args.value ∙ ap (λ (k : ℕ). all_keyed items ++ ((c.args.var, k), c.args.value) ∷ []) occurrence in
    subst Numbered (sym new) (Numbered-push (all_keyed items) c.args.var c.args.value c.self.invariant)
