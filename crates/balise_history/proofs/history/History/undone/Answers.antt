use Rattle.std.proofs.Common.{◌≡◌, ◌∙◌, ℕ, List, [], ◌∷◌, ◌++◌, map, reverse, take, sym, ap, arith}
use Rattle.std.proofs.lemmas.List.{map_more}
use Rattle.balise_history.specs.declared.history.Undone.{Undone}
use Rattle.balise_history.specs.Lists.{History, Gone, gone_of}
use Rattle.balise_history.proofs.Stacked.{serial_of, stacked}
use Rattle.balise_history.proofs.history.History.undone.Goals as goal

pub loop-undone-preserved : goal.loop-undone-preserved
loop-undone-preserved c =
    let us : List Undone = c.deref-undone-items.result.now in
    let p : c.push.new.self.items ≡ c.loop-undone.serials.items ++ c.serial.result ∷ [] = c.in_ok-push.ensures.items in
    let s : c.serial.result ≡ serial_of c.undone-item.result = c.serial.ensures in
    p ∙ ap (λ (ns : List ℕ). ns ++ c.serial.result ∷ []) c.loop-undone.invariant
    ∙ ap (λ (n : ℕ). map serial_of (take c.loop-undone.undone-index us) ++ n ∷ []) (s ∙ ap serial_of c.undone-item.is)
    ∙ sym (map_more serial_of us c.loop-undone.undone-index c.undone-item.result c.loop-undone-test.true)

pub returns-clause-ok : goal.returns-clause-ok
returns-clause-ok c =
    let us : List Undone = c.deref-undone-items.result.now in
    c.loop-undone.invariant ∙ stacked us c.loop-undone.undone-index (omega arith)
    ∙ ap (λ (xs : List Undone). reverse (map (λ (r : Gone). r.0.0.0) (map gone_of (reverse xs)))) c.deref-undone-items.ensures.value
    ∙ ap (λ (h : History). reverse (map (λ (r : Gone). r.0.0.0) h.stack)) c.self.view_is
