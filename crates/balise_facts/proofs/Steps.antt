-- The line of a place is written step by step.
use Rattle.std.proofs.Common.{◌≡◌, ℕ, List, [], ◌∷◌, ◌++◌, Option, Result, codes, append_assoc}
use Rattle.balise_lines.specs.Writing.{LastFailed, Writes, WritesAll, WritesSome}
use Rattle.balise_lines.specs.declared.counted.Counted.{Counted}
use Rattle.balise_text.specs.Texts.{Text}
use Rattle.balise_facts.proofs.Sequences.{begun_first, done_next}

after_step : (step done rest : Text) (mark : ℕ) → done ≡ step →
    (step ++ mark ∷ rest) ++ codes "\n" ≡ (done ++ mark ∷ []) ++ (rest ++ codes "\n")
after_step step done rest mark e = simp (e, append_assoc)

-- a step and the mark after it were begun
pub step_begun : {W : Type 0} (contents : W → Option (List ℕ)) (step done rest : Text) (mark : ℕ)
    (old new : Counted W) → done ≡ step → WritesSome LastFailed contents old new (done ++ mark ∷ []) →
    WritesSome LastFailed contents old new ((step ++ mark ∷ rest) ++ codes "\n")
step_begun contents step done rest mark old new e s = rw (after_step step done rest mark e)
    (begun_first (rest ++ codes "\n") s)

-- they were written, and then the rest of the line was, or was begun
pub step_behind : {W A E : Type 0} (contents : W → Option (List ℕ)) (r : Result A E) (step done rest : Text) (mark : ℕ)
    (old now new : Counted W) → done ≡ step → WritesAll contents old now (done ++ mark ∷ []) →
    Writes contents now new r (rest ++ codes "\n") →
    Writes contents old new r ((step ++ mark ∷ rest) ++ codes "\n")
step_behind contents r step done rest mark old now new e w s = rw (after_step step done rest mark e)
    (done_next (λ _. LastFailed) contents r (done ++ mark ∷ []) (rest ++ codes "\n") old now new w s)
