use Rattle.std.proofs.Common.{◌≡◌, ◌≢◌, ◌==◌, ◌++◌, ◌∙◌, ℕ, List, [], ◌∷◌, length, false, rules, subst, take, Option}
use Rattle.std.specs.Io.KnownBytes.{Appends}
use Rattle.std.proofs.KnownBytes.{Appends-kept, Appends-nil, Appends-trans}
use Rattle.balise_lines.proofs.PartsWritten.{wrote_and_failed}
use Rattle.balise_lines.proofs.WrittenTexts.{rest_shrinks}
use Rattle.balise_lines.proofs.putting.put.Goals as goal

pub writes-preserved : goal.writes-preserved
writes-preserved g c =
    let done = c.writes.invariant.1.0 in
    let rest = c.writes.rest.now in
    let taken = c.in-Ok.taken in (
      c.in-Ok.ensures.count.0 (search rules) ∙ c.writes.invariant.0,
      (done ++ take taken rest, rest_shrinks _ done rest taken c.writes.invariant.1.1, Appends-trans _ _ _ _ _ c.writes.invariant.1.2 c.in-Ok.ensures.bytes),
    )

-- while the loop goes on, something is left
some_left : (rest : List ℕ) → false ≡ (length rest == 0) → rest ≢ []
some_left [] e = absurd cc
some_left (b ∷ rest) e = λ h. absurd cc

took_none : (old new : Option (List ℕ)) (rest : List ℕ) (n : ℕ) → n ≡ 0 → Appends old new (take n rest) → Appends old new []
took_none old new rest n e a = subst (λ (k : ℕ). Appends old new (take k rest)) e a

pub returns-in-Ok-eq0 : goal.returns-in-Ok-eq0
returns-in-Ok-eq0 g c =
    let (unfailed, done) = c.writes.invariant in
    wrote_and_failed _ _ c.writes.rest.now _ c.writes.writer _ (record { done = done.0; appended = done.2; all = done.1; unfailed = unfailed }) (some_left _ c.writes-test.ensures) (took_none _ _ c.writes.rest.now _ c.in-Ok-eq0.field-0-test c.in-Ok-eq0.ensures.bytes) (c.in-Ok-eq0.ensures.count.2 c.in-Ok-eq0.field-0-test (search rules))

pub returns-in-Err : goal.returns-in-Err
returns-in-Err g c =
    let (unfailed, done) = c.writes.invariant in
    wrote_and_failed _ _ c.writes.rest.now _ c.writes.writer _ (record { done = done.0; appended = done.2; all = done.1; unfailed = unfailed }) (some_left _ c.writes-test.ensures) (Appends-kept _ _ _ [] (Appends-nil _) c.in-Err.ensures.bytes) c.in-Err.ensures.count
