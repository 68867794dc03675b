-- What is written of a text.
use Rattle.std.specs.Prelude.{◌≡◌, ◌≢◌, ℕ, List, [], ◌++◌, Option, Result, MatchResult}
use Rattle.std.specs.Io.KnownBytes.{Appends}
use Rattle.balise_lines.specs.Counts.{one_more}
use Rattle.balise_lines.specs.declared.counted.Counted.{Counted}

-- the first is a beginning of the second, which may be nothing or all of it
abbrev pub IsPrefixOf : List ℕ → List ℕ → Type 0
IsPrefixOf done text = (rest : List ℕ) × (done ++ rest ≡ text)

-- a beginning of the text was written
pub record AppendsSome (old new : Option (List ℕ)) (text : List ℕ) : Type 0 where
  pub done : List ℕ
  pub begins : IsPrefixOf done text
  pub appended : Appends old new done

-- the same, and something of it is left
abbrev pub IsPartOf : List ℕ → List ℕ → Type 0
IsPartOf done text = (rest : List ℕ) × ((done ++ rest ≡ text) × (rest ≢ []))

-- a beginning of the text was written, and not all of it
abbrev pub AppendsPart : Option (List ℕ) → Option (List ℕ) → List ℕ → Type 0
AppendsPart old new text = (w : AppendsSome old new text) × (w.begins.0 ≢ [])

-- all of the text was written, and no call failed
pub record WritesAll {W : Type 0} (contents : W → Option (List ℕ)) (old new : Counted W) (text : List ℕ) : Type 0 where
  pub appended : Appends (contents old.inner) (contents new.inner) text
  pub unfailed : new.failed ≡ old.failed

-- why a text wasn't written to its end: the last call failed, or what wasn't a call, or there is no reason
pub data Reason : Type 0 where
  LastFailed : Reason
  NoneFailed : Reason
  Never : Reason

-- the number of failed calls before the reason and after it
abbrev pub CountsFor : Reason → ℕ → ℕ → Type 0
CountsFor LastFailed before after = after ≡ one_more before
CountsFor NoneFailed before after = after ≡ before
CountsFor Never before after = ⊥

-- what was still to be written: a writer stops early only if something was
abbrev pub Leaves : Reason → List ℕ → Type 0
Leaves LastFailed rest = rest ≢ []
Leaves NoneFailed rest = rest ≢ []
Leaves Never rest = ⊥

-- A beginning of the text was written, and then this stopped it.
pub record WritesSome {W : Type 0} (why : Reason) (contents : W → Option (List ℕ)) (old new : Counted W) (text : List ℕ) : Type 0 where
  pub begun : AppendsSome (contents old.inner) (contents new.inner) text
  pub cause : CountsFor why old.failed new.failed
  pub left : Leaves why begun.begins.0

-- all of the text was written and no call failed, or a beginning of it, not all, and the last call failed
abbrev pub Writes : {W A E : Type 0} → (W → Option (List ℕ)) → Counted W → Counted W → Result A E → List ℕ → Type 0
Writes contents old new r text = MatchResult r (λ _. WritesAll contents old new text) (λ _. WritesSome LastFailed contents old new text)
