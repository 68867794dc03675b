-- What was read up to some line, and what is read or run after it.
use Rattle.std.proofs.Common.{◌≡◌, ◌∙◌, ℕ, Option, Result, Ok, Err, subst, sym}
use Rattle.balise_lines.specs.declared.counted.Counted.{Counted}
use Rattle.balise_lines.specs.declared.lines.Lines.{Lines}
use Rattle.balise_text.specs.Texts.{Text}
use Rattle.balise_text.specs.declared.run_fault.RunFault.{RunFault}
use Rattle.balise_cli.specs.Output.{Good, Phase, Read}
use Rattle.balise_cli.specs.Progress.{HasCome, IsReadAs, Ran, RanToFault, ReadsAs, RunsOn}
use Rattle.balise_cli.specs.declared.asked.Asked.{Asked}
use Rattle.balise_cli.specs.declared.status.Status.{Status}

module _ {R A : Type 0} (remaining : R → Option Text) (p first : Phase) (at : p ≡ first) (l m : Lines) (reader mid : Counted R) (a : A) (read_as : A → Read) (read : ReadsAs p l m remaining reader mid (Ok a) read_as) where
  came : (asked : Asked) (had old now : Option Text) (rd : Read) → read_as a ≡ rd → HasCome asked had old first l (remaining reader.inner) now → IsReadAs asked had old m (remaining mid.inner) now rd
  came asked had old now rd e go =
      subst (IsReadAs asked had old m (remaining mid.inner) now) e (read.1 asked had old now (subst (λ (x : Phase). HasCome asked had old x l (remaining reader.inner) now) (sym at) go))

  -- it is read as the same of another kind
  pub read_so : {B : Type 0} (b : B) (to : B → Read) → read_as a ≡ to b → ReadsAs first l m remaining reader mid (Ok b) to
  read_so b to e = (read.0, λ asked had old now go. came asked had old now (to b) e go)

  -- more is read after it
  pub read_on : {B : Type 0} (q : Phase) (n : Lines) (readers : Counted R) (result : Result B RunFault) (to : B → Read) → read_as a ≡ Good q → ReadsAs q m n remaining mid readers result to → ReadsAs first l n remaining reader readers result to
  read_on q n readers (Ok b) to e next = (next.0 ∙ read.0, λ asked had old now go. next.1 asked had old now (came asked had old now (Good q) e go))
  read_on q n readers (Err f) to e next = λ asked had old now writes go.
      subst (λ (k : ℕ). RanToFault asked had (remaining readers.inner) old now k readers.failed writes writes f) read.0 (next asked had old now writes (came asked had old now (Good q) e go))

  -- the run goes on after it
  pub run_on : {W : Type 0} (contents : W → Option Text) (asked : Asked) (q : Phase) (readers : Counted R) (writer writers : Counted W) (result : Result Status RunFault) → read_as a ≡ Good q
      → RunsOn asked q m remaining contents mid readers writer writers result → RunsOn asked first l remaining contents reader readers writer writers result
  run_on contents asked q readers writer writers result e next = λ had old go.
      subst (λ (k : ℕ). Ran asked had (remaining readers.inner) old (contents writers.inner) k readers.failed writer.failed writers.failed result) read.0 (next had old (came asked had old (contents writer.inner) (Good q) e go))
