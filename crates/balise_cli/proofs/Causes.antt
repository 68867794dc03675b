-- A text that a fault stopped.
use Rattle.std.proofs.Common.{◌≡◌, ◌≢◌, ℕ, List, [], ◌++◌, Option, sym, subst}
use Rattle.balise_lines.specs.declared.counted.Counted.{Counted}
use Rattle.balise_lines.specs.Writing.{LastFailed, NoneFailed, WritesAll, WritesSome}
use Rattle.balise_cli.proofs.Stopped.{nothing_yet}
use Rattle.balise_text.proofs.TextsBehind.{some_behind}
use Rattle.balise_text.specs.Printing.{reason_of}
use Rattle.balise_text.specs.declared.run_fault.RunFault.{RunFault}
use Rattle.balise_text.specs.declared.run_fault.RunFault.TheVariants.{OutOfMemory, WriteFault}

-- a call failed
pub call_failed : {W : Type 0} (contents : W → Option (List ℕ)) (old new : Counted W) (text : List ℕ) (fault : RunFault) → fault ≡ WriteFault → WritesSome LastFailed contents old new text → WritesSome (reason_of fault) contents old new text
call_failed contents old new text fault e s = subst (λ f. WritesSome (reason_of f) contents old new text) (sym e) s

-- memory ran out after a first part
pub memory_wanted : {W : Type 0} (contents : W → Option (List ℕ)) (old now : Counted W) (text xs ys : List ℕ) → text ≡ xs ++ ys → ys ≢ [] → WritesAll contents old now xs → WritesSome (reason_of OutOfMemory) contents old now text
memory_wanted contents old now text xs ys e h a =
    some_behind NoneFailed contents text xs ys old now now e a (nothing_yet contents now ys h)
