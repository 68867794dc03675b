use Rattle.std.proofs.Common.{◌↔◌, IfErr, IfOk, IsTrue, OnOk, Result, Ok, Err, List, codes}
use Rattle.balise_arguments.specs.Arguments.{AreAccepted, IsUsed, program}
use Rattle.balise_arguments.specs.Faults.{IsFaultOf}
use Rattle.balise_arguments.specs.declared.fault.ArgsFault.{ArgsFault}
use Rattle.balise_arguments.specs.declared.options.Flags.{Flags}
use Rattle.balise_text.specs.Texts.{Text}
use Rattle.balise_cli.specs.Program.{Asks}
use Rattle.balise_cli.proofs.program.BaliseplanProgram.ask.Goals as goal

-- flags that are read, or the fault, are what the words ask for
asked : (words : List Text) (r : Result Flags ArgsFault)
    → IfOk r (λ f. IsTrue f.quiet ↔ IsUsed (codes "quiet") words) → IfOk r (λ f. IsTrue f.stop ↔ IsUsed (codes "stop") words)
    → IfOk r (λ f. IsTrue f.journal ↔ IsUsed (codes "journal") words) → IfOk r (λ f. IsTrue f.json ↔ IsUsed (codes "json") words)
    → OnOk r (AreAccepted words) → IfErr r (IsFaultOf program words) → Asks words r
asked words (Ok flags) quiet stop journal json ok fault = (quiet, stop, journal, json, ok)
asked words (Err e) quiet stop journal json ok fault = fault

pub returns : goal.returns
returns c = asked _ c.flags.result c.flags.ensures.quiet c.flags.ensures.stop c.flags.ensures.journal c.flags.ensures.json c.flags.ensures.ok c.flags.ensures.fault
