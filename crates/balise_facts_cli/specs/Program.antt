-- What the program does with its input and its output.
use Rattle.std.specs.Prelude.{Option}
use Rattle.std.specs.declared.io.buffered.BufWriter.{BufWriter}
use Rattle.balise_lines.specs.declared.counted.Counted.{Counted}
use Rattle.balise_text.specs.Texts.{Text}
use Rattle.balise_facts.specs.declared.facts.Facts.{Facts}
use Rattle.balise_program.specs.declared.exit.Exit.{Exit}
use Rattle.balise_cli.specs.Asking.{facts_asked}
use Rattle.balise_cli.specs.Program.{Works}

-- a run that prints these facts at its end
abbrev pub FactsWork : {R W A : Type 0} → (R → Option Text) → (W → Option Text) → Facts → Counted R → Counted R → Counted (BufWriter W A) → Counted (BufWriter W A) → Exit → Type 0
FactsWork remaining contents facts reader reader' writer writer' exit = Works remaining contents (facts_asked facts) reader reader' writer writer' exit
