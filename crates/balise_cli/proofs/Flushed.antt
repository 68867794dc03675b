-- What a run wrote is still there once it is flushed.
use Rattle.std.proofs.Common.{Option, Result, Ok, Err}
use Rattle.std.specs.Io.KnownBytes.{Keeps}
use Rattle.std.proofs.KnownBytes.{Appends-kept}
use Rattle.balise_cli.specs.declared.asked.Asked.{Asked}
use Rattle.balise_text.specs.Texts.{Text}
use Rattle.balise_cli.specs.Ends.{WritesText}
use Rattle.balise_cli.specs.Runs.{Runs}
use Rattle.balise_text.specs.declared.run_fault.RunFault.{RunFault}
use Rattle.balise_cli.specs.declared.status.Status.{Status}

module _ (asked : Asked) (had has old mid new : Option Text) (k : Keeps mid new) where
  kept : {IsRead : Text → Type 0} {P : Text → Text → Type 0} → WritesText IsRead P old mid → WritesText IsRead P old new
  kept w = record { input = w.input; is_input = w.is_input; out = w.out; is_output = w.is_output; appended = Appends-kept old mid new w.out w.appended k }

  pub runs_kept : (ended : Result Status RunFault) → Runs asked had has old mid ended → Runs asked had has old new ended
  runs_kept (Ok status) w = record { held = kept w.held; ok = kept w.ok; read = kept w.read; long = λ e. kept (w.long e); memory = λ e. kept (w.memory e); complete = λ e. kept (w.complete e); full = λ e. kept (w.full e); begun = tt; some = tt }
  runs_kept (Err fault) w = record { held = tt; ok = tt; read = tt; long = λ e. kept (w.long e); memory = λ e. kept (w.memory e); complete = λ e. kept (w.complete e); full = λ e. kept (w.full e); begun = kept w.begun; some = kept w.some }
