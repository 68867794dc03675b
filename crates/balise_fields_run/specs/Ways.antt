-- A run either way, and how it ended.
use Rattle.std.specs.Prelude.{ℕ, Option, Result}
use Rattle.balise_text.specs.Texts.{Text}
use Rattle.balise_text.specs.declared.run_fault.RunFault.{RunFault}
use Rattle.balise_fields_run.specs.Explained.{Ran}
use Rattle.balise_fields_run.specs.Spelt.{Spelled}
use Rattle.balise_fields_run.specs.declared.status.Status.{Status}
use Rattle.balise_fields_run.specs.declared.way.Way.{Way}
use Rattle.balise_fields_run.specs.declared.way.Way.TheVariants.{Explain, Spell}

-- how a run of this way ended
abbrev pub RanBy : Way → (had has old new : Option Text) → (read reads written writes : ℕ) → Result Status RunFault → Type 0
RanBy Explain had has old new read reads written writes result = Ran had has old new read reads written writes result
RanBy Spell had has old new read reads written writes result = Spelled had has old new read reads written writes result
