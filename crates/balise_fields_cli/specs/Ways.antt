-- Which way the program goes.
use Rattle.std.specs.Prelude.{Bool, true, false}
use Rattle.balise_fields_run.specs.declared.way.Way.{Way}
use Rattle.balise_fields_run.specs.declared.way.Way.TheVariants.{Explain, Spell}

-- by whether `--spell` is given
abbrev pub way_of : Bool → Way
way_of true = Spell
way_of false = Explain
