-- Which facts a call asks for, by numbers.
use Rattle.std.specs.Prelude.{ℕ, zero, suc}
use Rattle.balise_facts.specs.declared.facts.Facts.{Facts}
use Rattle.balise_facts.specs.declared.facts.Facts.TheVariants.{Edits, Edit, Tags}

-- those of all edits that stand, of one edit, or the tags
abbrev pub facts_of : ℕ → ℕ → Facts
facts_of zero serial = Edits
facts_of (suc zero) serial = Edit serial
facts_of what serial = Tags
