-- What is put together from the end of a line.
use Rattle.std.specs.Prelude.{drop}
use Rattle.balise_text.specs.Texts.{Text}
use Rattle.balise_text.specs.declared.line_end.LineEnd.{LineEnd}

-- the text that was put in
abbrev pub ending : LineEnd → Text
ending e = drop e.start e.bytes
