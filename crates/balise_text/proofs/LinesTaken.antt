-- What reading the next line came to, where it is known whether there was one.
use Rattle.std.proofs.Common.{◌≡◌, Bool, Option, subst}
use Rattle.balise_lines.specs.Lines.{Line}
use Rattle.balise_lines.specs.Reading.{Took, TookLine, TookNone, line_of}
use Rattle.balise_lines.specs.declared.lines.Lines.{Lines}
use Rattle.balise_lines.specs.declared.lines.Next.{Next}
use Rattle.balise_lines.specs.declared.lines.Next.TheVariants as next
use Rattle.balise_text.specs.Texts.{Text}

-- the line that was read last
abbrev pub line_at : Lines → Bool → Line
line_at lines is_ended = record { bytes = line_of lines; is_ended = is_ended }

pub took_line : (found : Next) (is_ended : Bool) (old new : Lines) (had has : Option Text) → found ≡ next.Line is_ended → Took found old had new has → TookLine old had (line_at new is_ended) new has
took_line found is_ended old new had has is took = subst (λ x. Took x old had new has) is took

pub took_none : (found : Next) (old new : Lines) (had has : Option Text) → found ≡ next.End → Took found old had new has → TookNone old had new has
took_none found old new had has is took = subst (λ x. Took x old had new has) is took
