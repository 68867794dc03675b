-- The line of what is to be looked at after a turn, with its end.
use Rattle.std.specs.Prelude.{List, [], ◌∷◌, codes, decimal}
use Rattle.balise_rules.specs.declared.identity.Id.{Id}
use Rattle.balise_rules.specs.declared.review.Reviewed.{Reviewed}
use Rattle.balise_rules.specs.declared.review.Reviewed.TheVariants.{Field, Opaque}
use Rattle.balise_rules.specs.declared.review.ReviewLine.{ReviewLine}
use Rattle.balise_rules.specs.Variables.{name_of}
use Rattle.balise_text.specs.Texts.{Text, with_marks, whole_line}

-- country and number with a point, 46, between them
abbrev pub id_text : Id → Text
id_text i = with_marks 46 (decimal i.country ∷ decimal i.number ∷ [])

-- VAR K VALUE of a distance, or the NID_PACKET of a packet that isn't known
abbrev pub reviewed_words : Reviewed → List Text
reviewed_words (Field v k n) = name_of v ∷ decimal k ∷ decimal n ∷ []
reviewed_words (Opaque n) = codes "opaque" ∷ decimal n ∷ []

-- review C.N PIG PKT ..
abbrev pub review_line : ReviewLine → Text
review_line w = whole_line (codes "review" ∷ id_text w.id ∷ decimal w.pig ∷ decimal w.pkt ∷ reviewed_words w.what)
