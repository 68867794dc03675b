-- The bits of a telegram as it is given, or the first reason why there are none.
use Rattle.std.specs.Prelude.{◌-◌, ◌==◌, ◌&&◌, ℕ, Bool, true, false, List, [], ◌∷◌, ◌++◌, length, Option, Some, None, Result, Ok, Err, if◌then◌else◌}
use Rattle.balise_rules.specs.Bits.{bits, ones}
use Rattle.balise_rules.specs.Telegram.{header}
use Rattle.balise_codec.specs.declared.misfit.Misfit.{Misfit}
use Rattle.balise_codec.specs.Misfits.{misfit_along}
use Rattle.balise_codec.specs.Spelling.{Values, laid}
use Rattle.balise_items.specs.declared.place.Place.{Place}
use Rattle.balise_items.specs.declared.place.Place.TheVariants.{End, Padding}
use Rattle.balise_items.specs.declared.reason.Bad.{Bad}
use Rattle.balise_items.specs.declared.reason.Reason.TheVariants.{NoEnd, BadLength, NotABalise}
use Rattle.balise_items.specs.Items.{GivenItem}
use Rattle.balise_items.specs.Packets.{packets_of}
use Rattle.balise_items.specs.Reasons.{bad, joined, line_of, reason_of}
use Rattle.balise_items.specs.Sections.{Given}

abbrev pub header_fitting : Given → Option (ℕ × Misfit) → Result (List Bool) Bad
header_fitting s None = Ok (laid s.values)
header_fitting s (Some x) = Err (bad (line_of s x.0) (reason_of x.1))

-- the bits of a header, or its first value that doesn't fit
abbrev pub header_of : Given → Result (List Bool) Bad
header_of s = header_fitting s (misfit_along header 0 s.values)

-- M_VERSION, the second field of a header
abbrev pub version_given : Values → ℕ
version_given (updown ∷ version ∷ vs) = version.1
version_given _ = 0

-- Q_UPDOWN, the first, is 1, and Q_MEDIA, the third, is 0
abbrev pub is_balise_given : Values → Bool
is_balise_given (updown ∷ version ∷ media ∷ vs) = updown.1 == 1 && media.1 == 0
is_balise_given _ = false

-- the header among the sections of a telegram
abbrev pub head_of : List Given → Given → Given
head_of [] last = last
head_of (head ∷ packets) last = head

-- the bits of a header and of the packets after it
abbrev pub front_of : List Given → Given → Result (List Bool) Bad
front_of [] last = header_of last
front_of (head ∷ packets) last = joined (header_of head) (packets_of (version_given head.values) (packets ++ last ∷ []))

-- whether the lines have come to packet 255
abbrev pub has_end : Place → Bool
has_end End = true
has_end Padding = true
has_end _ = false

-- with the padding as it is given, or else with ones up to this number of bits
abbrev pub padded : ℕ → List Bool → List Bool → List Bool
padded due [] b = b ++ ones (due - length b)
padded due (x ∷ xs) b = b ++ (x ∷ xs)

-- bits of this number, of a balise's telegram
abbrev pub checked : ℕ → ℕ → Bool → List Bool → Result (List Bool) Bad
checked line due balise b =
    if length b == due then (if balise then Ok b else Err (bad line NotABalise)) else Err (bad line (BadLength (length b)))

-- the bits up to the end of the packets, and those after them
abbrev pub whole_telegram : ℕ → GivenItem → Result (List Bool) Bad → Result (List Bool) Bad
whole_telegram end i (Err e) = Err e
whole_telegram end i (Ok b) =
    if has_end i.place then checked (head_of i.before i.last).line i.number (is_balise_given (head_of i.before i.last).values) (padded i.number i.padding (b ++ bits 8 255))
    else Err (bad end NoEnd)

-- the bits of a telegram whose lines end before the line of this number, or the first reason why there are none
abbrev pub telegram_of : ℕ → GivenItem → Result (List Bool) Bad
telegram_of end i = whole_telegram end i (front_of i.before i.last)
