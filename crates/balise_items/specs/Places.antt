-- Where the lines of an item have come, and which line may follow there.
use Rattle.std.specs.Prelude.{ℕ, Some}
use Rattle.balise_fields.specs.declared.field_line.FieldLine.{FieldLine}
use Rattle.balise_fields.specs.declared.field_line.FieldLine.TheVariants as line
use Rattle.balise_items.specs.declared.place.Place.{Place}
use Rattle.balise_items.specs.declared.place.Place.TheVariants.{Header, Packet, Rest, End, Padding, Alone, AloneRest, Bad}

-- to where the first line leads, which has this number
abbrev pub begins_at : FieldLine → ℕ → Place
begins_at (line.Telegram (Some bits)) n = Header
begins_at (line.Alone (Some version)) n = Alone
begins_at _ n = Bad n

abbrev pub after_header : FieldLine → ℕ → Place
after_header (line.Field v x) n = Header
after_header line.Packet n = Packet
after_header line.End n = End
after_header _ n = Bad n

abbrev pub after_packet : FieldLine → ℕ → Place
after_packet (line.Field v x) n = Packet
after_packet (line.Rest b) n = Rest
after_packet line.Packet n = Packet
after_packet line.End n = End
after_packet _ n = Bad n

abbrev pub after_rest : FieldLine → ℕ → Place
after_rest line.Packet n = Packet
after_rest line.End n = End
after_rest _ n = Bad n

abbrev pub after_end : FieldLine → ℕ → Place
after_end (line.Padding b) n = Padding
after_end _ n = Bad n

abbrev pub after_alone : FieldLine → ℕ → Place
after_alone (line.Field v x) n = Alone
after_alone (line.Rest b) n = AloneRest
after_alone _ n = Bad n

-- to where the next line leads, which has this number; after a line that may not stand there, nowhere else
abbrev pub after : Place → FieldLine → ℕ → Place
after Header l n = after_header l n
after Packet l n = after_packet l n
after Rest l n = after_rest l n
after End l n = after_end l n
after Padding l n = Bad n
after Alone l n = after_alone l n
after AloneRest l n = Bad n
after (Bad m) l n = Bad m
