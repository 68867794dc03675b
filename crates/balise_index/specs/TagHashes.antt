-- What tags are hashed to. Nothing rests on it but where a map looks first.
use Rattle.std.specs.Prelude.{ℕ, ◌+◌, ◌*◌, ◌%◌, ◌^◌, List, length, if◌then◌else◌, nat_eq, nat_lt, slice_index, bit_and, bit_or}
use Rattle.balise_index.specs.declared.tag_hasher.TagHasher.{TagHasher}

abbrev pub first : TagHasher
first = record { state = 0 }

-- the number that four bytes are, the lowest first; of others the first byte
abbrev pub number_in : List ℕ → ℕ
number_in bs =
    if nat_eq (length bs) 4 then slice_index bs 0 + slice_index bs 1 * 256 + slice_index bs 2 * 65536 + slice_index bs 3 * 16777216
    else (if nat_lt 0 (length bs) then slice_index bs 0 else 0)

abbrev pub write : TagHasher → List ℕ → TagHasher
write h bs = record { state = (h.state * 0x9e3779b1 % 2 ^ 64 + number_in bs) % 2 ^ 64 }

abbrev pub finish : TagHasher → ℕ
finish h = bit_or (bit_and h.state 0xffffff) (bit_and (h.state * 0x9e3779b1 % 2 ^ 64) 0xff000000)
