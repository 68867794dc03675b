-- Words that say where: tags, anchors, neighbours and paths, as they are printed and as they are read.
use Rattle.std.specs.Prelude.{ℕ, ◌==◌, ◌++◌, if◌then◌else◌, [], ◌∷◌, codes, decimal, bytes_eq, Option, Some, None, option_map}
use Rattle.balise_rules.specs.declared.tag.Tag.{Tag}
use Rattle.balise_rules.specs.declared.tag.Tag.TheVariants.{Base, Fresh}
use Rattle.balise_text.specs.Texts.{Text, with_marks}
use Rattle.balise_text.specs.Words.{Word, parts_of, number_of, taken, and_then, no_more}

-- Printed.

-- a tag: `b` and the place in what was read, or `n` and the serial of the edit that put it in
abbrev pub tag_text : Tag → Text
tag_text (Base n) = codes "b" ++ decimal n
tag_text (Fresh n) = codes "n" ++ decimal n

-- what an edit stands directly after: a tag, or the start
abbrev pub anchor_text : Option Tag → Text
anchor_text None = codes "^"
anchor_text (Some a) = tag_text a

-- what stood directly after it: a tag, or the end
abbrev pub neighbour_text : Option Tag → Text
neighbour_text None = codes "$"
neighbour_text (Some b) = tag_text b

-- the parts of a path stand apart by `/`, 47: G/T
abbrev pub telegram_path : Tag → ℕ → Text
telegram_path g t = with_marks 47 (tag_text g ∷ decimal t ∷ [])

-- G/T/P
abbrev pub packet_path : Tag → ℕ → Tag → Text
packet_path g t p = with_marks 47 (tag_text g ∷ decimal t ∷ tag_text p ∷ [])

-- Read. `b` is 98, `n` 110.

abbrev pub tag_of : Word → Option Tag
tag_of [] = None
tag_of (b ∷ bs) = if b == 98 then option_map Base (number_of bs) else if b == 110 then option_map Fresh (number_of bs) else None

-- a tag, or a mark where there is none
abbrev pub tag_or : Word → Word → Option (Option Tag)
tag_or mark w = if bytes_eq w mark then Some None else option_map Some (tag_of w)

abbrev pub anchor_of : Word → Option (Option Tag)
anchor_of w = tag_or (codes "^") w

abbrev pub neighbour_of : Word → Option (Option Tag)
neighbour_of w = tag_or (codes "$") w

abbrev pub telegram_path_of : Word → Option (Tag × ℕ)
telegram_path_of w = and_then (taken tag_of (parts_of 47 w)) (λ g ps. and_then (taken number_of ps) (λ t ps. no_more ps (g, t)))

abbrev pub packet_path_of : Word → Option (Tag × ℕ × Tag)
packet_path_of w = and_then (taken tag_of (parts_of 47 w)) (λ g ps. and_then (taken number_of ps) (λ t ps. and_then (taken tag_of ps) (λ p ps. no_more ps (g, t, p))))
