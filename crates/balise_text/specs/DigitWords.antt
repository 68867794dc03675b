-- Words of hexadecimal digits: a packet's, and those of the telegrams of a group, one after another.
use Rattle.std.specs.Prelude.{ℕ, ◌==◌, ◌&&◌, Bool, true, false, if◌then◌else◌, List, [], ◌∷◌, length, Option, Some, None, Result, Ok, Err}
use Rattle.balise_rules.specs.declared.refusal.Refusal.{Refusal}
use Rattle.balise_rules.specs.Digits.{read_hex}
use Rattle.balise_text.specs.Words.{Word}

-- a word of digits is never empty; its bytes are looked at where the whole line is of the grammar
abbrev pub is_some_word : Word → Bool
is_some_word [] = false
is_some_word (b ∷ bs) = true

abbrev pub some_word : Word → Option Word
some_word w = if is_some_word w then Some w else None

-- at least one word of digits
abbrev pub have_digits : List Word → Bool
have_digits [] = false
have_digits (w ∷ []) = is_some_word w
have_digits (w ∷ v ∷ ws) = is_some_word w && have_digits (v ∷ ws)

abbrev pub some_words : List Word → Option (List Word)
some_words ws = if have_digits ws then Some ws else None

-- how many bits a telegram's digits are taken for: 208 digits are 830 bits, any others are to be 210
abbrev pub bits_due : ℕ → ℕ
bits_due n = if n == 208 then 830 else 210

abbrev pub with_telegram : Result (List Bool) Refusal → Result (List (List Bool)) Refusal → Result (List (List Bool)) Refusal
with_telegram (Err r) more = Err r
with_telegram (Ok b) (Err r) = Err r
with_telegram (Ok b) (Ok bs) = Ok (b ∷ bs)

-- the bits of telegrams, word by word, or the first fault
abbrev pub telegrams_in : List Word → Result (List (List Bool)) Refusal
telegrams_in [] = Ok []
telegrams_in (w ∷ ws) = with_telegram (read_hex (bits_due (length w)) w) (telegrams_in ws)
