-- The words of a line, and what one word says (this project's text).
use Rattle.std.specs.Prelude.{ℕ, ◌+◌, ◌-◌, ◌*◌, ◌==◌, ◌&&◌, nat_le, Bool, true, if◌then◌else◌, List, [], ◌∷◌, Option, Some, None, Result, Ok, Err}
use Rattle.balise_rules.specs.declared.identity.Id.{Id}
use Rattle.balise_rules.specs.declared.refusal.Refusal.{Refusal}
use Rattle.balise_rules.specs.declared.refusal.Refusal.TheVariants.{BadLine}

-- the bytes of a word
abbrev pub Word : Type 0
Word = List ℕ

-- the byte goes onto the first word
abbrev pub onto_first : ℕ → List Word → List Word
onto_first b [] = (b ∷ []) ∷ []
onto_first b (w ∷ ws) = (b ∷ w) ∷ ws

-- the parts of a text between separators: one more than there are separators
abbrev pub parts_of : ℕ → Word → List Word
parts_of mark [] = [] ∷ []
parts_of mark (b ∷ bs) = if b == mark then [] ∷ parts_of mark bs else onto_first b (parts_of mark bs)

-- words stand apart by one space, 32
abbrev pub words_of : Word → List Word
words_of line = parts_of 32 line

-- `0` is 48, `9` 57
abbrev pub is_digit : ℕ → Bool
is_digit b = nat_le 48 b && nat_le b 57

abbrev pub all_digits : Word → Bool
all_digits [] = true
all_digits (b ∷ bs) = is_digit b && all_digits bs

-- the value of digits, after a value
abbrev pub value_after : ℕ → Word → ℕ
value_after n [] = n
value_after n (b ∷ bs) = value_after (n * 10 + (b - 48)) bs

abbrev pub most_number : ℕ
most_number = 4294967295

-- the value of digits after a value, which is at most 4294967295
abbrev pub value_from : ℕ → Word → Option ℕ
value_from n w = if all_digits w && nat_le (value_after n w) most_number then Some (value_after n w) else None

-- a decimal number: `0`, or digits without a leading zero
abbrev pub number_of : Word → Option ℕ
number_of [] = None
number_of (b ∷ []) = value_from 0 (b ∷ [])
number_of (b ∷ c ∷ bs) = if b == 48 then None else value_from 0 (b ∷ c ∷ bs)

-- what the next word says, and the words after it; none where no word comes, or it doesn't say such a thing
abbrev pub with_words : {A : Type 0} → Option A → List Word → Option (A × List Word)
with_words None ws = None
with_words (Some x) ws = Some (x, ws)

abbrev pub taken : {A : Type 0} → (Word → Option A) → List Word → Option (A × List Word)
taken says [] = None
taken says (w ∷ ws) = with_words (says w) ws

-- what was taken, and then what follows
abbrev pub and_then : {A B : Type 0} → Option (A × List Word) → (A → List Word → Option B) → Option B
and_then None next = None
and_then (Some p) next = next p.0 p.1

-- no word comes any more
abbrev pub no_more : {A : Type 0} → List Word → A → Option A
no_more [] x = Some x
no_more (w ∷ ws) x = None

-- an identity: country and number with a point, 46, between them
abbrev pub id_of : Word → Option Id
id_of w = and_then (taken number_of (parts_of 46 w)) (λ c ps. and_then (taken number_of ps) (λ n ps. no_more ps (record { country = c; number = n })))

-- what a line says, or that it is outside the grammar
abbrev pub or_bad : {A : Type 0} → Option (Result A Refusal) → Result A Refusal
or_bad None = Err BadLine
or_bad (Some r) = r

-- what was read, as part of something else; a fault stays
abbrev pub read_as : {A B : Type 0} → (A → B) → Result A Refusal → Result B Refusal
read_as f (Err r) = Err r
read_as f (Ok x) = Ok (f x)
