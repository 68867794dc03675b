-- Which fields follow one another in a packet or a header: a form is one line of the standard's tables after another.
use Rattle.std.specs.Prelude.{◌≡◌, ℕ, zero, suc, List, [], ◌∷◌, ◌++◌, length, take, drop, Bool, IsTrue, Option, Some, None, nat_lt, cond, if◌then◌else◌}
use Rattle.balise_rules.specs.declared.variable.Var.{Var}
use Rattle.balise_rules.specs.Variables.{width_of}
use Rattle.balise_rules.specs.Bits.{num, bits, fits}
use Rattle.balise_rules.specs.Tags.{Key, is_of}

-- fields in bit order, each under its variable and occurrence
abbrev pub Fields : Type 0
Fields = List (Key × ℕ)

-- the end, with any bits after it, or with none; what is never right; or a variable, whose value sets what follows
pub data Form : Type 0 where
  done : Form
  shut : Form
  never : Form
  valued : Var → (ℕ → Form) → Form

-- a variable whose value doesn't change what follows
abbrev pub plain : Var → Form → Form
plain v rest = valued v (λ _. rest)

-- a part, n times
abbrev pub repeat : ℕ → (Form → Form) → Form → Form
repeat zero part rest = rest
repeat (suc n) part rest = part (repeat n part rest)

-- the fields are of this form, each value in its width, and the bits after them may stand there
abbrev pub Matches : Form → Fields → List Bool → Type 0
Matches done [] rest = Unit {0}
Matches shut [] rest = rest ≡ []
Matches (valued v next) (f ∷ fs) rest = (f.0.0 ≡ v) × IsTrue (fits (width_of v) f.1) × Matches (next f.1) fs rest
Matches done (f ∷ fs) rest = ⊥
Matches shut (f ∷ fs) rest = ⊥
Matches never fs rest = ⊥
Matches (valued v next) [] rest = ⊥

-- how often a variable stands among fields
abbrev pub count_of : Var → Fields → ℕ
count_of v [] = 0
count_of v (f ∷ fs) = cond (is_of v f.0) (suc (count_of v fs)) (count_of v fs)

-- each field has the number of its occurrence, where those of `seen` stand before
abbrev pub NumberedFrom : Fields → Fields → Type 0
NumberedFrom seen [] = Unit {0}
NumberedFrom seen (f ∷ fs) = (f.0.1 ≡ count_of f.0.0 seen) × NumberedFrom (seen ++ f ∷ []) fs

abbrev pub Numbered : Fields → Type 0
Numbered fs = NumberedFrom [] fs

-- the bits of fields
unfoldable pub spelling : Fields → List Bool
spelling [] = []
spelling (f ∷ fs) = bits (width_of f.0.0) f.1 ++ spelling fs

-- the fields of a form at the front of the bits, after those seen before, and the bits after them; none where the bits aren't of the form
unfoldable pub read_form : Form → Fields → List Bool → Option (Fields × List Bool)
read_form done seen b = Some (seen, b)
read_form shut seen [] = Some (seen, [])
read_form shut seen (b ∷ bs) = None
read_form never seen b = None
read_form (valued v next) seen b =
    let n : ℕ = num (take (width_of v) b) in
    if nat_lt (length b) (width_of v) then None
    else read_form (next n) (seen ++ ((v, count_of v seen), n) ∷ []) (drop (width_of v) b)
