-- Words of digits, one after another.
use Rattle.std.proofs.Common.{◌≡◌, ◌∙◌, Bool, false, List, [], ◌∷◌, ◌++◌, length, Result, Ok, Err, refl, sym, ap, append_assoc}
use Rattle.balise_rules.specs.declared.refusal.Refusal.{Refusal}
use Rattle.balise_rules.specs.Digits.{read_hex}
use Rattle.balise_text.specs.Words.{Word}
use Rattle.balise_text.specs.DigitWords.{have_digits, bits_due, with_telegram, telegrams_in}

-- after telegrams that were read
abbrev pub behind : List (List Bool) → Result (List (List Bool)) Refusal → Result (List (List Bool)) Refusal
behind done (Err r) = Err r
behind done (Ok bs) = Ok (done ++ bs)

-- what all the words are is what was read, and then what the words that are left are
abbrev pub Continues : List (List Bool) → List Word → List Word → Type 0
Continues done ws all = telegrams_in all ≡ behind done (telegrams_in ws)

abbrev ok : List (List Bool) → Result (List (List Bool)) Refusal
ok x = Ok x

one_more : (done : List (List Bool)) (b : List Bool) (r : Result (List (List Bool)) Refusal) → behind done (with_telegram (Ok b) r) ≡ behind (done ++ b ∷ []) r
one_more done b (Err e) = refl
one_more done b (Ok bs) = ap ok (sym (append_assoc done (b ∷ []) bs))

pub continues_more : (done : List (List Bool)) (b : List Bool) (w : Word) (ws old all : List Word) → Continues done old all → old ≡ w ∷ ws → read_hex (bits_due (length w)) w ≡ Ok b → Continues (done ++ b ∷ []) ws all
continues_more done b w ws old all h e r =
    h ∙ (ap (λ x. behind done (telegrams_in x)) e ∙ (ap (λ x. behind done (with_telegram x (telegrams_in ws))) r ∙ one_more done b (telegrams_in ws)))

-- whether digits are there

pub none_first : (ws : List Word) → have_digits ([] ∷ ws) ≡ false
none_first [] = refl
none_first (v ∷ ws) = refl
