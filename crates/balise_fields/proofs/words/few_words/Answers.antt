use Rattle.balise_text.proofs.Parts.{some_part}
use Rattle.balise_fields.proofs.Splitting.{too_many}
use Rattle.balise_fields.proofs.words.few_words.Goals as goal

pub returns-in-Some-rest-3 : goal.returns-in-Some-rest-3
returns-in-Some-rest-3 c =
    too_many _ _ _ _ _ _ _ _ _ (rw c.in-Some.is at c.first_word.ensures) (rw c.in-Some-rest.is at c.first_word-2.ensures) (rw c.in-Some-rest-2.is at c.first_word-3.ensures) (rw c.in-Some-rest-3.is at c.first_word-4.ensures)
    (some_part 32 c.in-Some-rest-3.field-0.now)
