use Rattle.std.proofs.Common.{◌∙◌, ◌++◌, List, [], ◌∷◌, Bool, ap, subst, sym}
use Rattle.balise_text.specs.Left.{left}
use Rattle.balise_text.proofs.DigitWords.{Continues, continues_more}
use Rattle.balise_text.proofs.digit_words.read_telegrams.Goals as goal

pub words-preserved : goal.words-preserved
words-preserved c =
    subst (λ (bs : List (List Bool)). Continues bs (left c.in-Some.rest) (left c.args.words)) (sym (c.in_default-push.ensures.items ∙ ap (λ (bs : List (List Bool)). bs ++ c.in-Ok.bits ∷ []) c.in_default-reserve_exact.ensures.items))
    (continues_more c.words.telegrams.items c.in-Ok.bits c.in-Some.word.now (left c.in-Some.rest) (left c.words.words) (left c.args.words) c.words.invariant c.in-Some.ensures c.in-Ok.ensures.ok)
