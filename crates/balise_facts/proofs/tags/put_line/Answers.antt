-- The texts at the end of a line, after the kind of thing and the identity of its group.
use Rattle.std.proofs.Common.{◌≡◌, ◌∙◌, ◌∷◌, ◌++◌, [], codes, decimal, append_assoc}
use Rattle.std.proofs.lemmas.List.{append-nil}
use Rattle.balise_lines.specs.Writing.{LastFailed}
use Rattle.balise_text.specs.Texts.{Text, text_of}
use Rattle.balise_text.specs.Reviews.{id_text}
use Rattle.balise_rules.specs.declared.identity.Id.{Id}
use Rattle.balise_facts.proofs.Sequences.{begun_first, done_next}
use Rattle.balise_facts.proofs.tags.put_line.Goals as goal

end_left : (kind country number end : Text) (i : Id) → country ≡ decimal i.country → number ≡ decimal i.number →
    kind ++ (32 ∷ (id_text i ++ end)) ≡ text_of (kind ∷ codes " " ∷ country ∷ codes "." ∷ number ∷ []) ++ end
end_left kind country number end i e f = simp (e, f, append_assoc, append-nil)

pub returns-in-Err : goal.returns-in-Err
returns-in-Err g c =
    let country = c.as_bytes-country.ensures.value ∙ c.format.ensures.text in
    let number = c.as_bytes-number.ensures.value ∙ c.format-2.ensures.text in
    rw (end_left c.args.kind.now _ _ _ c.args.id country number) (begun_first _ c.in-Err.ensures)

pub returns : goal.returns
returns g c =
    let country = c.as_bytes-country.ensures.value ∙ c.format.ensures.text in
    let number = c.as_bytes-number.ensures.value ∙ c.format-2.ensures.text in
    rw (end_left c.args.kind.now _ _ _ c.args.id country number) (done_next (λ _. LastFailed) _ c.put_texts-2.result _ _ _ _ _ c.in_default.ensures c.put_texts-2.ensures)
