-- Words put together with a separator between them are the parts between separators.
use Rattle.std.proofs.Common.{◌≡◌, ◌∙◌, ℕ, ◌==◌, ◌&&◌, not, Bool, true, false, List, [], ◌∷◌, ◌++◌, refl, ap, arith}
use Rattle.std.proofs.lemmas.List.{append-nil}
use Rattle.std.proofs.lemmas.Grind.{common_steps}
use Rattle.balise_text.specs.Words.{Word, onto_first, parts_of}
use Rattle.balise_text.specs.Texts.{with_marks}

-- whether a separator doesn't stand in a word
abbrev pub lacks : ℕ → Word → Bool
lacks mark [] = true
lacks mark (b ∷ bs) = not (b == mark) && lacks mark bs

abbrev pub all_lack : ℕ → List Word → Bool
all_lack mark [] = true
all_lack mark (w ∷ ws) = lacks mark w && all_lack mark ws

pub lacks-append : (mark : ℕ) (v w : Word) → lacks mark v ≡ true → lacks mark w ≡ true → lacks mark (v ++ w) ≡ true
lacks-append mark [] w p q = q
lacks-append mark (b ∷ bs) w p q = by (b == mark) (lacks mark bs) p (λ r. lacks-append mark bs w r q)
  where
    by : (c d : Bool) → (not c && d) ≡ true → (d ≡ true → lacks mark (bs ++ w) ≡ true) → (not c && lacks mark (bs ++ w)) ≡ true
    by true d p f = absurd cc
    by false d p f = f p

pub both : (a b : Bool) → (a && b) ≡ true → (a ≡ true) × (b ≡ true)
both true b p = (refl, p)
both false b p = absurd cc

-- a word in front of parts: it is put before the first of them
abbrev onto_word : Word → List Word → List Word
onto_word [] ps = ps
onto_word (b ∷ bs) ps = onto_first b (onto_word bs ps)

onto_some : (w v : Word) (ps : List Word) → onto_word w (v ∷ ps) ≡ (w ++ v) ∷ ps
onto_some [] v ps = refl
onto_some (b ∷ bs) v ps = rw (onto_some bs v ps) refl

-- the next byte isn't the separator
next_part : (mark b : ℕ) (rest : Word) (ps : List Word) (c : Bool) → c ≡ (b == mark) → not c ≡ true → parts_of mark rest ≡ ps → parts_of mark (b ∷ rest) ≡ onto_first b ps
next_part mark b rest ps true e h p = absurd cc
next_part mark b rest ps false e h p = rw (← e, p) refl

parts_behind : (mark : ℕ) (w rest : Word) → lacks mark w ≡ true → parts_of mark (w ++ rest) ≡ onto_word w (parts_of mark rest)
parts_behind mark [] rest h = refl
parts_behind mark (b ∷ bs) rest h =
    let p = both (not (b == mark)) (lacks mark bs) h in
    next_part mark b (bs ++ rest) _ (b == mark) refl p.0 (parts_behind mark bs rest p.1)

same_mark : (mark : ℕ) (rest : Word) → parts_of mark (mark ∷ rest) ≡ [] ∷ parts_of mark rest
same_mark mark rest = let e : (mark == mark) ≡ true = grind (arith, common_steps) in rw e refl

pub parts_marked : (mark : ℕ) (w : Word) (ws : List Word) → all_lack mark (w ∷ ws) ≡ true → parts_of mark (with_marks mark (w ∷ ws)) ≡ w ∷ ws
parts_marked mark w [] h =
    let p = both (lacks mark w) true h in
    parts_behind mark w [] p.0 ∙ (onto_some w [] [] ∙ ap (λ (x : Word). x ∷ []) (append-nil w))
parts_marked mark w (v ∷ ws) h =
    let p = both (lacks mark w) (all_lack mark (v ∷ ws)) h in
    parts_behind mark w (mark ∷ with_marks mark (v ∷ ws)) p.0 ∙ (ap (onto_word w) (same_mark mark (with_marks mark (v ∷ ws)))
    ∙ (onto_some w [] (parts_of mark (with_marks mark (v ∷ ws))) ∙ (ap (λ (x : Word). x ∷ parts_of mark (with_marks mark (v ∷ ws))) (append-nil w) ∙ ap (λ (ps : List Word). w ∷ ps) (parts_marked mark v ws p.1))))
