-- Codes that stand for tags, and what a change of the list of rare tags leaves.
use Rattle.std.proofs.Common.{◌≡◌, ◌∙◌, ◌+◌, ◌<◌, ◌≤◌, ℕ, zero, suc, List, [], ◌∷◌, insert, length, refl, ap, arith}
use Rattle.balise_rules.specs.declared.tag.Tag.{Tag}
use Rattle.balise_index.specs.TagCode.{tag_of, tags_of, AreKnown, KeepsTags}

pub known-more : (old new : List Tag) (codes : List ℕ) → length old ≤ length new → AreKnown old codes → AreKnown new codes
known-more old new [] m k = tt
known-more old new (c ∷ cs) m k = (omega (arith, m, k.0), known-more old new cs m k.1)

pub known-insert : (rare : List Tag) (codes : List ℕ) (i code : ℕ) → code < 4294000000 + length rare → AreKnown rare codes → AreKnown rare (insert codes i code)
known-insert rare [] zero code l k = (l, tt)
known-insert rare [] (suc i) code l k = (l, tt)
known-insert rare (c ∷ cs) zero code l k = (l, k)
known-insert rare (c ∷ cs) (suc i) code l k = (k.0, known-insert rare cs i code l k.1)

pub tags-kept : (old new : List Tag) (codes : List ℕ) → KeepsTags old new → AreKnown old codes → tags_of new codes ≡ tags_of old codes
tags-kept old new [] h k = refl
tags-kept old new (c ∷ cs) h k = ap (λ g. g ∷ tags_of new cs) (h c k.0) ∙ ap (λ gs. tag_of old c ∷ gs) (tags-kept old new cs h k.1)
