-- Packets that name nothing add nothing to what is collected packet by packet: links and names of those left are all.
use Rattle.std.proofs.Common.{◌≡◌, ◌∙◌, ◌++◌, ◌∷◌, [], ◌<◌, ℕ, zero, suc, length, List, refl, ap, arith}
use Rattle.std.proofs.lemmas.List.{length-append}
use Rattle.std.specs.Prelude.{filter}
use Rattle.balise_rules.specs.declared.identity.Id.{Id}
use Rattle.balise_rules.specs.declared.tag.Tag.{Tag}
use Rattle.balise_rules.specs.Names.{is_real, links_of, names_in_packets}
use Rattle.balise_rules.specs.Packet.{Packet}
use Rattle.balise_telegram.specs.Linking.{NameNothing, PassesOver}
use Rattle.balise_plan.specs.GroupLinks.{links_from, links_in_packets}

module _ {A : Type 0} (of : Tag × Packet → List Id → List A) (empty : (x : Tag × Packet) → of x [] ≡ []) (c : ℕ) (all : List (Tag × Packet) → List A) (none : all [] ≡ []) (step : (x : Tag × Packet) (xs : List (Tag × Packet)) → all (x ∷ xs) ≡ of x (links_of c x.1) ++ all xs) where
  past : (passed rest : List (Tag × Packet)) → NameNothing passed → all (passed ++ rest) ≡ all rest
  past [] rest nothing = refl
  past (x ∷ xs) rest nothing =
      step x (xs ++ rest) ∙ ap (λ (is : List Id). of x is ++ all (xs ++ rest)) (nothing zero x (omega arith) c) ∙ ap (λ (zs : List A). zs ++ all (xs ++ rest)) (empty x)
      ∙ past xs rest (λ k d h. nothing (suc k) d (omega (arith, h)))

  over : (ps rest : List (Tag × Packet)) → PassesOver ps rest → all ps ≡ all rest
  over ps rest o = ap all o.2 ∙ past o.0 rest o.1

  nothing_in : (ps : List (Tag × Packet)) → NameNothing ps → all ps ≡ []
  nothing_in [] nothing = none
  nothing_in (x ∷ xs) nothing =
      step x xs ∙ ap (λ (is : List Id). of x is ++ all xs) (nothing zero x (omega arith) c) ∙ ap (λ (zs : List A). zs ++ all xs) (empty x)
      ∙ nothing_in xs (λ k d h. nothing (suc k) d (omega (arith, h)))

module _ (g : Tag) (t c : ℕ) where
  pub links_past : (ps rest : List (Tag × Packet)) → PassesOver ps rest → links_in_packets g t c ps ≡ links_in_packets g t c rest
  links_past = over (λ x. links_from g t x.0 0) (λ x. refl) c (links_in_packets g t c) refl (λ x xs. refl)

  pub no_links : (ps : List (Tag × Packet)) → NameNothing ps → links_in_packets g t c ps ≡ []
  no_links = nothing_in (λ x. links_from g t x.0 0) (λ x. refl) c (links_in_packets g t c) refl (λ x xs. refl)

module _ (c : ℕ) where
  pub names_past : (ps rest : List (Tag × Packet)) → PassesOver ps rest → names_in_packets c ps ≡ names_in_packets c rest
  names_past = over (λ x. filter is_real) (λ x. refl) c (names_in_packets c) refl (λ x xs. refl)

  pub no_names : (ps : List (Tag × Packet)) → NameNothing ps → names_in_packets c ps ≡ []
  no_names = nothing_in (λ x. filter is_real) (λ x. refl) c (names_in_packets c) refl (λ x xs. refl)

pub fewer_left : (ps : List (Tag × Packet)) (x : Tag × Packet) (rest : List (Tag × Packet)) → PassesOver ps (x ∷ rest) → length rest < length ps
fewer_left ps x rest o = omega (arith, ap length o.2, length-append o.0 (x ∷ rest))
