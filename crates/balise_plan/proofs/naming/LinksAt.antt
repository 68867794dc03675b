-- The identity of the element k of a packet is the item k of its links: its numbers of links are counted from 0.
use Rattle.std.proofs.Common.{◌≡◌, ◌+◌, ℕ, zero, suc, true, false, cond, eqb, [], ◌∷◌, ◌++◌, slice_get, Option, Some, None, refl, sym, ap, ◌∙◌, arith}
use Rattle.std.specs.Option.{option_map}
use Rattle.std.proofs.lemmas.Bool.{ne_eqb, eq-eqb}
use Rattle.balise_rules.specs.declared.variable.Var.TheVariants.{NidBg}
use Rattle.balise_rules.specs.Tagged.{find}
use Rattle.balise_rules.specs.Tags.{is_of, same_key}
use Rattle.balise_rules.specs.Forms.{Fields, count_of, NumberedFrom, Numbered}
use Rattle.balise_rules.specs.Packet.{Packet}
use Rattle.balise_rules.specs.Names.{country_at, links_among, links_of}
use Rattle.balise_rules.proofs.Tests.{split_on, var_test}
use Rattle.balise_rules.proofs.Keys.{count-append}
use Rattle.balise_rules.specs.declared.identity.Id.{Id}
use Rattle.balise_rules.specs.declared.tag.Tag.{Tag}
use Rattle.balise_rules.specs.Tags.{same_tag}
use Rattle.balise_rules.specs.Telegram.{Telegram}
use Rattle.balise_rules.specs.Plan.{country_of}
use Rattle.balise_rules.proofs.Cases.{found}
use Rattle.balise_telegram.specs.Packed.{links_at, links_found}
use Rattle.balise_plan.proofs.naming.Identities.{id_in_packet}

links-from : (c : ℕ) (fs : Fields) (seen from : Fields) → NumberedFrom seen from → (j i : ℕ) → i ≡ count_of NidBg seen + j →
    slice_get (links_among c fs from) j ≡ option_map (λ v. record { country = country_at c i fs; number = v }) (find same_key (NidBg, i) from)
links-from c fs seen [] u j i e = refl
links-from c fs seen (f ∷ from) u zero i e =
    split_on (is_of NidBg f.0)
    (λ o.
    let m : f.0.1 ≡ count_of NidBg seen = u.0 ∙ ap (λ v. count_of v seen) (sym (var_test.one NidBg f.0.0 o)) in
    let w : i ≡ f.0.1 = omega (arith, m, e) in
    let k : eqb i f.0.1 ≡ true = eq-eqb i f.0.1 w in
    simp (o, k) (ap (λ a. Some (record { country = country_at c a fs; number = f.1 })) (sym w)))
    (λ o.
    let n : count_of NidBg (seen ++ f ∷ []) ≡ count_of NidBg seen + 0 = count-append NidBg seen (f ∷ []) ∙ ap (λ b. count_of NidBg seen + cond b 1 0) o in
    simp o (links-from c fs (seen ++ f ∷ []) from u.1 zero i (omega (arith, n, e))))
links-from c fs seen (f ∷ from) u (suc j) i e =
    split_on (is_of NidBg f.0)
    (λ o.
    let m : f.0.1 ≡ count_of NidBg seen = u.0 ∙ ap (λ v. count_of v seen) (sym (var_test.one NidBg f.0.0 o)) in
    let n : count_of NidBg (seen ++ f ∷ []) ≡ count_of NidBg seen + 1 = count-append NidBg seen (f ∷ []) ∙ ap (λ b. count_of NidBg seen + cond b 1 0) o in
    let k : eqb i f.0.1 ≡ false = ne_eqb i f.0.1 (λ w. omega (arith, m, e, w)) in
    simp (o, k) (links-from c fs (seen ++ f ∷ []) from u.1 j i (omega (arith, n, e))))
    (λ o.
    let n : count_of NidBg (seen ++ f ∷ []) ≡ count_of NidBg seen + 0 = count-append NidBg seen (f ∷ []) ∙ ap (λ b. count_of NidBg seen + cond b 1 0) o in
    simp o (links-from c fs (seen ++ f ∷ []) from u.1 (suc j) i (omega (arith, n, e))))

pub links-at : (c k : ℕ) (x : Packet) → Numbered x.fields → slice_get (links_of c x) k ≡ id_in_packet c k x
links-at c k x u = links-from c x.fields [] x.fields u k k (omega arith)

-- an element of a telegram stands in its packet
pub record Linking (p : Tag) (k : ℕ) (y : Telegram) (from : Id) : Type 0 where
  pub packet : Packet
  pub there : find same_tag p y.packets ≡ Some packet
  pub names : id_in_packet (country_of y) k packet ≡ Some from

none-at : (c k : ℕ) (from : Id) → slice_get (links_found c None) k ≡ Some from → ⊥
none-at c zero from e = absurd cc
none-at c (suc k) from e = absurd cc

module _ (p : Tag) (k : ℕ) (y : Telegram) (from : Id) (u : (x : Packet) → find same_tag p y.packets ≡ Some x → Numbered x.fields) (e : slice_get (links_at p y) k ≡ Some from) where
  abbrev at : Option Packet → Option Id
  at o = slice_get (links_found (country_of y) o) k

  pub linking : Linking p k y from
  linking =
      found (find same_tag p y.packets)
      (λ h. absurd (none-at (country_of y) k from (sym (ap at h) ∙ e)))
      (λ x h. record { packet = x; there = h; names = sym (links-at (country_of y) k x (u x h)) ∙ sym (ap at h) ∙ e })
