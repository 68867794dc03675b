-- What was found along the fields of a packet is what it names.
use Rattle.std.proofs.Common.{◌≡◌, ◌∙◌, ℕ, List, [], Bool, true, false, sym, ap, subst}
use Rattle.balise_rules.specs.declared.identity.Id.{Id}
use Rattle.balise_rules.specs.Forms.{Numbered}
use Rattle.balise_rules.specs.Packet.{Packet}
use Rattle.balise_rules.proofs.Tests.{split_on}
use Rattle.balise_layout.specs.declared.named.Named.{Named}
use Rattle.balise_layout.specs.declared.named.Named.TheVariants.{Few, Many}
use Rattle.balise_layout.specs.Linked.{link_few}
use Rattle.balise_layout.specs.Naming.{IsNamed}
use Rattle.balise_layout.specs.Walks.{kept}
use Rattle.balise_layout.proofs.ElementsFound.{few_found}

pub few_named : (c w : ℕ) (p : Packet) (named : Named) (found : ℕ × List Id × Bool) → Numbered p.fields → found ≡ kept link_few (c, [], false) w p.fields → (found.2 ≡ false → named ≡ Few found.1) → (found.2 ≡ true → named ≡ Many) → IsNamed named c p
few_named c w p named found numbered is few many = split_on found.2
    (λ e. subst (λ (n : Named). IsNamed n c p) (sym (many e)) tt)
    (λ e. subst (λ (n : Named). IsNamed n c p) (sym (few e)) (ap (λ (f : ℕ × List Id × Bool). f.1) is ∙ few_found c w p numbered (sym (ap (λ (f : ℕ × List Id × Bool). f.2) is) ∙ e)))
