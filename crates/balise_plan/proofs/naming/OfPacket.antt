-- All links of a packet: what adding or forgetting them makes of the index.
use Rattle.std.proofs.Common.{◌||◌, ◌≡◌, ℕ, Bool, true, false, cond, eqb, ◌&&◌, List, Some, None, sym, ap, ◌∙◌, arith}
use Rattle.std.specs.BTreeSet as set
use Rattle.std.proofs.lemmas.Bool.{and_from}
use Rattle.std.proofs.Math.Bool.{and-false}
use Rattle.balise_rules.specs.declared.tag.Tag.{Tag}
use Rattle.balise_rules.specs.declared.identity.Id.{Id}
use Rattle.balise_rules.specs.Tagged.{find}
use Rattle.balise_rules.specs.Tags.{same_tag}
use Rattle.balise_rules.specs.Forms.{Numbered}
use Rattle.balise_rules.specs.Packet.{Packet}
use Rattle.balise_rules.specs.Telegram.{Telegram}
use Rattle.balise_rules.specs.Plan.{Plan, IsSound, country_of, telegram_at}
use Rattle.balise_rules.specs.Names.{is_real, links_of}
use Rattle.balise_rules.proofs.Tests.{tag_test}
use Rattle.balise_rules.proofs.Cases.{parts3}
use Rattle.balise_rules.proofs.Found.{stood, place_is, packet_spelt}
use Rattle.balise_index.specs.declared.link_place.LinkPlace.{LinkPlace}
use Rattle.balise_index.specs.NameIndex.{held, IndexOf}
use Rattle.balise_plan.specs.Links.{named_at, named_in_packet, named_in_telegram}
use Rattle.balise_plan.specs.PacketLinks.{is_in}
use Rattle.balise_plan.specs.GroupLinks.{listed, links_from, SetsAll}
use Rattle.balise_plan.proofs.naming.GroupLists.{noted_or}
use Rattle.balise_plan.proofs.naming.OfGroup.{of-packet}

module _ (g : Tag) (t : ℕ) (plan : Plan) (sound : IsSound plan) (y : Telegram) (stands : telegram_at g t plan ≡ Some y) where
  -- what a place of a packet names
  pub named-inside : (p : Tag) (q : Id) (w : LinkPlace) → is_in g t p w ≡ true → named_at q w plan ≡ (is_real q && named_in_packet (country_of y) q w.element (find same_tag p y.packets))
  named-inside p q w d =
      let h = parts3 (same_tag g w.group) (eqb t w.telegram) (same_tag p w.packet) d in
      ap (λ o. is_real q && named_in_telegram q w o) (sym (place_is g w.group t w.telegram plan (and_from (same_tag g w.group) (eqb t w.telegram) h.0 h.1)) ∙ stands)
      ∙ ap (λ r. is_real q && named_in_packet (country_of y) q w.element (find same_tag r y.packets)) (sym (tag_test.one p w.packet h.2))

  pub numbered : (p : Tag) (x : Packet) → find same_tag p y.packets ≡ Some x → Numbered x.fields
  numbered p x e = (packet_spelt y (stood g t plan sound y stands).placed.sound p x e).numbered

-- ---- the index afterwards

forgotten-all : (i r b o : Bool) → (i ≡ true → o ≡ (r && b)) → cond (r && (i && b)) false o ≡ cond i (r && false) o
forgotten-all i r b o h = grind arith

added-all : (i r b o : Bool) → (i ≡ true → o ≡ false) → ((r && (i && b)) || o) ≡ cond i (r && b) o
added-all i r b o h = grind arith

module _ (g : Tag) (t : ℕ) (p : Tag) (plan : Plan) (sound : IsSound plan) (y : Telegram) (stands : telegram_at g t plan ≡ Some y) (names after : IndexOf (set.BTreeSet LinkPlace)) (index : (q : Id) (w : LinkPlace) → held names q w ≡ named_at q w plan) (x : Packet) where
  abbrev links : List (Id × LinkPlace)
  links = links_from g t p 0 (links_of (country_of y) x)

  pub forgotten : find same_tag p y.packets ≡ Some x → SetsAll false links names after → (q : Id) (w : LinkPlace) → held after q w ≡ cond (is_in g t p w) (is_real q && named_in_packet (country_of y) q w.element None) (named_at q w plan)
  forgotten e f q w =
      f q w ∙ ap (λ b. cond b false (held names q w)) (of-packet g t p q w (country_of y) x (numbered g t plan sound y stands p x e))
      ∙ ap (cond (is_real q && (is_in g t p w && named_in_packet (country_of y) q w.element (Some x))) false) (index q w)
      ∙ forgotten-all (is_in g t p w) (is_real q) (named_in_packet (country_of y) q w.element (Some x)) (named_at q w plan)
      (λ d. named-inside g t plan sound y stands p q w d ∙ ap (λ o. is_real q && named_in_packet (country_of y) q w.element o) e)

  lacks : find same_tag p y.packets ≡ None → (q : Id) (w : LinkPlace) → is_in g t p w ≡ true → held names q w ≡ false
  lacks e q w d = index q w ∙ named-inside g t plan sound y stands p q w d ∙ ap (λ o. is_real q && named_in_packet (country_of y) q w.element o) e ∙ and-false (is_real q)

  -- none of the links of a packet that isn't there is noted
  pub none-noted : find same_tag p y.packets ≡ None → Numbered x.fields → (q : Id) (w : LinkPlace) → listed q w links ≡ true → held names q w ≡ false
  none-noted e u q w l = lacks e q w (parts3 (is_real q) (is_in g t p w) (named_in_packet (country_of y) q w.element (Some x)) (sym (of-packet g t p q w (country_of y) x u) ∙ l)).1

  pub added : find same_tag p y.packets ≡ None → Numbered x.fields → SetsAll true links names after → (q : Id) (w : LinkPlace) → held after q w ≡ cond (is_in g t p w) (is_real q && named_in_packet (country_of y) q w.element (Some x)) (named_at q w plan)
  added e u f q w =
      noted_or links names after f q w ∙ ap (λ b. b || held names q w) (of-packet g t p q w (country_of y) x u)
      ∙ added-all (is_in g t p w) (is_real q) (named_in_packet (country_of y) q w.element (Some x)) (held names q w) (lacks e q w)
      ∙ ap (cond (is_in g t p w) (is_real q && named_in_packet (country_of y) q w.element (Some x))) (index q w)
