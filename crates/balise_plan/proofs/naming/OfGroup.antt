-- What the links of a group say, place by place: they are what the group names.
use Rattle.std.proofs.Common.{◌≡◌, ◌+◌, ◌<◌, ℕ, zero, suc, Bool, true, false, cond, eqb, ◌&&◌, ◌||◌, All, List, [], ◌∷◌, slice_get, Option, Some, None, refl, sym, ap, ◌∙◌, arith}
use Rattle.std.proofs.lemmas.Bool.{ne_eqb, eq-eqb, eqb-true}
use Rattle.std.proofs.lemmas.List.Elements.{All-head, All-tail}
use Rattle.std.proofs.Math.Bool.{and_assoc}
use Rattle.balise_rules.specs.declared.identity.Id.{Id}
use Rattle.balise_rules.specs.declared.tag.Tag.{Tag}
use Rattle.balise_rules.specs.Tagged.{find, Distinct}
use Rattle.balise_rules.specs.Tags.{same_tag, same_id}
use Rattle.balise_rules.specs.Forms.{Numbered}
use Rattle.balise_rules.specs.Packet.{Packet, IsSpelt}
use Rattle.balise_rules.specs.Telegram.{version_of}
use Rattle.balise_rules.specs.Plan.{Group, IsSoundGroup, SoundFrom, identity_of, country_of}
use Rattle.balise_rules.specs.Names.{is_real, links_of}
use Rattle.balise_rules.proofs.Tests.{test-sym, tag_test, nat_test, id_test}
use Rattle.balise_index.specs.declared.link_place.LinkPlace.{LinkPlace}
use Rattle.balise_index.specs.Identities.{is_id}
use Rattle.balise_index.specs.Places.{is_place}
use Rattle.balise_plan.specs.Links.{named_in_packet, named_in_telegram}
use Rattle.balise_plan.specs.PacketLinks.{is_in, is_item}
use Rattle.balise_plan.specs.GroupLinks.{listed, links_from, links_in_packets, links_in_group}
use Rattle.balise_index.proofs.identities.Equal.{id_is}
use Rattle.balise_index.proofs.places.Equal.{place_is}
use Rattle.balise_plan.proofs.naming.GroupLists.{listed-append}
use Rattle.balise_plan.proofs.naming.LinksAt.{links-at}
use Rattle.balise_plan.proofs.naming.Identities.{in-packet}

-- the identity of the element e, where they are counted on from k
abbrev at_from : ℕ → List Id → ℕ → Option Id
at_from k [] e = None
at_from k (i ∷ is) e = cond (eqb k e) (Some i) (at_from (suc k) is e)

at-below : (k : ℕ) (is : List Id) (e : ℕ) → e < k → at_from k is e ≡ None
at-below k [] e h = refl
at-below k (i ∷ is) e h =
    let d : eqb k e ≡ false = ne_eqb k e (λ q. omega (arith, q, h)) in
    simp d (at-below (suc k) is e (omega (arith, h)))

at-get : (k : ℕ) (is : List Id) (j e : ℕ) → e ≡ k + j → at_from k is e ≡ slice_get is j
at-get k [] j e h = refl
at-get k (i ∷ is) zero e h =
    let d : eqb k e ≡ true = eq-eqb k e (omega (arith, h)) in
    simp d
at-get k (i ∷ is) (suc j) e h =
    let d : eqb k e ≡ false = ne_eqb k e (λ q. omega (arith, q, h)) in
    simp d (at-get (suc k) is j e (omega (arith, h)))

-- ---- tests joined

-- one element: r, whether its identity i is real; R, whether the one that is asked for is
one : (r i a b c k R x : Bool) {named placed : Bool} → (i ≡ true → R ≡ r) → (k ≡ true → x ≡ false) → named ≡ i → placed ≡ (a && (b && (c && k))) →
    cond r ((named && placed) || (R && ((a && (b && c)) && x))) (R && ((a && (b && c)) && x)) ≡ (R && ((a && (b && c)) && cond k i x))
one r i a b c k R x h g e d = grind arith

-- one item and those after it, of which none has its key
both : (r b p n m : Bool) {first rest asked named : Bool} → first ≡ (r && ((b && p) && n)) → rest ≡ (r && (b && m)) → (p ≡ true → m ≡ false) → asked ≡ p → named ≡ cond asked n m → (first || rest) ≡ (r && (b && named))
both r b p n m f g h e i = grind arith

-- ---- one packet

-- what is said of one of two things
pub by-cond : {A B : Type 0} (f : A → B) (b : Bool) (x y : A) → f (cond b x y) ≡ cond b (f x) (f y)
by-cond f true x y = refl
by-cond f false x y = refl

module _ (g : Tag) (t : ℕ) (p : Tag) (q : Id) (w : LinkPlace) where
  from-k : (k : ℕ) (is : List Id) → listed q w (links_from g t p k is) ≡ (is_real q && (is_in g t p w && is_item q (at_from k is w.element)))
  from-k k [] = grind arith
  from-k k (i ∷ is) =
      let rest = links_from g t p (suc k) is in
      let here : LinkPlace = record { group = g; telegram = t; packet = p; element = k } in
      by-cond (listed q w) (is_real i) ((i, here) ∷ rest) rest
      ∙ ap (λ b. cond (is_real i) ((is_id i q && is_place here w) || b) b) (from-k (suc k) is)
      ∙ one (is_real i) (same_id i q) (same_tag g w.group) (eqb t w.telegram) (same_tag p w.packet) (eqb k w.element) (is_real q) (is_item q (at_from (suc k) is w.element))
      (λ e. ap is_real (sym (id_test.one i q e)))
      (λ e. ap (is_item q) (at-below (suc k) is w.element (let z = eqb-true k w.element e in omega (arith, z))))
      (id_is i q) (place_is here w)
      ∙ ap (λ b. is_real q && (is_in g t p w && b)) (sym (by-cond (is_item q) (eqb k w.element) (Some i) (at_from (suc k) is w.element)))

  pub of-packet : (c : ℕ) (x : Packet) → Numbered x.fields → listed q w (links_from g t p 0 (links_of c x)) ≡ (is_real q && (is_in g t p w && named_in_packet c q w.element (Some x)))
  of-packet c x u =
      from-k 0 (links_of c x)
      ∙ ap (λ o. is_real q && (is_in g t p w && is_item q o)) (at-get 0 (links_of c x) w.element w.element (omega arith) ∙ links-at c w.element x u)
      ∙ ap (λ b. is_real q && (is_in g t p w && b)) (sym (in-packet c w.element q (Some x)))

-- ---- all packets of a telegram

module _ (g : Tag) (t : ℕ) (c : ℕ) (v : ℕ) (q : Id) (w : LinkPlace) where
  abbrev at : Bool
  at = same_tag g w.group && eqb t w.telegram

  of-packets : (zs : List (Tag × Packet)) → Distinct same_tag zs → All (λ (z : Tag × Packet). IsSpelt v z.1) zs → listed q w (links_in_packets g t c zs) ≡ (is_real q && (at && named_in_packet c q w.element (find same_tag w.packet zs)))
  of-packets [] u a = grind arith
  of-packets (z ∷ zs) u a =
      let s = All-head (λ (z : Tag × Packet). IsSpelt v z.1) z zs a in
      let this = named_in_packet c q w.element (Some z.1) in
      listed-append q w (links_from g t z.0 0 (links_of c z.1)) (links_in_packets g t c zs)
      ∙ both (is_real q) at (same_tag z.0 w.packet) this (named_in_packet c q w.element (find same_tag w.packet zs))
      (of-packet g t z.0 q w c z.1 s.numbered ∙ ap (λ b. is_real q && (b && this)) (sym (and_assoc (same_tag g w.group) (eqb t w.telegram) (same_tag z.0 w.packet))))
      (of-packets zs u.1 (All-tail (λ (z : Tag × Packet). IsSpelt v z.1) z zs a))
      (λ e. ap (named_in_packet c q w.element) (ap (λ r. find same_tag r zs) (sym (tag_test.one z.0 w.packet e)) ∙ u.0))
      (test-sym tag_test w.packet z.0) (by-cond (named_in_packet c q w.element) (same_tag w.packet z.0) (Some z.1) (find same_tag w.packet zs))

-- ---- all telegrams of a group

module _ (g : Tag) (q : Id) (w : LinkPlace) (i : Id) (last : ℕ) where
  of-telegrams : (n : ℕ) (ys : Group) → Distinct eqb ys → SoundFrom i last n ys → listed q w (links_in_group g ys) ≡ (is_real q && (same_tag g w.group && named_in_telegram q w (find eqb w.telegram ys)))
  of-telegrams n [] u s = grind arith
  of-telegrams n (y ∷ ys) u s =
      listed-append q w (links_in_packets g y.0 (country_of y.1) y.1.packets) (links_in_group g ys)
      ∙ both (is_real q) (same_tag g w.group) (eqb y.0 w.telegram) (named_in_telegram q w (Some y.1)) (named_in_telegram q w (find eqb w.telegram ys))
      (of-packets g y.0 (country_of y.1) (version_of y.1) q w y.1.packets s.0.tags s.0.packets) (of-telegrams (suc n) ys u.1 s.1)
      (λ e. ap (named_in_telegram q w) (ap (λ r. find eqb r ys) (sym (nat_test.one y.0 w.telegram e)) ∙ u.0))
      (test-sym nat_test w.telegram y.0) (by-cond (named_in_telegram q w) (eqb w.telegram y.0) (Some y.1) (find eqb w.telegram ys))

pub listed-names : (g : Tag) (ys : Group) → IsSoundGroup ys → (q : Id) (w : LinkPlace) → listed q w (links_in_group g ys) ≡ (is_real q && (same_tag g w.group && named_in_telegram q w (find eqb w.telegram ys)))
listed-names g ys s q w = of-telegrams g q w (identity_of ys) _ 0 ys s.tags s.telegrams
