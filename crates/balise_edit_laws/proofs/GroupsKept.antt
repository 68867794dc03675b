-- An accepted edit leaves a sound group sound.
-- From its headers and packets, which are kept, telegram by telegram, and the places of a turned group, counted from the other end.
-- Its identity is the one that it had, or the one that a renumbering gave.
use Rattle.std.proofs.Common.{◌≡◌, ◌≢◌, ℕ, suc, ◌+◌, ◌-◌, ◌≤◌, Bool, true, false, cond, eqb, All, [], ◌∷◌, ◌++◌, length, reverse, Some, refl, sym, ap, subst, ◌∙◌, arith}
use Rattle.std.proofs.lemmas.List.{reverse-append, length-reverse}
use Rattle.balise_rules.specs.declared.tag.Tag.{Tag}
use Rattle.balise_rules.specs.declared.identity.Id.{Id}
use Rattle.balise_rules.specs.declared.variable.Var.TheVariants.{MVersion}
use Rattle.balise_rules.specs.Tagged.{find, each, Distinct, changed}
use Rattle.balise_rules.specs.Tags.{same_tag}
use Rattle.balise_rules.specs.Packet.{IsSpelt}
use Rattle.balise_rules.specs.Telegram.{Telegram, version_of}
use Rattle.balise_rules.specs.Plan.{Group, reserved, country_of, identity_of, IsSoundTelegram, SoundFrom, IsSoundGroup}
use Rattle.balise_rules.specs.Accepting.{Lawful}
use Rattle.balise_rules.specs.Edits.{Edit, Item, packets_change, telegram_after, in_order, group_after}
use Rattle.balise_rules.specs.declared.tagged_edit.TaggedEdit.TheVariants.{TurnGroup}
use Rattle.balise_rules.proofs.Tests.{split_on, nat_test}
use Rattle.balise_rules.proofs.Distincts.{distinct-each}
use Rattle.balise_rules.proofs.Each.{found_later, length-each}
use Rattle.balise_rules.proofs.Reversed.{distinct-reverse}
use Rattle.balise_edit_laws.proofs.HeadChanges.{fixed_kept, version_fixed}
use Rattle.balise_edit_laws.proofs.PacketsKept.{Fitted, packets_kept}
use Rattle.balise_edit_laws.proofs.HeadsKept.{new_identity, new_place, head_of, head_kept}

id_is : (i : Id) → (c n : ℕ) → c ≡ i.country → n ≡ i.number → ◌≡◌ {A = Id} (record { country = c; number = n }) i
id_is i c n e d = ap (λ a. record { country = a; number = n }) e ∙ ap (λ b. record { country = i.country; number = b }) d

pub telegram_kept : (e : Item) → Lawful e.1 → (i own : Id) → (last n : ℕ) → (g : Tag) → (t : ℕ) → (y : Telegram) → IsSoundTelegram i last n y → Fitted e g t (version_of y) (length y.padding) y.packets →
    IsSoundTelegram (new_identity e.1 g i) last (new_place e.1 g last n) (telegram_after e own g t y)
telegram_kept e l i own last n g t y s w =
    let h = head_kept e.1 l i last n g t y.head (head_of i last n y s) in
    let p = packets_kept e l own g t (country_of y) (version_of y) (length y.padding) y.packets (record { tags = s.tags; packets = s.packets; fits = s.fits }) w in
    record {
      header = h.header;
      numbered = h.numbered;
      balise = h.balise;
      identity = id_is (new_identity e.1 g i) _ _ h.country h.number;
      place = h.place;
      total = h.total;
      tags = p.tags;
      packets = subst (λ v. All (λ z. IsSpelt v z.1) (changed same_tag (packets_change e own g t (country_of y)) y.packets)) (sym (fixed_kept e.1 l MVersion version_fixed g t y.head)) p.packets;
      size = s.size;
      fits = p.fits;
    }

-- telegrams in their order
pub sound_each : (i j : Id) → (last : ℕ) → (h : ℕ → Telegram → Telegram) → (n : ℕ) → (ys : Group) → SoundFrom i last n ys → Distinct eqb ys → ((t : ℕ) → (y : Telegram) → (m : ℕ) → find eqb t ys ≡ Some y → IsSoundTelegram i last m y → IsSoundTelegram j last m (h t y)) → SoundFrom j last n (each h ys)
sound_each i j last h n [] s u k = tt
sound_each i j last h n (y ∷ ys) s u k =
    let r = nat_test.itself y.0 in
    (k y.0 y.1 n (simp r) s.0, sound_each i j last h (suc n) ys s.1 u.1 (λ t x m e w. k t x m (found_later nat_test y ys u.0 t x e) w))

-- telegrams in the other order: the last has place 0
abbrev Down : Id → ℕ → Group → Type 0
Down i last [] = Unit {0}
Down i last (y ∷ ys) = IsSoundTelegram i last (length ys) y.1 × Down i last ys

sound_down : (i j : Id) → (last : ℕ) → (h : ℕ → Telegram → Telegram) → (n : ℕ) → (ys : Group) → n + length ys ≡ suc last → SoundFrom i last n ys → Distinct eqb ys → ((t : ℕ) → (y : Telegram) → (m : ℕ) → find eqb t ys ≡ Some y → IsSoundTelegram i last m y → IsSoundTelegram j last (last - m) (h t y)) → Down j last (each h ys)
sound_down i j last h n [] c s u k = tt
sound_down i j last h n (y ∷ ys) c s u k =
    let r = nat_test.itself y.0 in
    let place : last - n ≡ length (each h ys) = omega (arith, c, length-each h ys) in
    let after : suc n + length ys ≡ suc last = omega (arith, c) in
    (subst (λ m. IsSoundTelegram j last m (h y.0 y.1)) place (k y.0 y.1 n (simp r) s.0), sound_down i j last h (suc n) ys after s.1 u.1 (λ t x m e w. k t x m (found_later nat_test y ys u.0 t x e) w))

sound_last : (i : Id) → (last n : ℕ) → (xs : Group) → (y : ℕ × Telegram) → SoundFrom i last n xs → IsSoundTelegram i last (n + length xs) y.1 → SoundFrom i last n (xs ++ y ∷ [])
sound_last i last n [] y s w = let e : n + 0 ≡ n = omega arith in (subst (λ m. IsSoundTelegram i last m y.1) e w, tt)
sound_last i last n (x ∷ xs) y s w = let e : n + suc (length xs) ≡ suc n + length xs = omega arith in (s.0, sound_last i last (suc n) xs y s.1 (subst (λ m. IsSoundTelegram i last m y.1) e w))

sound_reverse : (i : Id) → (last : ℕ) → (ys : Group) → Down i last ys → SoundFrom i last 0 (reverse ys)
sound_reverse i last [] d = tt
sound_reverse i last (y ∷ ys) d =
    let e : length ys ≡ 0 + length (reverse ys) = omega (arith, length-reverse ys) in
    rw (reverse-append (y ∷ []) ys) (sound_last i last 0 (reverse ys) y (sound_reverse i last ys d.1) (subst (λ m. IsSoundTelegram i last m y.1) e d.0))

first_identity : (j : Id) → (last : ℕ) → (ys : Group) → 1 ≤ length ys → SoundFrom j last 0 ys → identity_of ys ≡ j
first_identity j last [] l s = absurd (omega (arith, l))
first_identity j last (y ∷ ys) l s = s.0.identity

-- whether an edit turns a group
abbrev pub turns : Edit → Tag → Bool
turns (TurnGroup g0) g = same_tag g0 g
turns e g = false

pub order_is : (e : Edit) → (g : Tag) → (ys : Group) → in_order e g ys ≡ cond (turns e g) (reverse ys) ys
order_is (TurnGroup g0) g ys = refl
order_is e g ys = refl

place_is_turned : (e : Edit) → (g : Tag) → (last n : ℕ) → new_place e g last n ≡ cond (turns e g) (last - n) n
place_is_turned (TurnGroup g0) g last n = refl
place_is_turned e g last n = refl

-- what is known of a group after an edit
pub record GroupKept (j : Id) (ys : Group) : Type 0 where
  pub sound : IsSoundGroup ys
  pub identity : identity_of ys ≡ j

-- a group of one identity, in its order
pub sound_as : (j : Id) → (last : ℕ) → (zs : Group) → suc last ≡ length zs → length zs ≤ 8 → Distinct eqb zs → j.number ≢ reserved → SoundFrom j last 0 zs → GroupKept j zs
sound_as j last zs size most u number s =
    let some : 1 ≤ length zs = omega (arith, size) in
    let i_is = first_identity j last zs some s in
    let l_is : last ≡ length zs - 1 = omega (arith, size) in
    record {
      sound = record {
        some = some;
        most = most;
        tags = u;
        number = λ e. number (ap (λ (i : Id). i.number) (sym i_is) ∙ e);
        telegrams = subst (λ i. SoundFrom i (length zs - 1) 0 zs) (sym i_is) (subst (λ l. SoundFrom j l 0 zs) l_is s);
      };
      identity = i_is;
    }

module _ (e : Item) (l : Lawful e.1) (own : Id) (g : Tag) (ys : Group) (s : IsSoundGroup ys) (w : (t : ℕ) → (y : Telegram) → find eqb t ys ≡ Some y → Fitted e g t (version_of y) (length y.padding) y.packets) where
  as_it_stood : turns e.1 g ≡ false → SoundFrom (new_identity e.1 g (identity_of ys)) (length ys - 1) 0 (each (telegram_after e own g) ys)
  as_it_stood n =
      sound_each (identity_of ys) (new_identity e.1 g (identity_of ys)) (length ys - 1) (telegram_after e own g) 0 ys s.telegrams s.tags
      (λ t y m h k. subst (λ p. IsSoundTelegram (new_identity e.1 g (identity_of ys)) (length ys - 1) p (telegram_after e own g t y))
      (place_is_turned e.1 g (length ys - 1) m ∙ ap (λ b. cond b (length ys - 1 - m) m) n) (telegram_kept e l (identity_of ys) own (length ys - 1) m g t y k (w t y h)))

  turned_round : turns e.1 g ≡ true → SoundFrom (new_identity e.1 g (identity_of ys)) (length ys - 1) 0 (reverse (each (telegram_after e own g) ys))
  turned_round n =
      let some = s.some in
      sound_reverse (new_identity e.1 g (identity_of ys)) (length ys - 1) (each (telegram_after e own g) ys)
      (sound_down (identity_of ys) (new_identity e.1 g (identity_of ys)) (length ys - 1) (telegram_after e own g) 0 ys (omega (arith, some)) s.telegrams s.tags
      (λ t y m h k. subst (λ p. IsSoundTelegram (new_identity e.1 g (identity_of ys)) (length ys - 1) p (telegram_after e own g t y))
      (place_is_turned e.1 g (length ys - 1) m ∙ ap (λ b. cond b (length ys - 1 - m) m) n) (telegram_kept e l (identity_of ys) own (length ys - 1) m g t y k (w t y h))))

  pub group_kept : (new_identity e.1 g (identity_of ys)).number ≢ reserved → GroupKept (new_identity e.1 g (identity_of ys)) (group_after e own g ys)
  group_kept number =
      let some = s.some in let most = s.most in
      let zs = each (telegram_after e own g) ys in
      let size : length zs ≡ length ys = length-each (telegram_after e own g) ys in
      let u = distinct-each nat_test (telegram_after e own g) ys s.tags in
      subst (GroupKept (new_identity e.1 g (identity_of ys))) (sym (order_is e.1 g zs))
      (split_on (turns e.1 g)
      (λ n. subst (λ b. GroupKept (new_identity e.1 g (identity_of ys)) (cond b (reverse zs) zs)) (sym n)
      (sound_as (new_identity e.1 g (identity_of ys)) (length ys - 1) (reverse zs) (omega (arith, size, some, length-reverse zs)) (omega (arith, size, most, length-reverse zs)) (distinct-reverse nat_test zs u) number (turned_round n)))
      (λ n. subst (λ b. GroupKept (new_identity e.1 g (identity_of ys)) (cond b (reverse zs) zs)) (sym n)
      (sound_as (new_identity e.1 g (identity_of ys)) (length ys - 1) zs (omega (arith, size, some)) (omega (arith, size, most)) u number (as_it_stood n))))
