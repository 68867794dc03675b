-- An accepted edit leaves a header of its form: identity, total and place are those that were, or those that the edit gives.
-- From the plain form of the header and what each edit sets in it.
-- A renumbering gives the new number, a turn the place counted from the other end.
use Rattle.std.proofs.Common.{◌≡◌, ℕ, ◌-◌, true, false, cond, ◌&&◌, eqb, IsTrue, [], option_map, refl, sym, ap, subst, ◌∙◌, arith}
use Rattle.std.proofs.lemmas.Bool.{false≢true, and_parts, ltb-true, lt-ltb}
use Rattle.std.proofs.lemmas.Bool.Decides.{nat_tests}
use Rattle.std.specs.Prelude.{unwrap_or}
use Rattle.balise_rules.specs.declared.tag.Tag.{Tag}
use Rattle.balise_rules.specs.declared.identity.Id.{Id}
use Rattle.balise_rules.specs.declared.variable.Var.{Var}
use Rattle.balise_rules.specs.declared.variable.Var.TheVariants.{NidC, NidBg, MDup, NPig, NTotal, QUpdown, QMedia}
use Rattle.balise_rules.specs.Variables.{width_of, is_free_in_header}
use Rattle.balise_rules.specs.Bits.{fits}
use Rattle.balise_rules.specs.Tagged.{each}
use Rattle.balise_rules.specs.Tags.{Key, same_var, same_tag, same_key, is_of}
use Rattle.balise_rules.specs.Forms.{Fields, Matches, Numbered}
use Rattle.balise_rules.specs.Packet.{value}
use Rattle.balise_rules.specs.Telegram.{Telegram, header, is_balise}
use Rattle.balise_rules.specs.Plan.{IsSoundTelegram}
use Rattle.balise_rules.specs.Accepting.{Lawful}
use Rattle.balise_rules.specs.Edits.{Edit, exchanged, head_after}
use Rattle.balise_rules.specs.declared.tagged_edit.TaggedEdit.TheVariants.{SetHead, Renumber, TurnGroup}
use Rattle.balise_rules.proofs.Tests.{split_on}
use Rattle.balise_rules.proofs.Values.{value-each, value_found}
use Rattle.balise_rules.proofs.Tables.{header_steady}
use Rattle.balise_rules.proofs.Found.{field_fits}
use Rattle.balise_edit_laws.proofs.Headers.{count_in, header_variables, header_has}
use Rattle.balise_edit_laws.proofs.HeadChanges.{fixed_kept, country_fixed, total_fixed, free_other}
use Rattle.balise_edit_laws.proofs.Steady.{Fitting, matches-each, numbered-each}
use Rattle.balise_edit_laws.proofs.FieldsKept.{wide, narrow, fits_if}

-- the identity of a group after an edit
abbrev pub new_identity : Edit → Tag → Id → Id
new_identity (Renumber g0 n) g i = cond (same_tag g0 g) (record { country = i.country; number = n }) i
new_identity e g i = i

-- the place of a telegram after an edit
abbrev pub new_place : Edit → Tag → ℕ → ℕ → ℕ
new_place (TurnGroup g0) g last n = cond (same_tag g0 g) (last - n) n
new_place e g last n = n

-- what soundness asks of a header
pub record HeadSound (i : Id) (last n : ℕ) (hs : Fields) : Type 0 where
  pub header : Matches header hs []
  pub numbered : Numbered hs
  pub balise : is_balise hs ≡ true
  pub country : value NidC 0 hs ≡ i.country
  pub number : value NidBg 0 hs ≡ i.number
  pub place : value NPig 0 hs ≡ n
  pub total : value NTotal 0 hs ≡ last

pub head_of : (i : Id) → (last n : ℕ) → (y : Telegram) → IsSoundTelegram i last n y → HeadSound i last n y.head
head_of i last n y s = record {
  header = s.header;
  numbered = s.numbered;
  balise = s.balise;
  country = ap (λ (j : Id). j.country) s.identity;
  number = ap (λ (j : Id). j.number) s.identity;
  place = s.place;
  total = s.total;
}

-- fits
swapped_double : (n : ℕ) → IsTrue (fits (width_of MDup) n) → IsTrue (fits (width_of MDup) (exchanged 1 2 n))
unfolding width_of
swapped_double n h = let k = ltb-true n 4 h in lt-ltb (exchanged 1 2 n) 4 (grind (arith, nat_tests, k))

counted_back : (total n : ℕ) → IsTrue (fits (width_of NTotal) total) → IsTrue (fits (width_of NPig) (total - n))
unfolding width_of
counted_back total n h = let k = ltb-true total 8 h in lt-ltb (total - n) 8 (omega (arith, k))

head_fits : (e : Edit) → Lawful e → (g : Tag) → (t : ℕ) → (hs : Fields) → IsTrue (fits (width_of NTotal) (value NTotal 0 hs)) → Fitting (head_after e g t hs)
head_fits (SetHead g0 t0 v0 new) l g t hs w key n h =
    fits_if (same_key (v0, 0) key && (same_tag g0 g && eqb t0 t)) (width_of key.0) new n
    (λ e. wide v0 key new (and_parts (same_var v0 key.0) (eqb 0 key.1) (and_parts (same_key (v0, 0) key) _ e).0).0 l.1) (λ e. h)
head_fits (Renumber g0 new) l g t hs w key n h =
    fits_if (is_of NidBg key && same_tag g0 g) (width_of key.0) new n (λ e. wide NidBg key new (and_parts (is_of NidBg key) (same_tag g0 g) e).0 l.0) (λ e. h)
head_fits (TurnGroup g0) l g t hs w key n h =
    fits_if (is_of MDup key && same_tag g0 g) (width_of key.0) (exchanged 1 2 n) (cond (is_of NPig key && same_tag g0 g) (value NTotal 0 hs - n) n)
    (λ e. let d = (and_parts (is_of MDup key) (same_tag g0 g) e).0 in wide MDup key (exchanged 1 2 n) d (swapped_double n (narrow MDup key n d h)))
    (λ e. fits_if (is_of NPig key && same_tag g0 g) (width_of key.0) (value NTotal 0 hs - n) n
    (λ d. wide NPig key (value NTotal 0 hs - n) (and_parts (is_of NPig key) (same_tag g0 g) d).0 (counted_back (value NTotal 0 hs) n w)) (λ d. h))
head_fits e l g t hs w key n h = h

-- the value of a variable that the header has, after a change
value_after : (h : Key → ℕ → ℕ) → (v : Var) → (hs : Fields) → Matches header hs [] → Numbered hs → count_in v header_variables ≡ 1 → value v 0 (each h hs) ≡ h (v, 0) (value v 0 hs)
value_after h v hs m u c =
    let w = header_has v hs m u c in
    value-each h v 0 hs ∙ ap (λ o. unwrap_or (option_map (h (v, 0)) o) 0) w.1 ∙ ap (h (v, 0)) (sym (value_found v 0 w.0 hs w.1))

total_fits : (hs : Fields) → Matches header hs [] → Numbered hs → IsTrue (fits (width_of NTotal) (value NTotal 0 hs))
total_fits hs m u =
    let w = header_has NTotal hs m u refl in
    subst (λ n. IsTrue (fits (width_of NTotal) n)) (sym (value_found NTotal 0 w.0 hs w.1)) (field_fits header hs [] m (NTotal, 0) w.0 w.1)

number_after : (e : Edit) → Lawful e → (i : Id) → (g : Tag) → (t : ℕ) → (hs : Fields) → head_after e g t hs (NidBg, 0) i.number ≡ (new_identity e g i).number
unfolding is_free_in_header
number_after (SetHead g0 t0 v0 new) l i g t hs = let a = free_other v0 NidBg l.0 refl in simp a
number_after (Renumber g0 new) l i g t hs = split_on (same_tag g0 g) (λ e. simp e) (λ e. simp e)
number_after e l i g t hs = refl

country_after : (e : Edit) → (i : Id) → (g : Tag) → (new_identity e g i).country ≡ i.country
country_after (Renumber g0 new) i g = split_on (same_tag g0 g) (λ e. simp e) (λ e. simp e)
country_after e i g = refl

place_after : (e : Edit) → Lawful e → (g : Tag) → (t : ℕ) → (hs : Fields) → (last n : ℕ) → value NTotal 0 hs ≡ last → head_after e g t hs (NPig, 0) n ≡ new_place e g last n
unfolding is_free_in_header
place_after (SetHead g0 t0 v0 new) l g t hs last n q = let a = free_other v0 NPig l.0 refl in simp a
place_after (TurnGroup g0) l g t hs last n q = ap (λ a. cond (same_tag g0 g) (a - n) n) q
place_after e l g t hs last n q = refl

pub head_kept : (e : Edit) → Lawful e → (i : Id) → (last n : ℕ) → (g : Tag) → (t : ℕ) → (hs : Fields) → HeadSound i last n hs → HeadSound (new_identity e g i) last (new_place e g last n) (each (head_after e g t hs) hs)
unfolding is_free_in_header
head_kept e l i last n g t hs s =
    let h = head_after e g t hs in
    let up = fixed_kept e l QUpdown (record { not_free = refl; not_number = refl; not_place = refl; not_double = refl }) g t hs in
    let medium = fixed_kept e l QMedia (record { not_free = refl; not_number = refl; not_place = refl; not_double = refl }) g t hs in
    record {
      header = matches-each (λ v. false) header hs [] header_steady h (λ key m k. absurd (false≢true k)) (head_fits e l g t hs (total_fits hs s.header s.numbered)) s.header;
      numbered = numbered-each h hs s.numbered;
      balise = ap (λ a. eqb a 1 && eqb (value QMedia 0 (each h hs)) 0) up ∙ ap (λ a. eqb (value QUpdown 0 hs) 1 && eqb a 0) medium ∙ s.balise;
      country = fixed_kept e l NidC country_fixed g t hs ∙ s.country ∙ sym (country_after e i g);
      number = value_after h NidBg hs s.header s.numbered refl ∙ ap (h (NidBg, 0)) s.number ∙ number_after e l i g t hs;
      place = value_after h NPig hs s.header s.numbered refl ∙ ap (h (NPig, 0)) s.place ∙ place_after e l g t hs last n s.total;
      total = fixed_kept e l NTotal total_fixed g t hs ∙ s.total;
    }
