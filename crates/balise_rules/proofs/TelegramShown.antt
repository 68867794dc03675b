-- What a telegram shows after reading is what was read, bit for bit, padding included.
-- From the parts that reading finds, by counting how many bits stand before the padding.
use Rattle.std.proofs.Common.{◌≡◌, ℕ, ◌+◌, ◌≤◌, Bool, true, ◌||◌, not, eqb, inl, inr, List, [], ◌∷◌, ◌++◌, length, drop, Result, Ok, Err, refl, sym, ap, subst, ◌∙◌, append_assoc, arith, length-append}
use Rattle.std.proofs.lemmas.Bool.{eqb-true, not-false}
use Rattle.std.proofs.lemmas.List.{drop_at, take-append-drop, length-take, length-replicate}
use Rattle.balise_rules.specs.declared.variable.Var.TheVariants.{MVersion}
use Rattle.balise_rules.specs.declared.refusal.Refusal.{Refusal}
use Rattle.balise_rules.specs.declared.tag.Tag.{Tag}
use Rattle.balise_rules.specs.Bits.{ones}
use Rattle.balise_rules.specs.Forms.{spelling}
use Rattle.balise_rules.specs.Packet.{Packet, bits_of, value}
use Rattle.balise_rules.specs.Telegram.{Telegram, is_balise, used, packets_bits, IsLength, IsRead, read_packets, read_header, with_header, read_telegram}
use Rattle.balise_rules.proofs.TelegramRead.{packets_found, header_found}
use Rattle.balise_rules.proofs.Cases.{unok, unless}
use Rattle.balise_rules.proofs.Tests.{split_on}

-- header and packet 255 take 58 bits
pub used_is : (ps : List (Tag × Packet)) → length (packets_bits ps) + 58 ≡ used ps
used_is [] = refl
used_is (p ∷ ps) = omega (arith, length-append (bits_of p.1) (packets_bits ps), used_is ps)

length_is : (n : ℕ) → (eqb n 210 || eqb n 830) ≡ true → IsLength n
length_is n h = split_on (eqb n 210) (λ p. inl (eqb-true n 210 p)) (λ p. inr (eqb-true n 830 (simp p at h)))

least : (n : ℕ) → IsLength n → 50 ≤ n
least n (inl e) = omega (arith, e)
least n (inr e) = omega (arith, e)

-- the telegram of a header, packets and what stands after packet 255
made_of : (b : List Bool) → IsLength (length b) → is_balise (read_header b) ≡ true → (r : List (Tag × Packet) × List Bool) → read_packets (length b) (value MVersion 0 (read_header b)) 0 (drop 50 b) ≡ Ok r → IsRead b (record { head = read_header b; packets = r.0; padding = ones (used r.0) ++ r.1 })
made_of b size balise r e =
    let h = header_found b (least (length b) size) in
    let p = packets_found (length b) (value MVersion 0 (read_header b)) 0 (drop 50 b) r e in
    let head = spelling (read_header b) in
    let fifty : length head ≡ 50 = ap length (sym h.spelt) ∙ omega (arith, length-take 50 b, least (length b) size) in
    let before : List Bool = head ++ (packets_bits r.0 ++ ones 8) in
    let parts : b ≡ head ++ (packets_bits r.0 ++ (ones 8 ++ r.1)) = sym (take-append-drop 50 b) ∙ ap (λ (x : List Bool). x ++ drop 50 b) h.spelt ∙ ap (λ (x : List Bool). head ++ x) p.parts in
    let two : b ≡ before ++ r.1 = parts ∙ ap (λ (x : List Bool). head ++ x) (sym (append_assoc (packets_bits r.0) (ones 8) r.1)) ∙ sym (append_assoc head (packets_bits r.0 ++ ones 8) r.1) in
    let count : length before ≡ used r.0 = omega (arith, length-append head (packets_bits r.0 ++ ones 8), length-append (packets_bits r.0) (ones 8), fifty, used_is r.0) in
    let left : drop (used r.0) b ≡ r.1 = ap (drop (used r.0)) two ∙ drop_at before r.1 (used r.0) count in
    let kept : drop (used r.0) (ones (used r.0) ++ r.1) ≡ r.1 = drop_at (ones (used r.0)) r.1 (used r.0) (length-replicate (used r.0) true) in
    record {
      size = size;
      header = h.form;
      numbered = h.numbered;
      balise = balise;
      tags = p.tags;
      packets = p.packets;
      shows = ap (λ (x : List Bool). head ++ (packets_bits r.0 ++ (ones 8 ++ x))) kept ∙ sym parts;
      padding = ap (λ (x : List Bool). ones (used r.0) ++ x) (sym left);
    }

pub telegram_read : (b : List Bool) (y : Telegram) → read_telegram b ≡ Ok y → IsRead b y
unfolding read_telegram
telegram_read b y e =
    let sized = unless (not (eqb (length b) 210 || eqb (length b) 830)) _ _ y e in
    let headed = unless (not (is_balise (read_header b))) _ _ y sized.1 in
    at_end (length_is (length b) (not-false _ sized.0)) (not-false _ headed.0) _ refl headed.1
  where
    at_end : IsLength (length b) → is_balise (read_header b) ≡ true → (r : Result (List (Tag × Packet) × List Bool) Refusal) → read_packets (length b) (value MVersion 0 (read_header b)) 0 (drop 50 b) ≡ r → with_header (read_header b) r ≡ Ok y → IsRead b y
    at_end size balise (Err x) h e = absurd cc
    at_end size balise (Ok r) h e = subst (λ (x : Telegram). IsRead b x) (unok e) (made_of b size balise r h)
