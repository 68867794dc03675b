-- What the codec's calls find, as what digits are explained as.
use Rattle.std.proofs.Common.{◌≡◌, ◌∙◌, inl, inr, ℕ, ◌+◌, ◌==◌, ◌&&◌, ◌≤◌, Bool, true, List, [], ◌∷◌, ◌++◌, length, take, drop, Option, IsSome, Some, None, Ok, Err, refl, sym, ap, subst, append_assoc, append-nil, length-append, arith}
use Rattle.std.proofs.lemmas.List.{length-drop, length-take, take_all}
use Rattle.std.proofs.lemmas.List.Elements.{All-push}
use Rattle.balise_rules.specs.declared.refusal.Refusal.{Refusal}
use Rattle.balise_rules.specs.declared.tag.Tag.{Tag}
use Rattle.balise_rules.specs.declared.tag.Tag.TheVariants.{Base}
use Rattle.balise_rules.specs.declared.variable.Var.TheVariants.{MVersion}
use Rattle.balise_rules.specs.Bits.{part}
use Rattle.balise_rules.specs.Forms.{spelling}
use Rattle.balise_rules.specs.Packet.{Packet, bits_of, value, IsSpelt, read_first}
use Rattle.balise_rules.specs.Telegram.{IsLength, is_balise, packets_bits, read_header, read_packets, read_telegram}
use Rattle.balise_rules.proofs.PacketRead.{first_found}
use Rattle.balise_layout.specs.Collected.{all_keyed}
use Rattle.balise_telegram.specs.declared.fault.TelegramFault.{TelegramFault}
use Rattle.balise_codec.specs.declared.reach.Reach.{Reach}
use Rattle.balise_codec.specs.declared.stop.Stop.{Stop}
use Rattle.balise_codec.specs.Heads.{Tells}
use Rattle.balise_codec.specs.Stops.{EndsAt, IsLongest, IsStop}
use Rattle.balise_codec.proofs.Placing.{packets_decide}
use Rattle.balise_fields.specs.declared.explained.Explained.{Explained}
use Rattle.balise_fields.specs.declared.explained.Explained.TheVariants as explained
use Rattle.balise_fields.specs.Explaining.{IsBegun, IsTelegramBegun, Stops}

abbrev Tagged : Type 0
Tagged = Tag × Packet

front_within : (b x y : List Bool) → b ≡ x ++ y → length x ≤ length b
front_within b x y e = omega (arith, ap length e, length-append x y)

-- what isn't None is there
pub some_of : {A : Type 0} → (o : Option A) → (o ≡ None → ⊥) → IsSome o
some_of None f = absurd (f refl)
some_of (Some x) f = refl

-- the fields before a fault stand among the bits
pub reach_fits : (version : ℕ) (b : List Bool) (at : ℕ) (r : Reach) → Tells version b at (Some r) → length (spelling (all_keyed r.fields.items)) ≤ length b
reach_fits version b at r t = elim t.1 [
  | inl h ↦ front_within b (spelling (all_keyed r.fields.items)) h.0 h.1.parts
  | inr h ↦ (let k : length (spelling (all_keyed r.fields.items)) ≤ length (take h.1 b) = front_within (take h.1 b) (spelling (all_keyed r.fields.items)) h.3.0 h.3.1.parts in omega (arith, k, length-take h.1 b))
]

packets_bits-push : (read : List Tagged) (x : Tagged) (c : List Bool) → packets_bits read ++ (bits_of x.1 ++ c) ≡ packets_bits (read ++ x ∷ []) ++ c
packets_bits-push [] x c = ap (λ (y : List Bool). y ++ c) (sym (append-nil (bits_of x.1)))
packets_bits-push (p ∷ read) x c = append_assoc (bits_of p.1) (packets_bits read) (bits_of x.1 ++ c) ∙ ap (λ (y : List Bool). bits_of p.1 ++ y) (packets_bits-push read x c) ∙ sym (append_assoc (bits_of p.1) (packets_bits (read ++ x ∷ [])) c)

-- no packet stands where the packets end
pub none_after : (version : ℕ) (b : List Bool) (stop : Stop) (read : List Tagged) → IsStop version b stop read → IsLongest version b stop.count → (p : Packet) (after : List Bool) → read_first version (drop stop.at b) ≡ Ok (p, after) → ⊥
none_after version b stop read s l p after e =
    let x : Tagged = (Base 0, p) in
    let f = first_found version (drop stop.at b) (p, after) e in
    let stands : drop 50 b ≡ packets_bits (read ++ x ∷ []) ++ after = s.1.stand ∙ ap (λ (y : List Bool). packets_bits read ++ y) f.parts ∙ packets_bits-push read x after in
    let most = l (read ++ x ∷ []) after (All-push (λ (q : Tagged). IsSpelt version q.1) read x s.1.spelt f.spelt) stands in
    absurd (omega (arith, most, length-append read (x ∷ []), s.0))

-- where packet 255 ends them, the telegram is read
pub end_is_read : (version : ℕ) (b : List Bool) (at : ℕ) (read : List Tagged) (o : Option TelegramFault) (e : Refusal) → o ≡ None → EndsAt version b at read o → IsLength (length b) → is_balise (read_header b) ≡ true → version ≡ value MVersion 0 (read_header b) → read_telegram b ≡ Err e → ⊥
end_is_read version b at read o e n s h i v r =
    let ends : read_packets (length b) version 0 (drop 50 b) ≡ Ok (read, drop (at + 8) b) = subst (EndsAt version b at read) n s in
    let read_so = sym r ∙ packets_decide b version (Ok (read, drop (at + 8) b)) h i v ends in absurd cc

-- ---- a packet that is read

pub fields_fit : (p : Packet) (b : List Bool) → b ≡ bits_of p → length (spelling p.fields) ≤ length b
fields_fit p b e = front_within b (spelling p.fields) p.rest e

pub rest_part : (p : Packet) (b : List Bool) (n k : ℕ) → b ≡ bits_of p → n ≡ length (spelling p.fields) → n + k ≡ length b → part n k b ≡ p.rest
rest_part p b n k e f g =
    let s = spelling p.fields in
    let d : drop n b ≡ p.rest = ap (λ (m : ℕ). drop m b) f ∙ ap (drop (length s)) e ∙ after s p.rest in
    let l : length (drop n b) ≡ k = omega (arith, length-drop n b, g) in
    take_all k (drop n b) (omega (arith, l)) ∙ d
  where
    after : (x y : List Bool) → drop (length x) (x ++ y) ≡ y
    after [] y = refl
    after (a ∷ x) y = after x y

-- ---- a header

pub balise_numbers : (q m : ℕ) → q ≡ 1 → m ≡ 0 → (q == 1 && m == 0) ≡ true
balise_numbers q m e f = rw (e, f) refl

pub begun_of : (b : List Bool) (version : ℕ) (x : Explained) → version ≡ value MVersion 0 (read_header b) → is_balise (read_header b) ≡ true
    → IsBegun (λ y. (y.len ≡ length b) × Stops b version y) x → IsBegun (IsTelegramBegun b) x
begun_of b version (explained.Begun y) v i h = (h.0, inr (inr (i, subst (λ (k : ℕ). Stops b k y) v h.1)))
begun_of b version explained.Plan v i h = h
begun_of b version explained.Group v i h = h
begun_of b version (explained.Telegram n t) v i h = h
begun_of b version (explained.Packet k x) v i h = h
begun_of b version (explained.PacketBegun k fs f) v i h = h
begun_of b version (explained.Digits f) v i h = h
