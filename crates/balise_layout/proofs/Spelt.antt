-- What reads as a packet is spelt by it, and what a packet spells is read as it.
use Rattle.std.proofs.Common.{◌≡◌, ℕ, ◌^◌, ◌<◌, ◌≤◌, Bool, List, [], ◌∷◌, ◌++◌, length, take, drop, Some, sym, ap, subst, ◌∙◌, append_assoc, arith, length-append}
use Rattle.std.proofs.lemmas.List.{take_at, drop_at, append-nil}
use Rattle.balise_rules.specs.declared.variable.Var.{Var}
use Rattle.balise_rules.specs.declared.variable.Var.TheVariants.{NidPacket, QDir, LPacket}
use Rattle.balise_rules.specs.Variables.{width_of}
use Rattle.balise_rules.specs.Bits.{num, bits}
use Rattle.balise_rules.specs.Forms.{Form, Fields, Matches, Numbered, count_of, spelling, read_form}
use Rattle.balise_rules.specs.Packet.{Packet, value, length_said}
use Rattle.balise_rules.proofs.Numbers.{length-bits, num-bits_fit}
use Rattle.balise_rules.proofs.Spelt.{read_found, read_again}
use Rattle.balise_layout.specs.Held.{headed, Holds, held, packet_or_none, IsHeld}
use Rattle.balise_layout.proofs.Walks.{fits_is}

-- what a packet's fields spell is read as they
pub read_spelling : (form : Form) (fs : Fields) (raw : List Bool) → Matches form fs raw → Numbered fs → read_form form [] (spelling fs ++ raw) ≡ Some (fs, raw)
read_spelling form fs raw m n = read_again form [] fs raw m n

-- what is read of bits
pub record IsRead (form : Form) (b : List Bool) (fs : Fields) (raw : List Bool) : Type 0 where
  pub spelt : b ≡ spelling fs ++ raw
  pub matches : Matches form fs raw
  pub numbered : Numbered fs

pub read_is : (form : Form) (b : List Bool) (fs : Fields) (raw : List Bool) → read_form form [] b ≡ Some (fs, raw) → IsRead form b fs raw
read_is form b fs raw e =
    let f = read_found form [] b (fs, raw) e in
    let own : f.fields ≡ fs = sym f.all in
    subst (λ (x : Fields). IsRead form b x raw) own (record { spelt = f.spelt; matches = f.matched; numbered = f.numbered })

-- ---- the first three fields

pub record Head (next : ℕ → Form) (fs : Fields) (raw : List Bool) : Type 0 where
  pub number : ℕ
  pub dir : ℕ
  pub size : ℕ
  pub more : Fields
  pub is : fs ≡ ((NidPacket, 0), number) ∷ ((QDir, 0), dir) ∷ ((LPacket, 0), size) ∷ more
  pub matches : Matches (next number) more raw
  pub fits_number : number < 2 ^ width_of NidPacket
  pub fits_dir : dir < 2 ^ width_of QDir
  pub fits_size : size < 2 ^ width_of LPacket

pub head_of : (next : ℕ → Form) (fs : Fields) (raw : List Bool) → Matches (headed next) fs raw → Numbered fs → Head next fs raw
head_of next [] raw m n = absurd m
head_of next (f ∷ []) raw m n = absurd m.2
head_of next (f ∷ g ∷ []) raw m n = absurd m.2.2
head_of next (((v, k), a) ∷ ((w, i), b) ∷ ((x, j), c) ∷ more) raw m n =
    let v_is : v ≡ NidPacket = m.0 in
    let w_is : w ≡ QDir = m.2.0 in
    let x_is : x ≡ LPacket = m.2.2.0 in
    let k_is : k ≡ 0 = n.0 in
    let i_is : i ≡ 0 = n.1.0 ∙ ap (λ (y : Var). count_of y (((v, k), a) ∷ [])) w_is ∙ ap (λ (y : Var). count_of QDir (((y, k), a) ∷ [])) v_is in
    let j_is : j ≡ 0 = n.1.1.0 ∙ ap (λ (y : Var). count_of y (((v, k), a) ∷ ((w, i), b) ∷ [])) x_is ∙ ap (λ (y : Var). count_of LPacket (((y, k), a) ∷ ((w, i), b) ∷ [])) v_is ∙ ap (λ (y : Var). count_of LPacket (((NidPacket, k), a) ∷ ((y, i), b) ∷ [])) w_is in
    record {
      number = a;
      dir = b;
      size = c;
      more = more;
      is = cc;
      matches = m.2.2.2;
      fits_number = fits_is (width_of NidPacket) a m.1;
      fits_dir = fits_is (width_of QDir) b m.2.1;
      fits_size = fits_is (width_of LPacket) c m.2.2.1;
    }

-- the first 23 bits of a packet, whatever stands after it
pub record Front (b : List Bool) (number size : ℕ) : Type 0 where
  pub long : 23 ≤ length b
  pub has_number : num (take 8 b) ≡ number
  pub has_size : length_said b ≡ size

pub front_of : (next : ℕ → Form) (fs : Fields) (raw behind : List Bool) (h : Head next fs raw) → Front ((spelling fs ++ raw) ++ behind) h.number h.size
unfolding spelling width_of
front_of next fs raw behind h =
    let a = bits 8 h.number in
    let b = bits 2 h.dir in
    let c = bits 13 h.size in
    let more = (spelling h.more ++ raw) ++ behind in
    let a_size : length a ≡ 8 = length-bits 8 h.number in
    let b_size : length b ≡ 2 = length-bits 2 h.dir in
    let c_size : length c ≡ 13 = length-bits 13 h.size in
    let whole : (spelling fs ++ raw) ++ behind ≡ a ++ (b ++ (c ++ more)) = ap (λ (x : Fields). (spelling x ++ raw) ++ behind) h.is ∙ simp append_assoc in
    let ab_size : length (a ++ b) ≡ 10 = length-append a b ∙ omega arith in
    let apart : drop 10 (a ++ (b ++ (c ++ more))) ≡ c ++ more = ap (drop 10) (sym (append_assoc a b (c ++ more))) ∙ drop_at (a ++ b) (c ++ more) 10 ab_size in
    record {
      long = omega (arith, ap length whole, length-append a (b ++ (c ++ more)), length-append b (c ++ more), length-append c more);
      has_number = ap (λ (x : List Bool). num (take 8 x)) whole ∙ ap num (take_at a (b ++ (c ++ more)) 8 a_size) ∙ num-bits_fit 8 h.number h.fits_number;
      has_size = ap (λ (x : List Bool). num (take 13 (drop 10 x))) whole ∙ ap (λ (x : List Bool). num (take 13 x)) apart ∙ ap num (take_at c more 13 c_size) ∙ num-bits_fit 13 h.size h.fits_size;
    }

pub front_alone : (next : ℕ → Form) (fs : Fields) (raw : List Bool) (h : Head next fs raw) → Front (spelling fs ++ raw) h.number h.size
front_alone next fs raw h = subst (λ (x : List Bool). Front x h.number h.size) (append-nil (spelling fs ++ raw)) (front_of next fs raw [] h)

pub said_is : (next : ℕ → Form) (fs : Fields) (raw : List Bool) (h : Head next fs raw) → value LPacket 0 fs ≡ h.size
said_is next fs raw h = ap (value LPacket 0) h.is

pub number_is : (next : ℕ → Form) (fs : Fields) (raw : List Bool) (h : Head next fs raw) → value NidPacket 0 fs ≡ h.number
number_is next fs raw h = ap (value NidPacket 0) h.is

-- ---- what bits hold

pub holds_read : (next : ℕ → Form) (b : List Bool) (fs : Fields) (raw : List Bool) → read_form (headed next) [] b ≡ Some (fs, raw) → length_said b ≡ length b → Holds next b (record { fields = fs; rest = raw })
holds_read next b fs raw e said =
    let r = read_is (headed next) b fs raw e in
    let h = head_of next fs raw r.matches r.numbered in
    let f = subst (λ (x : List Bool). Front x h.number h.size) (sym r.spelt) (front_alone next fs raw h) in
    record { spelt = r.spelt; form = r.matches; numbered = r.numbered; said = said_is next fs raw h ∙ sym f.has_size ∙ said }

pub read_holds : (next : ℕ → Form) (b : List Bool) (p : Packet) → Holds next b p → read_form (headed next) [] b ≡ Some (p.fields, p.rest)
read_holds next b p h = ap (read_form (headed next) []) h.spelt ∙ read_spelling (headed next) p.fields p.rest h.form h.numbered

pub held_is : (next : ℕ → Form) (b : List Bool) (p : Packet) → Holds next b p → held next b ≡ p
unfolding held
held_is next b p h = ap packet_or_none (read_holds next b p h)

pub is_held : (next : ℕ → Form) (b : List Bool) (p : Packet) → Holds next b p → IsHeld next b
is_held next b p h = subst (λ (q : Packet). Holds next b q) (sym (held_is next b p h)) h
