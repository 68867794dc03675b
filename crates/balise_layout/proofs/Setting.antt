-- A packet with another value of one of its fields is a packet still, of the same form and length, spelt by the same versions.
use Rattle.std.proofs.Common.{◌≡◌, ℕ, ◌+◌, ◌^◌, ◌<◌, Bool, true, false, IsTrue, cond, List, [], ◌∷◌, ◌++◌, length, Option, Some, unwrap_or, refl, sym, ap, subst, ◌∙◌}
use Rattle.balise_rules.specs.declared.variable.Var.{Var}
use Rattle.balise_rules.specs.declared.variable.Var.TheVariants.{LPacket}
use Rattle.balise_rules.specs.Variables.{width_of, steers}
use Rattle.balise_rules.specs.Bits.{bits, fits, put_at}
use Rattle.balise_rules.specs.Tags.{Key, same_key}
use Rattle.balise_rules.specs.Forms.{Form, done, shut, never, valued, Fields, Matches, Numbered, NumberedFrom, count_of}
use Rattle.balise_rules.specs.Packets.{body}
use Rattle.balise_rules.specs.Packet.{Packet, field_of, value, with_value, bits_of, width, IsSpelt}
use Rattle.balise_rules.specs.Steady.{IsSteady}
use Rattle.balise_rules.proofs.Tables.{headed_steady, body_steady}
use Rattle.balise_rules.proofs.Tests.{key_test, other_no}
use Rattle.balise_rules.proofs.Keys.{count-append, numbered_distinct}
use Rattle.balise_rules.proofs.Used.{width-each}
use Rattle.balise_rules.proofs.Lists.{find-each}
use Rattle.balise_rules.proofs.Cases.{map_itself}
use Rattle.balise_layout.specs.Held.{headed, Holds, with_field, before}
use Rattle.balise_layout.proofs.Places.{put_spelling}
use Rattle.balise_layout.proofs.Walks.{is_fit}
use Rattle.balise_layout.proofs.First.{spells_holds, holds_spells}

-- the fields stay of their form, where the variable isn't one that says what follows
pub Matches-with_value : (S : Var → Bool) (form : Form) (fs : Fields) (raw : List Bool) (v : Var) (k n : ℕ) → IsSteady S form → S v ≡ false → n < 2 ^ width_of v → Matches form fs raw → Matches form (with_value v k n fs) raw
Matches-with_value S done [] raw v k n s free fit m = m
Matches-with_value S done (f ∷ fs) raw v k n s free fit m = absurd m
Matches-with_value S shut [] raw v k n s free fit m = m
Matches-with_value S shut (f ∷ fs) raw v k n s free fit m = absurd m
Matches-with_value S never fs raw v k n s free fit m = absurd m
Matches-with_value S (valued w next) [] raw v k n s free fit m = absurd m
Matches-with_value S (valued w next) (f ∷ fs) raw v k n s free fit m = at (same_key (v, k) f.0) refl (Matches-with_value S (next f.1) fs raw v k n (s.1 f.1) free fit m.2)
  where
    at : (b : Bool) → same_key (v, k) f.0 ≡ b → Matches (next f.1) (with_value v k n fs) raw → (f.0.0 ≡ w) × IsTrue (fits (width_of w) (cond b n f.1)) × Matches (next (cond b n f.1)) (with_value v k n fs) raw
    at true is later =
        let v_is : v ≡ w = ap (λ (x : Key). x.0) (key_test.one (v, k) f.0 is) ∙ m.0 in
        (m.0, is_fit (width_of w) n (subst (λ (x : Var). n < 2 ^ width_of x) v_is fit), subst (λ (x : Form). Matches x (with_value v k n fs) raw) (s.0 (ap S (sym v_is) ∙ free) f.1 n) later)
    at false is later = (m.0, m.1, later)

-- two keys that aren't one
abbrev pub Apart : Key → Key → Type 0
Apart a b = a ≡ b → ⊥

-- two lists of fields in which each variable stands as often
abbrev SameCounts : Fields → Fields → Type 0
SameCounts a b = (w : Var) → count_of w a ≡ count_of w b

numbered_again : (v : Var) (k n : ℕ) (a b fs : Fields) → SameCounts a b → NumberedFrom a fs → NumberedFrom b (with_value v k n fs)
numbered_again v k n a b [] same m = tt
numbered_again v k n a b (f ∷ fs) same m =
    let g : Key × ℕ = (f.0, cond (same_key (v, k) f.0) n f.1) in
    let more : SameCounts (a ++ f ∷ []) (b ++ g ∷ []) = λ w. count-append w a (f ∷ []) ∙ ap (λ (x : ℕ). x + count_of w (f ∷ [])) (same w) ∙ sym (count-append w b (g ∷ [])) in
    (m.0 ∙ same f.0.0, numbered_again v k n (a ++ f ∷ []) (b ++ g ∷ []) fs more m.1)

pub Numbered-with_value : (v : Var) (k n : ℕ) (fs : Fields) → Numbered fs → Numbered (with_value v k n fs)
Numbered-with_value v k n fs m = numbered_again v k n [] [] fs (λ w. refl) m

-- another field keeps its value
pub field_of-other : (v : Var) (k n : ℕ) (w : Var) (j : ℕ) (fs : Fields) → Apart (v, k) (w, j) → field_of w j (with_value v k n fs) ≡ field_of w j fs
field_of-other v k n w j fs h =
    let other = other_no key_test (v, k) (w, j) h in
    find-each key_test (λ key old. cond (same_key (v, k) key) n old) (w, j) fs ∙ sym (map_itself (λ old. cond (same_key (v, k) (w, j)) n old) (λ x. simp other) (field_of w j fs))

-- the packet stays as long
pub width-with_field : (v : Var) (k n : ℕ) (p : Packet) → width (with_field v k n p) ≡ width p
width-with_field v k n p = width-each (λ key old. cond (same_key (v, k) key) n old) p

steers_apart : (v w : Var) (k j : ℕ) → steers v ≡ false → steers w ≡ true → Apart (v, k) (w, j)
steers_apart v w k j a b e = let same : false ≡ true = sym a ∙ ap (λ (x : Key). steers x.0) e ∙ b in absurd cc

pub value_stays : (v w : Var) (k n j : ℕ) (fs : Fields) → steers v ≡ false → steers w ≡ true → value w j (with_value v k n fs) ≡ value w j fs
value_stays v w k n j fs a b = ap (λ (o : Option ℕ). unwrap_or o 0) (field_of-other v k n w j fs (steers_apart v w k j a b))

-- ---- the packet

pub Holds-with_field : (next : ℕ → Form) (b : List Bool) (p : Packet) (v : Var) (k n : ℕ) → ((m : ℕ) → IsSteady steers (next m)) → steers v ≡ false → n < 2 ^ width_of v → Holds next b p → Holds next (bits_of (with_field v k n p)) (with_field v k n p)
unfolding steers
Holds-with_field next b p v k n s free fit h =
    let steady : IsSteady steers (headed next) = headed_steady next s in
    record {
      spelt = refl;
      form = Matches-with_value steers (headed next) p.fields p.rest v k n steady free fit h.form;
      numbered = Numbered-with_value v k n p.fields h.numbered;
      said = value_stays v LPacket k n 0 p.fields free refl ∙ h.said ∙ ap length h.spelt ∙ sym (width-with_field v k n p);
    }

-- another value put where the field stands
pub Holds-put : (next : ℕ → Form) (b : List Bool) (p : Packet) (v : Var) (k n d : ℕ) → ((m : ℕ) → IsSteady steers (next m)) → steers v ≡ false → n < 2 ^ width_of v → Holds next b p → before (v, k) p.fields ≡ Some d → Holds next (put_at d (bits (width_of v) n) b) (with_field v k n p)
Holds-put next b p v k n d s free fit h at =
    let new : put_at d (bits (width_of v) n) b ≡ bits_of (with_field v k n p) = ap (put_at d (bits (width_of v) n)) h.spelt ∙ put_spelling v k n p.fields p.rest d (numbered_distinct [] p.fields h.numbered) at in
    subst (λ (x : List Bool). Holds next x (with_field v k n p)) (sym new) (Holds-with_field next b p v k n s free fit h)

-- a version that spells the packet spells it so too
pub IsSpelt-with_field : (version : ℕ) (p : Packet) (v : Var) (k n : ℕ) → steers v ≡ false → n < 2 ^ width_of v → IsSpelt version p → IsSpelt version (with_field v k n p)
IsSpelt-with_field version p v k n free fit s =
    holds_spells version (bits_of (with_field v k n p)) (with_field v k n p) (Holds-with_field (body version) (bits_of p) p v k n (body_steady version) free fit (spells_holds version (bits_of p) p s))
