-- The first three fields are read exactly where number and length are a packet's.
use Rattle.std.proofs.Common.{◌≡◌, ◌∙◌, ℕ, ◌+◌, ◌-◌, ◌≤◌, Bool, true, false, cond, eqb, ltb, ◌||◌, List, [], ◌∷◌, ◌++◌, length, take, drop, Option, Some, None, Result, Ok, Err, inr, refl, sym, ap, subst, length-append, arith}
use Rattle.std.proofs.lemmas.Bool.{ltb-false, le-ltb, or_parts}
use Rattle.std.proofs.lemmas.List.{length-drop, drop-drop, take_all}
use Rattle.std.specs.Result.{IfOk}
use Rattle.balise_rules.specs.declared.variable.Var.{Var}
use Rattle.balise_rules.specs.declared.refusal.Refusal.{Refusal}
use Rattle.balise_rules.specs.declared.variable.Var.TheVariants.{NidPacket, QDir, LPacket}
use Rattle.balise_rules.specs.Variables.{width_of}
use Rattle.balise_rules.specs.Bits.{num, part}
use Rattle.balise_rules.specs.Forms.{Form, done, never, valued, Fields, count_of, read_form}
use Rattle.balise_rules.specs.Packet.{Packet, bits_of, length_said, read_first, read_packet}
use Rattle.balise_rules.proofs.PacketAgain.{front_of, said_again}
use Rattle.balise_rules.proofs.PacketRead.{first_found}
use Rattle.balise_layout.specs.First.{Bounded}
use Rattle.balise_layout.specs.declared.fault.LayoutFault.{LayoutFault}
use Rattle.balise_layout.proofs.Refused.{bounded_reads}
use Rattle.balise_codec.specs.declared.reach.Reach.{Reach}
use Rattle.balise_codec.specs.declared.trace.Due.TheVariants.{End}
use Rattle.balise_codec.specs.Heads.{head, Tells}
use Rattle.balise_codec.specs.Traces.{Reaches, Stopped, Trace, trace}
use Rattle.balise_codec.proofs.Tracing.{traced, trace_fails, trace_reads}

abbrev Read : Type 0
Read = Fields × List Bool

-- a field that was read, and what is read after it
field_read : (v : Var) (next : ℕ → Form) (seen : Fields) (b : List Bool) (r : Read) → read_form (valued v next) seen b ≡ Some r → (width_of v ≤ length b) × (read_form (next (num (take (width_of v) b))) (seen ++ ((v, count_of v seen), num (take (width_of v) b)) ∷ []) (drop (width_of v) b) ≡ Some r)
unfolding read_form
field_read v next seen b r h = by (ltb (length b) (width_of v)) refl h
  where
    by : (g : Bool) → ltb (length b) (width_of v) ≡ g → cond g None (read_form (next (num (take (width_of v) b))) (seen ++ ((v, count_of v seen), num (take (width_of v) b)) ∷ []) (drop (width_of v) b)) ≡ Some r → (width_of v ≤ length b) × (read_form (next (num (take (width_of v) b))) (seen ++ ((v, count_of v seen), num (take (width_of v) b)) ∷ []) (drop (width_of v) b) ≡ Some r)
    by true g h = absurd cc
    by false g h = (ltb-false _ _ g, h)

-- a choice that was read isn't the one that never is
choice_read : (c : Bool) (form : Form) (seen : Fields) (b : List Bool) (r : Read) → read_form (cond c never form) seen b ≡ Some r → (c ≡ false) × (read_form form seen b ≡ Some r)
unfolding read_form
choice_read true form seen b r h = absurd cc
choice_read false form seen b r h = (refl, h)

pub head_bounded : (b : List Bool) (r : Read) → read_form (head (length b)) [] b ≡ Some r → Bounded b (num (take 8 b)) (length_said b)
unfolding head width_of
head_bounded b r h =
    let one = field_read NidPacket _ [] b r h in
    let k = num (take 8 b) in
    let real = choice_read (eqb k 0 || eqb k 255) _ _ (drop 8 b) r one.1 in
    let parts = or_parts (eqb k 0) (eqb k 255) real.0 in
    let two = field_read QDir _ _ (drop 8 b) r real.1 in
    let three = field_read LPacket _ _ (drop 2 (drop 8 b)) r two.1 in
    let said : num (take 13 (drop 2 (drop 8 b))) ≡ length_said b = ap (λ (x : List Bool). num (take 13 x)) (drop-drop 2 8 b) in
    let fit = choice_read (ltb (num (take 13 (drop 2 (drop 8 b)))) 23 || ltb (length b) (num (take 13 (drop 2 (drop 8 b))))) _ _ _ r three.1 in
    let sizes = or_parts (ltb (num (take 13 (drop 2 (drop 8 b)))) 23) (ltb (length b) (num (take 13 (drop 2 (drop 8 b))))) fit.0 in
    record {
      has_number = refl;
      not_zero = parts.0;
      not_end = parts.1;
      has_size = refl;
      least = omega (arith, said, ltb-false _ _ sizes.0);
      within = omega (arith, said, ltb-false _ _ sizes.1);
    }

-- ---- and where they aren't, no packet is read

choice_other : (c : Bool) (form : Form) (seen : Fields) (b : List Bool) → c ≡ false → read_form (cond c never form) seen b ≡ read_form form seen b
choice_other c form seen b e = ap (λ (x : Bool). read_form (cond x never form) seen b) e

field_there : (v : Var) (next : ℕ → Form) (seen : Fields) (b : List Bool) → width_of v ≤ length b → read_form (valued v next) seen b ≡ read_form (next (num (take (width_of v) b))) (seen ++ ((v, count_of v seen), num (take (width_of v) b)) ∷ []) (drop (width_of v) b)
unfolding read_form
field_there v next seen b h = let e : ltb (length b) (width_of v) ≡ false = le-ltb _ _ h in rw e refl

done_read : (seen : Fields) (b : List Bool) → read_form done seen b ≡ Some (seen, b)
unfolding read_form
done_read seen b = refl

neither : (a b : Bool) → a ≡ false → b ≡ false → (a || b) ≡ false
neither a b e f = rw (e, f) refl

bounded_head : (b : List Bool) (number size : ℕ) → Bounded b number size → (r : Read) × (read_form (head (length b)) [] b ≡ Some r)
unfolding head width_of
bounded_head b number size h =
    let k = num (take 8 b) in
    let l = num (take 13 (drop 2 (drop 8 b))) in
    let said : l ≡ size = ap (λ (x : List Bool). num (take 13 x)) (drop-drop 2 8 b) ∙ h.has_size in
    let real : (eqb k 0 || eqb k 255) ≡ false = neither _ _ (ap (λ (x : ℕ). eqb x 0) h.has_number ∙ h.not_zero) (ap (λ (x : ℕ). eqb x 255) h.has_number ∙ h.not_end) in
    let fit : (ltb l 23 || ltb (length b) l) ≡ false = neither _ _ (le-ltb l 23 (omega (arith, said, h.least))) (le-ltb (length b) l (omega (arith, said, h.within))) in
    let long : 23 ≤ length b = omega (arith, h.least, h.within) in (
      _,
      field_there NidPacket _ [] b (omega (arith, long))
          ∙ choice_other (eqb k 0 || eqb k 255) _ _ (drop 8 b) real
          ∙ field_there QDir _ _ (drop 8 b) (omega (arith, long, length-drop 8 b))
          ∙ field_there LPacket _ _ (drop 2 (drop 8 b)) (omega (arith, long, length-drop 8 b, length-drop 2 (drop 8 b)))
          ∙ choice_other (ltb l 23 || ltb (length b) l) _ _ _ fit
          ∙ done_read _ _,
    )

read_bounded : (version : ℕ) (b : List Bool) (p : Packet) (after : List Bool) → read_first version b ≡ Ok (p, after) → (number : ℕ) × (size : ℕ) × Bounded b number size
read_bounded version b p after e =
    let f = first_found version b (p, after) e in
    let front = front_of version p f.spelt in
    let said : length_said b ≡ length (bits_of p) = ap length_said f.parts ∙ said_again version p after f.spelt in (
      front.number,
      length (bits_of p),
      record {
        has_number = ap (λ (x : List Bool). num (take 8 x)) f.parts ∙ front.is after;
        not_zero = front.some;
        not_end = front.no_end;
        has_size = said;
        least = front.least;
        within = omega (arith, ap length f.parts, length-append (bits_of p) after);
      },
    )

pub head_refused : (version : ℕ) (b : List Bool) → read_form (head (length b)) [] b ≡ None → (e : Refusal) × (read_first version b ≡ Err e)
head_refused version b h = by (read_first version b) refl
  where
    differ : (x : Read) (o : Option Read) → o ≡ None → o ≡ Some x → ⊥
    differ x o e f = let both : ◌≡◌ {A = Option Read} None (Some x) = sym e ∙ f in absurd cc

    by : (r : Result (Packet × List Bool) Refusal) → read_first version b ≡ r → (e : Refusal) × (read_first version b ≡ Err e)
    by (Err e) q = (e, q)
    by (Ok x) q =
        let s = read_bounded version b x.0 x.1 q in
        let t = bounded_head b s.0 s.1 s.2 in
        absurd (differ t.0 _ h t.1)

-- ---- after the first three fields

pub tells : (version number size at : ℕ) (b : List Bool) (r : Option Reach) → Bounded b number size → Reaches version (take size b) (at + size) r → Tells version b at r
tells version number size at b None h s = (_, _, bounded_reads version number size b h ∙ ap (read_packet (drop size b)) s.1)
tells version number size at b (Some r) h s = ((_, bounded_reads version number size b h ∙ ap (read_packet (drop size b)) s.1.unread), inr (number, size, h, s))

pub on_ok : {A E : Type 0} (P Q : A → Type 0) (r : Result A E) → ((x : A) → P x → Q x) → IfOk r P → IfOk r Q
on_ok P Q (Ok x) f p = f x p
on_ok P Q (Err e) f p = tt

-- ---- the walk over the first three fields

all_left : (b : List Bool) (at len : ℕ) → len ≡ length b → part at (len - at) b ≡ drop at b
all_left b at len e = take_all (len - at) (drop at b) (omega (arith, length-drop at b, e))

pub head_reads : (b : List Bool) (at len : ℕ) (old new : Trace) → len ≡ length b → old ≡ traced [] (part at (len - at) b) End → trace (head (len - at)) old ≡ Ok new → read_form (head (length (drop at b))) [] (drop at b) ≡ Some (new.fields, new.left)
head_reads b at len old new e start h =
    let size : len - at ≡ length (drop at b) = omega (arith, length-drop at b, e) in
    let whole : old ≡ traced [] (drop at b) End = start ∙ ap (λ (x : List Bool). traced [] x End) (all_left b at len e) in
    trace_reads (head (length (drop at b))) (traced [] (drop at b) End) new (ap (λ (k : ℕ). trace (head k) (traced [] (drop at b) End)) (sym size) ∙ ap (trace (head (len - at))) (sym whole) ∙ h)

pub head_stops : (b : List Bool) (at len : ℕ) (old new : Trace) (e : LayoutFault) → len ≡ length b → old ≡ traced [] (part at (len - at) b) End → trace (head (len - at)) old ≡ Err (e, new) → Stopped (head (length (drop at b))) [] (drop at b) new.fields new.left new.due
head_stops b at len old new e is start h =
    let size : len - at ≡ length (drop at b) = omega (arith, length-drop at b, is) in
    let whole : old ≡ traced [] (drop at b) End = start ∙ ap (λ (x : List Bool). traced [] x End) (all_left b at len is) in
    let f = trace_fails (head (length (drop at b))) (traced [] (drop at b) End) e new (ap (λ (k : ℕ). trace (head k) (traced [] (drop at b) End)) (sym size) ∙ ap (trace (head (len - at))) (sym whole) ∙ h) in
    subst (λ (x : Fields). Stopped (head (length (drop at b))) [] (drop at b) x new.left new.due) (sym f.all) f.stopped
