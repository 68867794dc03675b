-- A walk over bits that fails stands where the form can't go on; one that comes to its end has read the bits. By induction on the form.
use Rattle.std.proofs.Common.{◌≡◌, ◌∙◌, ℕ, ◌+◌, ◌-◌, ◌^◌, ◌<◌, ◌≤◌, Bool, true, false, cond, ltb, List, [], ◌∷◌, ◌++◌, length, take, drop, Option, Some, None, Ok, Err, refl, sym, ap, subst, append_assoc, length-append, arith}
use Rattle.std.proofs.lemmas.Bool.{ltb-true, ltb-false, lt-ltb}
use Rattle.std.proofs.lemmas.List.{take-append-drop, length-take, append-nil}
use Rattle.balise_rules.specs.declared.variable.Var.{Var}
use Rattle.balise_rules.specs.declared.variable.Var.TheVariants.{NidPacket, QDir, LPacket}
use Rattle.balise_rules.specs.Variables.{width_of}
use Rattle.balise_rules.specs.Bits.{num, bits}
use Rattle.balise_rules.specs.Tags.{Key}
use Rattle.balise_rules.specs.Forms.{Form, done, shut, never, valued, plain, Fields, spelling, count_of, read_form}
use Rattle.balise_rules.specs.Packets.{packet, body}
use Rattle.balise_rules.proofs.Cases.{unless, unok}
use Rattle.balise_rules.proofs.Numbers.{bits-num, num_below}
use Rattle.balise_layout.specs.declared.fault.LayoutFault.{LayoutFault}
use Rattle.balise_layout.specs.declared.fault.LayoutFault.TheVariants.{LayoutMismatch}
use Rattle.balise_layout.specs.Held.{headed}
use Rattle.balise_layout.specs.Layouts.{next_of, layout_in}
use Rattle.balise_layout.specs.LayoutLaws.{layout_reads}
use Rattle.balise_layout.specs.Walks.{collect, walk}
use Rattle.balise_layout.proofs.Walks.{is_fit, walk_step}
use Rattle.balise_codec.specs.declared.trace.Due.{Due}
use Rattle.balise_codec.specs.declared.trace.Due.TheVariants.{Field, End, Another}
use Rattle.balise_codec.specs.Traces.{StopsAt, Stopped, Trace, Traced, stopped, end_of, with_next, trace}

abbrev pub traced : Fields → List Bool → Due → Trace
traced fs b d = record { fields = fs; left = b; due = d }

-- ---- how a walk answers

fault_of : Trace → Traced → LayoutFault × Trace
fault_of t (Ok s) = (LayoutMismatch, t)
fault_of t (Err r) = r

failed : (d e : LayoutFault) (s t : Trace) → ◌≡◌ {A = Traced} (Err (d, s)) (Err (e, t)) → (d ≡ e) × (s ≡ t)
unfolding fault_of
failed d e s t h = (ap (λ (x : Traced). (fault_of t x).0) h, ap (λ (x : Traced). (fault_of t x).1) h)

ended : (s t : Trace) → ◌≡◌ {A = Traced} (Ok s) (Ok t) → s ≡ t
ended s t h = ap of h
  where
    of : Traced → Trace
    of (Ok x) = x
    of (Err r) = s

-- ---- single steps

-- By the step of the layouts' walk over this one field, which keeps the fields and the value.
pub trace_on : (v : Var) (next : ℕ → Form) (fs gs : Fields) (d : Due) (bs : List Bool) (at end w n : ℕ) → w ≡ width_of v → end ≤ length bs → at + w ≤ end → n ≡ num (take w (drop at bs)) → gs ≡ collect fs (end - at) v n → trace (valued v next) (traced fs (take (end - at) (drop at bs)) d) ≡ trace (next n) (traced gs (take (end - (at + w)) (drop (at + w) bs)) d)
unfolding trace walk
trace_on v next fs gs d bs at end w n wide within long value new =
    let whole = take (end - at) (drop at bs) in
    let keep : Fields × ℕ → ℕ → Var → ℕ → Fields × ℕ = λ a left var m. (collect a.0 left var m, m) in
    let one = walk_step keep v (λ _. done) (fs, 0) (gs, n) bs at end w n wide within long value (ap (λ (x : Fields). (x, n)) new) in
    let all = unless (ltb (length whole) (width_of v)) _ _ _ one in
    let is = unok all.1 in
    rw all.0 (ap (λ (x : (Fields × ℕ) × List Bool). trace (next x.0.1) (traced x.0.0 x.1 d)) is)

pub trace_short : (v : Var) (next : ℕ → Form) (s : Trace) → length s.left < width_of v → trace (valued v next) s ≡ stopped (Field v) s
unfolding trace
trace_short v next s h = let short : ltb (length s.left) (width_of v) ≡ true = lt-ltb _ _ h in rw short refl

pub trace_never : (s : Trace) → trace never s ≡ stopped Another s
unfolding trace
trace_never s = refl

pub trace_done : (s : Trace) → trace done s ≡ Ok s
unfolding trace
trace_done s = refl

pub trace_shut : (fs : Fields) (b : List Bool) (d : Due) → length b ≡ 0 → trace shut (traced fs b d) ≡ Ok (traced fs b d)
unfolding trace
trace_shut fs [] d h = refl
trace_shut fs (x ∷ b) d h = absurd (omega arith)

pub trace_open : (fs : Fields) (b : List Bool) (d : Due) → 0 < length b → trace shut (traced fs b d) ≡ stopped End (traced fs b d)
unfolding trace
trace_open fs [] d h = absurd (omega arith)
trace_open fs (x ∷ b) d h = refl

-- ---- a walk that comes to its end

pub trace_reads : (form : Form) (s t : Trace) → trace form s ≡ Ok t → read_form form s.fields s.left ≡ Some (t.fields, t.left)
unfolding trace read_form
trace_reads done s t h = ap (λ (x : Trace). Some (x.fields, x.left)) (ended s t h)
trace_reads shut s t h = at s.left refl h
  where
    at : (b : List Bool) → s.left ≡ b → end_of b s ≡ Ok t → read_form shut s.fields b ≡ Some (t.fields, t.left)
    at [] e h = ap (λ (x : List Bool). Some (s.fields, x)) (sym e) ∙ ap (λ (x : Trace). Some (x.fields, x.left)) (ended s t h)
    at (x ∷ b) e h = absurd cc
trace_reads never s t h = absurd cc
trace_reads (valued v next) s t h =
    let n = num (take (width_of v) s.left) in
    by (ltb (length s.left) (width_of v)) h (trace_reads (next n) (with_next v s) t)
  where
    by : (g : Bool) → cond g (stopped (Field v) s) (trace (next (num (take (width_of v) s.left))) (with_next v s)) ≡ Ok t → (trace (next (num (take (width_of v) s.left))) (with_next v s) ≡ Ok t → read_form (next (num (take (width_of v) s.left))) (with_next v s).fields (with_next v s).left ≡ Some (t.fields, t.left)) → cond g None (read_form (next (num (take (width_of v) s.left))) (with_next v s).fields (with_next v s).left) ≡ Some (t.fields, t.left)
    by true h go = absurd cc
    by false h go = go h

-- ---- a walk that fails

-- the fields that it went over, and what it left
pub record Fails (form : Form) (s : Trace) (e : LayoutFault) (t : Trace) : Type 0 where
  pub fault : e ≡ LayoutMismatch
  pub fields : Fields
  pub all : t.fields ≡ s.fields ++ fields
  pub stopped : Stopped form s.fields s.left fields t.left t.due

at_once : (form : Form) (s : Trace) (due : Due) (e : LayoutFault) (t : Trace) → stopped due s ≡ Err (e, t) → read_form form s.fields s.left ≡ None → StopsAt form [] s.left due → Fails form s e t
unfolding spelling
at_once form s due e t h unread stops =
    let both = failed LayoutMismatch e (traced s.fields s.left due) t h in
    let left : s.left ≡ t.left = ap (λ (x : Trace). x.left) both.1 in
    let same : due ≡ t.due = ap (λ (x : Trace). x.due) both.1 in
    record {
      fault = sym both.0;
      fields = [];
      all = sym (ap (λ (x : Trace). x.fields) both.1) ∙ sym (append-nil s.fields);
      stopped = record { unread = unread; stops = subst (λ (x : Due). StopsAt form [] t.left x) same (subst (λ (x : List Bool). StopsAt form [] x due) left stops); numbered = tt; parts = left };
    }

-- what one field more makes of it
one_more : (v : Var) (next : ℕ → Form) (s : Trace) (e : LayoutFault) (t : Trace) → width_of v ≤ length s.left → (more : Fails (next (num (take (width_of v) s.left))) (with_next v s) e t) → read_form (valued v next) s.fields s.left ≡ None → Fails (valued v next) s e t
unfolding spelling
one_more v next s e t long more unread =
    let w = width_of v in
    let n = num (take w s.left) in
    let f : Key × ℕ = ((v, count_of v s.fields), n) in
    let size : length (take w s.left) ≡ w = omega (arith, length-take w s.left) in
    let own : bits w n ≡ take w s.left = subst (λ (k : ℕ). bits k n ≡ take w s.left) size (bits-num (take w s.left)) in
    let small : n < 2 ^ w = subst (λ (k : ℕ). n < 2 ^ k) size (num_below (take w s.left)) in
    let r = more.stopped in
    record {
      fault = more.fault;
      fields = f ∷ more.fields;
      all = more.all ∙ append_assoc s.fields (f ∷ []) more.fields;
      stopped = record {
        unread = unread;
        stops = (refl, is_fit w n small, r.stops);
        numbered = (refl, r.numbered);
        parts = sym (take-append-drop w s.left) ∙ ap (λ (x : List Bool). take w s.left ++ x) r.parts ∙ sym (append_assoc (take w s.left) (spelling more.fields) t.left) ∙ ap (λ (x : List Bool). (x ++ spelling more.fields) ++ t.left) (sym own);
      };
    }

pub trace_fails : (form : Form) (s : Trace) (e : LayoutFault) (t : Trace) → trace form s ≡ Err (e, t) → Fails form s e t
unfolding trace read_form
trace_fails done s e t h = absurd cc
trace_fails shut s e t h = at s.left refl h
  where
    at : (b : List Bool) → s.left ≡ b → end_of b s ≡ Err (e, t) → Fails shut s e t
    at [] q h = absurd cc
    at (x ∷ b) q h = at_once shut s End e t h (ap (read_form shut s.fields) q) (refl, omega (arith, ap length q))
trace_fails never s e t h = at_once never s Another e t h refl refl
trace_fails (valued v next) s e t h =
    let n = num (take (width_of v) s.left) in
    by (ltb (length s.left) (width_of v)) refl h (trace_fails (next n) (with_next v s) e t)
  where
    by : (g : Bool) → ltb (length s.left) (width_of v) ≡ g → cond g (stopped (Field v) s) (trace (next (num (take (width_of v) s.left))) (with_next v s)) ≡ Err (e, t) → (trace (next (num (take (width_of v) s.left))) (with_next v s) ≡ Err (e, t) → Fails (next (num (take (width_of v) s.left))) (with_next v s) e t) → Fails (valued v next) s e t
    by true g h go = at_once (valued v next) s (Field v) e t h (rw g refl) (refl, ltb-true _ _ g)
    by false g h go = let more = go h in one_more v next s e t (ltb-false _ _ g) more (rw g more.stopped.unread)

-- ---- a walk by the kind of the number that the bits begin with

trace_head : (version : ℕ) (next : ℕ → Form) (s : Trace) → (8 ≤ length s.left → next (num (take 8 s.left)) ≡ body version (num (take 8 s.left))) → trace (headed next) s ≡ trace (packet version) s
unfolding trace packet width_of
trace_head version next s same = by (ltb (length s.left) 8) refl
  where
    by : (g : Bool) → ltb (length s.left) 8 ≡ g → cond g (stopped (Field NidPacket) s) (trace (plain QDir (plain LPacket (next (num (take 8 s.left))))) (with_next NidPacket s)) ≡ cond g (stopped (Field NidPacket) s) (trace (plain QDir (plain LPacket (body version (num (take 8 s.left))))) (with_next NidPacket s))
    by true g = refl
    by false g = ap (λ (f : Form). trace (plain QDir (plain LPacket f)) (with_next NidPacket s)) (same (ltb-false _ _ g))

pub trace_packet : (version number : ℕ) (own : Option ℕ) (s : Trace) → (8 ≤ length s.left → number ≡ num (take 8 s.left)) → own ≡ layout_in version number → trace (headed (next_of own)) s ≡ trace (packet version) s
trace_packet version number own s first kind = trace_head version (next_of own) s same
  where
    same : 8 ≤ length s.left → next_of own (num (take 8 s.left)) ≡ body version (num (take 8 s.left))
    same h =
        let its : own ≡ layout_in version (num (take 8 s.left)) = kind ∙ ap (layout_in version) (first h) in
        ap (λ (o : Option ℕ). next_of o (num (take 8 s.left))) its ∙ layout_reads version (num (take 8 s.left))

pub reads : (version number : ℕ) (own : Option ℕ) (b : List Bool) (old new : Trace) → old ≡ traced [] b End → (8 ≤ length b → number ≡ num (take 8 b)) → own ≡ layout_in version number → trace (headed (next_of own)) old ≡ Ok new → read_form (packet version) [] b ≡ Some (new.fields, new.left)
reads version number own b old new start first kind h =
    let s = traced [] b End in
    trace_reads (packet version) s new (sym (trace_packet version number own s first kind) ∙ ap (trace (headed (next_of own))) (sym start) ∙ h)

pub stops : (version number : ℕ) (own : Option ℕ) (b : List Bool) (old new : Trace) (e : LayoutFault) → old ≡ traced [] b End → (8 ≤ length b → number ≡ num (take 8 b)) → own ≡ layout_in version number → trace (headed (next_of own)) old ≡ Err (e, new) → Stopped (packet version) [] b new.fields new.left new.due
stops version number own b old new e start first kind h =
    let s = traced [] b End in
    let f = trace_fails (packet version) s e new (sym (trace_packet version number own s first kind) ∙ ap (trace (headed (next_of own))) (sym start) ∙ h) in
    subst (λ (x : Fields). Stopped (packet version) [] b x new.left new.due) (sym f.all) f.stopped

pub fewer_left : (form : Form) (seen fs : Fields) (b left : List Bool) (due : Due) → Stopped form seen b fs left due → length left ≤ length b
fewer_left form seen fs b left due s = omega (arith, ap length s.parts, length-append (spelling fs) left)
