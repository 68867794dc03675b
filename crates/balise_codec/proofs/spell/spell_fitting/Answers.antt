-- What is written is read, and compared.
use Rattle.std.proofs.Common.{◌≡◌, ◌∙◌, ℕ, List, Bool, [], ap, sym, Ok, Err, Result, length, subst, true, false, ◌≤◌, nat_lt, ◌<◌, None, refl}
use Rattle.std.proofs.lemmas.List.{length-map}
use Rattle.balise_rules.proofs.Cases.{unok}
use Rattle.balise_rules.specs.declared.refusal.Refusal.{Refusal}
use Rattle.balise_rules.specs.declared.variable.Var.{Var}
use Rattle.balise_rules.specs.Forms.{Fields}
use Rattle.balise_rules.specs.Packet.{Packet, read_first, IsSpelt}
use Rattle.balise_layout.specs.Collected.{all_keyed, keyed}
use Rattle.balise_codec.specs.Spelling.{Values, given, written, size_of, SpeltBy}
use Rattle.balise_codec.specs.Faults.{of_layout, fault_of}
use Rattle.balise_codec.specs.declared.fault.SpellFault.TheVariants.{TooLong, BitsLeft, OutOfMemory}
use Rattle.balise_layout.specs.declared.fault.LayoutFault.{LayoutFault}
use Rattle.balise_layout.specs.declared.fault.LayoutFault.TheVariants as layout
use Rattle.std.proofs.lemmas.Bool.{lt-ltb}
use Rattle.balise_codec.proofs.Made.{fitting_values, not_short}
use Rattle.balise_codec.proofs.Written.{reads_written, spells_written, three_fields}
use Rattle.balise_codec.proofs.spell.spell_fitting.Goals as goal

-- bits that aren't read are of no packet with these values
not_read : (version : ℕ) (vs : Values) (raw b : List Bool) (r : Refusal) (p : Packet) → b ≡ written vs raw (size_of vs raw) → read_first version b ≡ Err r → SpeltBy version vs raw p → ⊥
not_read version vs raw b r p e f s =
    let both : ◌≡◌ {A = Result (Packet × List Bool) Refusal} (Err r) (Ok (p, [])) = sym f ∙ ap (read_first version) e ∙ (reads_written version vs raw p s).1 in
    absurd cc

-- bits that are read as a packet with other values are of none with these
other_read : (version : ℕ) (vs : Values) (raw b after : List Bool) (q p : Packet) → b ≡ written vs raw (size_of vs raw) → read_first version b ≡ Ok (q, after) → (given q.fields ≡ vs → ⊥) → SpeltBy version vs raw p → ⊥
other_read version vs raw b after q p e f n s =
    let both : ◌≡◌ {A = Result (Packet × List Bool) Refusal} (Ok (q, after)) (Ok (p, [])) = sym f ∙ ap (read_first version) e ∙ (reads_written version vs raw p s).1 in
    let same : q ≡ p = ap (λ (x : Packet × List Bool). x.0) (unok both) in
    n (ap (λ (x : Packet). given x.fields) same ∙ s.values)

long_fault : (n : ℕ) → nat_lt n 8192 ≡ false → TooLong ≡ fault_of None n
long_fault n e = rw e refl

left_fault : (n : ℕ) → n < 8192 → BitsLeft ≡ fault_of None n
left_fault n h = let e : nat_lt n 8192 ≡ true = lt-ltb n 8192 h in rw e refl

left_layout : (f : LayoutFault) → (of_layout f ≡ OutOfMemory → ⊥) → of_layout f ≡ BitsLeft
left_layout layout.OutOfMemory h = absurd (h refl)
left_layout layout.PacketCut h = refl
left_layout layout.LayoutMismatch h = refl
left_layout layout.PacketZero h = refl
left_layout layout.NoSuchVariable h = refl
left_layout layout.Steering h = refl
left_layout layout.ValueTooWide h = refl

enough : (version : ℕ) (p : Packet) (fs items : List (Var × ℕ × ℕ)) → IsSpelt version p → all_keyed items ≡ p.fields → fs ≡ items → 3 ≤ length fs
enough version p fs items s e d =
    let size : length p.fields ≡ length fs = sym (ap (λ (x : Fields). length x) e) ∙ length-map items keyed ∙ ap (λ (x : List (Var × ℕ × ℕ)). length x) (sym d) in
    subst (λ (k : ℕ). 3 ≤ k) size (three_fields version p s)

pub returns-in-Err-clause-fault : goal.returns-in-Err-clause-fault
returns-in-Err-clause-fault c = λ e p s. (c.in-Err.ensures.fault e).1 (reads_written c.args.version c.args.values.now c.args.rest.now p s).0

pub returns-in-Err-read-clause-fault : goal.returns-in-Err-read-clause-fault
returns-in-Err-read-clause-fault c = λ e p s. not_read c.args.version c.args.values.now c.args.rest.now c.in-Ok.bits _ p c.in-Ok.ensures.ok.1 (c.in-Err-read.ensures.first (λ q. e (c.from.ensures ∙ ap of_layout q))) s

pub returns-then-not-are_given-clause-fault : goal.returns-then-not-are_given-clause-fault
returns-then-not-are_given-clause-fault c =
    let all = ap all_keyed c.deref.ensures.value ∙ c.in-Ok-fields.ensures.ok in
    λ e p s. other_read c.args.version c.args.values.now c.args.rest.now c.in-Ok.bits _ c.in-Ok-read.packet p c.in-Ok.ensures.ok.1 c.in-Ok-read.ensures.first
    (λ g. let yes : true ≡ false = sym (c.are_given.ensures.1 (ap given all ∙ g)) ∙ c.if-not-are_given.true in absurd cc) s

pub returns-clause-ok : goal.returns-clause-ok
returns-clause-ok c =
    let all = ap all_keyed c.deref.ensures.value ∙ c.in-Ok-fields.ensures.ok in
    let w = c.in-Ok.ensures.ok in
    spells_written c.args.version c.args.values.now c.args.rest.now c.in-Ok-read.packet _ w.0 (ap (read_first c.args.version) (sym w.1) ∙ c.in-Ok-read.ensures.first) (ap given (sym all) ∙ c.are_given.ensures.0 c.if-not-are_given.false)

pub are_given-requires : goal.are_given-requires
are_given-requires c = enough c.args.version c.in-Ok-read.packet c.deref.result.now c.in-Ok-fields.fields.items c.in-Ok-read.ensures.lies.0 c.in-Ok-fields.ensures.ok c.deref.ensures.value

pub written-requires-clause-fit : goal.written-requires-clause-fit
written-requires-clause-fit c = (fitting_values c.args.version c.args.values.now c.requires).0

pub written-requires-clause-two : goal.written-requires-clause-two
written-requires-clause-two c = (fitting_values c.args.version c.args.values.now c.requires).1

pub returns-in-Err-clause-kind : goal.returns-in-Err-clause-kind
returns-in-Err-clause-kind c = λ e. let f = c.in-Err.ensures.fault e in f.0 ∙ long_fault _ (not_short c.args.values.now c.args.rest.now (fitting_values c.args.version c.args.values.now c.requires) f.1)

pub returns-in-Err-read-clause-kind : goal.returns-in-Err-read-clause-kind
returns-in-Err-read-clause-kind c = λ e. c.from.ensures ∙ left_layout c.in-Err-read.fault (λ q. e (c.from.ensures ∙ q)) ∙ left_fault _ c.in-Ok.ensures.ok.0.short

pub returns-then-not-are_given-clause-kind : goal.returns-then-not-are_given-clause-kind
returns-then-not-are_given-clause-kind c = λ e. left_fault _ c.in-Ok.ensures.ok.0.short
