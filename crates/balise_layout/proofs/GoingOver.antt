-- Within its bounds, what is gone over to the end by the packet's kind is what the definition reads.
use Rattle.std.proofs.Common.{arith, ◌≡◌, ◌≢◌, ◌≤◌, ◌+◌, ◌-◌, ◌==◌, ℕ, List, [], Bool, true, false, cond, Option, Some, None, Result, Ok, Err, take, drop, length, refl, sym, ap, subst, ◌∙◌}
use Rattle.std.proofs.lemmas.Bool.{eq-eqb}
use Rattle.std.proofs.lemmas.List.{length-take, length-drop, drop-drop}
use Rattle.balise_rules.specs.declared.refusal.Refusal.{Refusal}
use Rattle.balise_rules.specs.declared.variable.Var.{Var}
use Rattle.balise_rules.specs.Forms.{read_form}
use Rattle.balise_rules.specs.Packets.{packet}
use Rattle.balise_rules.specs.Packet.{Packet, read_packet}
use Rattle.balise_layout.specs.declared.fault.LayoutFault.{LayoutFault}
use Rattle.balise_layout.specs.declared.fault.LayoutFault.TheVariants.{LayoutMismatch, OutOfMemory}
use Rattle.balise_layout.specs.declared.kind.PacketKind.{PacketKind}
use Rattle.balise_layout.specs.Faults.{refusal_of}
use Rattle.balise_layout.specs.Walks.{walk}
use Rattle.balise_layout.specs.Held.{headed, held, IsHeld}
use Rattle.balise_layout.specs.Layouts.{next_of, form_of, takes, layout_in}
use Rattle.balise_layout.specs.First.{Bounded}
use Rattle.balise_layout.specs.Kinds.{number_of, Finds}
use Rattle.balise_layout.proofs.Refused.{bounded_reads, bounded_number, bounded_size}
use Rattle.balise_layout.proofs.Held.{walked_held, held_read, walked_none}
use Rattle.balise_layout.proofs.Layouts.{next_own, next_other, same_reading}
use Rattle.balise_layout.proofs.Lent.{Lies, number_lies}
use Rattle.balise_layout.proofs.Spelt.{head_of, number_is}
use Rattle.balise_rules.proofs.Tests.{split_on}
use Rattle.balise_layout.proofs.Walks.{walk_step}
use Rattle.balise_rules.specs.declared.variable.Var.TheVariants.{NidPacket, QDir, LPacket}
use Rattle.balise_rules.specs.Variables.{width_of}
use Rattle.balise_rules.specs.Packets.{is_known}
use Rattle.balise_rules.specs.Forms.{Form, Matches, plain, never}
use Rattle.balise_rules.specs.Bits.{num}
use Rattle.balise_layout.specs.LayoutLaws.{layout_reads}

abbrev refused : LayoutFault → Result (Packet × List Bool) Refusal
refused e = Err (refusal_of e)

abbrev packet_and : Packet → List Bool → Result (Packet × List Bool) Refusal
packet_and p behind = Ok (p, behind)

mismatch : (e : LayoutFault) → e ≡ LayoutMismatch → e ≢ OutOfMemory
mismatch e is other = cc

-- its number and its length are known, and its kind is that of the number
abbrev pub Begun : ℕ → ℕ → PacketKind → List Bool → ℕ → ℕ → Type 0
Begun version n kind bits at end = (at ≤ end) × (end ≤ length bits) × Bounded (drop at bits) n (end - at) × (number_of kind ≡ layout_in version n)

-- it is read by the form of its kind
same_form : (version n : ℕ) (kind : PacketKind) (bits : List Bool) (at end : ℕ) → Begun version n kind bits at end → read_form (packet version) [] (take (end - at) (drop at bits)) ≡ read_form (headed (next_of (number_of kind))) [] (take (end - at) (drop at bits))
same_form version n kind bits at end b = same_reading version n (next_of (number_of kind)) (take (end - at) (drop at bits)) (bounded_number n (end - at) (drop at bits) b.2) (ap (λ (o : Option ℕ). next_of o n) b.3 ∙ layout_reads version n)

-- a packet of the number has the layout by which the version reads it
own_takes : (version n : ℕ) (k : Option ℕ) → k ≡ layout_in version n → (n == 0) ≡ false → (n == 255) ≡ false → takes k n ≡ true
unfolding layout_in takes
own_takes version n k e zero_not end_not = subst (λ (o : Option ℕ). takes o n ≡ true) (sym e) (at (is_known version n))
  where
    at : (b : Bool) → takes (cond b (Some n) None) n ≡ true
    at true = eq-eqb n n refl
    at false = rw (zero_not, end_not) refl

-- nothing is kept of the first three fields
abbrev pub KeepsNoHead : {A : Type 0} → (A → ℕ → Var → ℕ → A) → A → Type 0
KeepsNoHead step a = ((l m : ℕ) → a ≡ step a l NidPacket m) × ((l m : ℕ) → a ≡ step a l QDir m) × ((l m : ℕ) → a ≡ step a l LPacket m)

-- What keeps nothing of the first three fields goes over a packet as over what follows them.
pub over_head : {A : Type 0} (step : A → ℕ → Var → ℕ → A) (next : ℕ → Form) (form : Form) (bits : List Bool) (at end : ℕ) (a : A) → KeepsNoHead step a → at + 23 ≤ end → end ≤ length bits
    → next (num (take 8 (drop at bits))) ≡ form → walk step (headed next) (a, take (end - at) (drop at bits)) ≡ walk step form (a, take (end - (at + 23)) (drop (at + 23) bits))
unfolding width_of
over_head step next form bits at end a same long within is =
    let m : ℕ = num (take 8 (drop at bits)) in
    let places : at + 8 + 2 + 13 ≡ at + 23 = omega arith in
    walk_step step NidPacket (λ k. plain QDir (plain LPacket (next k))) a a bits at end 8 m refl within (omega (arith, long)) refl (same.0 (end - at) m)
    ∙ walk_step step QDir (λ _. plain LPacket (next m)) a a bits (at + 8) end 2 (num (take 2 (drop (at + 8) bits))) refl within (omega (arith, long)) refl (same.1 (end - (at + 8)) _)
    ∙ walk_step step LPacket (λ _. next m) a a bits (at + 8 + 2) end 13 (num (take 13 (drop (at + 8 + 2) bits))) refl within (omega (arith, long)) refl (same.2 (end - (at + 8 + 2)) _)
    ∙ ap (λ f. walk step f (a, take (end - (at + 8 + 2 + 13)) (drop (at + 8 + 2 + 13) bits))) is
    ∙ ap (λ (k : ℕ). walk step form (a, take (end - k) (drop k bits))) places

-- So does a walker that begins after the first three fields of a packet that was begun.
pub over_rest : {A : Type 0} (step : A → ℕ → Var → ℕ → A) (version n : ℕ) (kind : PacketKind) (bits : List Bool) (at end : ℕ) (old : A × List Bool) (a : A) → KeepsNoHead step a → Begun version n kind bits at end → old ≡ (a, take (end - (at + 23)) (drop (at + 23) bits))
    → walk step (headed (next_of (number_of kind))) (a, take (end - at) (drop at bits)) ≡ walk step (form_of (number_of kind)) old
over_rest step version n kind bits at end old a same b start =
    let h = b.2 in
    over_head step (next_of (number_of kind)) (form_of (number_of kind)) bits at end a same (omega (arith, b.0, h.least)) b.1
    (ap (next_of (number_of kind)) h.has_number ∙ next_own (number_of kind) n (own_takes version n (number_of kind) b.3 h.not_zero h.not_end))
    ∙ ap (walk step (form_of (number_of kind))) (sym start)

-- where what keeps nothing of the first three fields goes over what follows them and fails, no packet is found
pub over_fails : {A : Type 0} (step : A → ℕ → Var → ℕ → A) (version n : ℕ) (kind : PacketKind) (bits : List Bool) (at end : ℕ) (old : A × List Bool) (a : A) (e : LayoutFault) (y : A × List Bool) → KeepsNoHead step a → Begun version n kind bits at end → old ≡ (a, take (end - (at + 23)) (drop (at + 23) bits)) → walk step (form_of (number_of kind)) old ≡ Err (e, y) → (e ≢ OutOfMemory) × Finds version bits at (Err e)
over_fails step version n kind bits at end old a e y same b start walked =
    let front = take (end - at) (drop at bits) in
    let none = walked_none step (headed (next_of (number_of kind))) a front e y (over_rest step version n kind bits at end old a same b start ∙ walked) in
    (mismatch e none.0, bounded_reads version n (end - at) (drop at bits) b.2 ∙ ap (read_packet (drop (end - at) (drop at bits))) (same_form version n kind bits at end b ∙ none.1) ∙ ap refused (sym none.0))

-- where it comes to the end, the packet is found
pub over_ends : {A : Type 0} (step : A → ℕ → Var → ℕ → A) (version n : ℕ) (kind : PacketKind) (bits : List Bool) (at end : ℕ) (old : A × List Bool) (a : A) (after : A × List Bool) → KeepsNoHead step a → Begun version n kind bits at end → old ≡ (a, take (end - (at + 23)) (drop (at + 23) bits)) → walk step (form_of (number_of kind)) old ≡ Ok after → Finds version bits at (Ok (kind, end))
over_ends step version n kind bits at end old a after same b start walked =
    let size = end - at in
    let front = take size (drop at bits) in
    let next = next_of (number_of kind) in
    let far : at + size ≡ end = omega (arith, b.0) in
    let long : length front ≡ size = omega (arith, length-take size (drop at bits), length-drop at bits, b.0, b.1) in
    let said = bounded_size n size (drop at bits) b.2 in
    let whole : IsHeld next front = walked_held step next a front after (over_rest step version n kind bits at end old a same b start ∙ walked) (said ∙ sym long) in
    let p = held next front in
    let reads = bounded_reads version n size (drop at bits) b.2
    ∙ ap (read_packet (drop size (drop at bits))) (same_form version n kind bits at end b ∙ held_read next front p whole refl)
    ∙ ap (packet_and p) (drop-drop size at bits ∙ ap (λ (k : ℕ). drop k bits) far) in
    (b.0, b.1, whole, reads)

-- what follows the first three fields of a packet that lies there is of the form of its layout
pub lying_form : (own : Option ℕ) (bits : List Bool) (at end : ℕ) (p : Packet) → Lies (next_of own) bits at end p → next_of own (num (take 8 (drop at bits))) ≡ form_of own
lying_form own bits at end p l =
    let h = head_of (next_of own) p.fields p.rest l.holds.form l.holds.numbered in
    let number : num (take 8 (drop at bits)) ≡ h.number = number_lies (next_of own) bits at end p l ∙ number_is (next_of own) p.fields p.rest h in
    let takes_it : takes own h.number ≡ true = split_on (takes own h.number) (λ e. e) (λ e. let none : Matches never h.more p.rest = subst (λ (f : Form). Matches f h.more p.rest) (next_other own h.number e) h.matches in absurd none) in
    ap (next_of own) number ∙ next_own own h.number takes_it
