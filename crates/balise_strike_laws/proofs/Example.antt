-- The premises of the laws hold of a plan and three edits.
-- Proves it by computing what is read from digits, what refuses each edit, and which of them are independent.
-- From the laws that a plan that is read is sound, and that an edit is accepted where nothing refuses it.
use Rattle.std.proofs.Common.{option_map, ◌≡◌, ◌≢◌, ℕ, false, [], ◌∷◌, Some, None, Ok, refl, arith}
use Rattle.std.proofs.lemmas.List.Elements.{All-nil, All-cons}
use Rattle.balise_rules.specs.declared.tag.Tag.TheVariants.{Base, Fresh}
use Rattle.balise_rules.specs.Variables.{width_of, steers, is_free_in_header}
use Rattle.balise_rules.specs.Bits.{num, bits}
use Rattle.balise_rules.specs.Digits.{digit_bits, digits_in}
use Rattle.balise_rules.specs.Forms.{spelling, read_form}
use Rattle.balise_rules.specs.Packets.{counted, link, linking, gradient, gradients, difference, section, speeds, level, levels, restriction, revocation, infill, is_known, known_body, body, packet}
use Rattle.balise_rules.specs.Packet.{read_body}
use Rattle.balise_rules.specs.Telegram.{header, read_packets, read_header, read_telegram, version_of}
use Rattle.balise_rules.specs.Plan.{Plan, IsSound, read_telegrams, read_group, telegram_at}
use Rattle.balise_rules.specs.Edits.{Item, group_of}
use Rattle.balise_rules.specs.declared.tagged_edit.TaggedEdit.TheVariants.{InsertPacket}
use Rattle.balise_rules.specs.Notes.{noted}
use Rattle.balise_rules.specs.Doing.{refusal, done}
use Rattle.balise_rules.specs.Accepting.{Accepted, Unused}
use Rattle.balise_rules.specs.Addresses.{packet_in}
use Rattle.balise_rules.specs.Paths.{apart}
use Rattle.balise_rules.specs.Behind.{becomes}
use Rattle.balise_rules.specs.Session.{entries, first_dependent}
use Rattle.balise_rules.specs.Examples.{plan_of}
use Rattle.balise_edit_laws.proofs.Witnesses.{plan_or_none, the_packet, is_packet, plan_of_read, packet_spelt}
use Rattle.balise_edit_laws.specs.TakenBack.{IsReady}
use Rattle.balise_edit_laws.specs.Along.{AllUnused}
use Rattle.balise_edit_laws.proofs.Refusing.{refused_exactly}
use Rattle.balise_edit_laws.proofs.SoundKept.{sound_kept}
use Rattle.balise_edit_laws.proofs.UnusedKept.{unused_kept}
use Rattle.balise_strike_laws.specs.Witness.{lines, set, insert, insert_behind, HasExample}

-- what is read
unfoldable the_plan : Plan
the_plan = plan_or_none (plan_of lines)

-- What is read, what refuses each edit one after another, the version of the telegram, and which of the edits are independent.
record Computed : Type 0 where
  is_plan : plan_of lines ≡ Ok the_plan
  set_stands : refusal set.1 the_plan ≡ None
  insert_stands : refusal (insert the_packet).1 (done set the_plan) ≡ None
  behind_stands : refusal (insert_behind the_packet).1 (done (insert the_packet) (done set the_plan)) ≡ None
  version_first : option_map version_of (telegram_at (Base 0) 0 (done set the_plan)) ≡ Some 33
  version_then : option_map version_of (telegram_at (Base 0) 0 (done (insert the_packet) (done set the_plan))) ≡ Some 33
  set_apart : first_dependent (set, noted set.1 the_plan) (entries (done set the_plan) (insert the_packet ∷ insert_behind the_packet ∷ [])) ≡ None
  inserts_depend : apart (insert the_packet, noted (insert the_packet).1 (done set the_plan)) (insert_behind the_packet, noted (insert_behind the_packet).1 (done (insert the_packet) (done set the_plan))) ≡ false
  becomes_first : becomes (insert the_packet, noted (insert the_packet).1 (done set the_plan)) (insert_behind the_packet, noted (insert_behind the_packet).1 (done (insert the_packet) (done set the_plan))) ≡ Some (3, InsertPacket (Base 0) 0 (Some (Base 0)) the_packet)

-- each side computes to the other
computed : Computed
unfolding the_plan the_packet width_of steers is_free_in_header num bits digit_bits digits_in spelling read_form counted link linking gradient gradients difference section speeds level levels restriction revocation infill is_known known_body body packet read_body header read_packets read_header read_telegram read_telegrams read_group group_of packet_in
computed = record { is_plan = refl; set_stands = refl; insert_stands = refl; behind_stands = refl; version_first = refl; version_then = refl; set_apart = refl; inserts_depend = refl; becomes_first = refl }

the_plan_read : IsSound the_plan × ((s : ℕ) → Unused s the_plan)
the_plan_read = plan_of_read lines the_plan computed.is_plan

set_ready : IsReady set the_plan
set_ready = record { sound = the_plan_read.0; unused = the_plan_read.1 1; spelt = tt; accepted = (refused_exactly set.1 the_plan the_plan_read.0).0 computed.set_stands }

insert_ready : IsReady (insert the_packet) (done set the_plan)
insert_ready = record {
  sound = sound_kept set the_plan set_ready;
  unused = unused_kept set the_plan set_ready 2 (λ e. absurd (omega arith)) (the_plan_read.1 2);
  spelt = packet_spelt (Base 0) 0 (Some (Base 0)) (done set the_plan) computed.version_first;
  accepted = (refused_exactly (insert the_packet).1 (done set the_plan) (sound_kept set the_plan set_ready)).0 computed.insert_stands;
}

behind_accepted : Accepted (insert_behind the_packet).1 (done (insert the_packet) (done set the_plan))
behind_accepted = (refused_exactly (insert_behind the_packet).1 (done (insert the_packet) (done set the_plan)) (sound_kept (insert the_packet) (done set the_plan) insert_ready)).0 computed.behind_stands

serials_new : AllUnused the_plan (set ∷ insert the_packet ∷ insert_behind the_packet ∷ [])
serials_new = (
  the_plan_read.1 1,
  All-cons (λ (f : Item). f.0 ≢ 1) (insert the_packet) (insert_behind the_packet ∷ []) (λ e. absurd (omega arith)) (All-cons (λ (f : Item). f.0 ≢ 1) (insert_behind the_packet) [] (λ e. absurd (omega arith)) (All-nil (λ (f : Item). f.0 ≢ 1))),
  (
    the_plan_read.1 2,
    All-cons (λ (f : Item). f.0 ≢ 2) (insert_behind the_packet) [] (λ e. absurd (omega arith)) (All-nil (λ (f : Item). f.0 ≢ 2)),
    (the_plan_read.1 3, All-nil (λ (f : Item). f.0 ≢ 3), tt),
  ),
)

pub example : HasExample
example = record {
  plan = the_plan;
  is_plan = computed.is_plan;
  packet = the_packet;
  is_packet = is_packet;
  example = record {
    standing = record {
      sound = the_plan_read.0;
      unused = serials_new;
      spelt = (tt, (insert_ready.spelt, (packet_spelt (Base 0) 0 (Some (Fresh 2)) (done (insert the_packet) (done set the_plan)) computed.version_then, tt)));
      accepted = (set_ready.accepted, (insert_ready.accepted, (behind_accepted, tt)));
    };
    outlived = computed.set_apart;
    dependent = computed.inserts_depend;
    behind = (computed.becomes_first, tt);
  };
}
