-- The premises of the laws hold of a plan and of edits of four kinds.
-- From computation: the digits are read, each edit is refused by nothing; the laws give soundness and acceptance.
-- A renumbering to a number that stands is refused.
use Rattle.std.proofs.Common.{codes, option_map, ◌≡◌, ℕ, Bool, List, [], Some, None, Result, Ok, Err, refl, sym, ap, subst, ◌∙◌, Option}
use Rattle.balise_rules.specs.declared.variable.Var.TheVariants.{DLink}
use Rattle.balise_rules.specs.declared.refusal.Refusal.{Refusal}
use Rattle.balise_rules.specs.declared.refusal.Refusal.TheVariants.{NumberTaken}
use Rattle.balise_rules.specs.declared.tag.Tag.TheVariants.{Base}
use Rattle.balise_rules.specs.Refusals.{and_then}
use Rattle.balise_rules.specs.Variables.{width_of, steers, is_free_in_header}
use Rattle.balise_rules.specs.Bits.{num, bits}
use Rattle.balise_rules.specs.Digits.{digit_bits, digits_in}
use Rattle.balise_rules.specs.Forms.{spelling, read_form}
use Rattle.balise_rules.specs.Packets.{counted, link, linking, gradient, gradients, difference, section, speeds, level, levels, restriction, revocation, infill, is_known, known_body, body, packet}
use Rattle.balise_rules.specs.Packet.{Packet, read_body, IsSpelt}
use Rattle.balise_rules.specs.Telegram.{header, read_packets, read_header, read_telegram, version_of}
use Rattle.balise_rules.specs.Plan.{Plan, IsSound, read_telegrams, read_group, read_plan, telegram_at}
use Rattle.balise_rules.specs.Edits.{Edit, group_of}
use Rattle.balise_rules.specs.declared.tagged_edit.TaggedEdit.TheVariants.{SetVar, InsertPacket, Renumber, TurnGroup}
use Rattle.balise_rules.specs.Doing.{refusal}
use Rattle.balise_rules.specs.Accepting.{Unused, Spelt}
use Rattle.balise_rules.specs.Addresses.{packet_in}
use Rattle.balise_rules.specs.Examples.{plan_of, read_groups, word, Text}
use Rattle.balise_rules.proofs.Cases.{unsome}
use Rattle.balise_rules.specs.declared.tag.Tag.{Tag}
use Rattle.balise_edit_laws.specs.TakenBack.{IsReady}
use Rattle.balise_edit_laws.specs.Witness.{lines, Witnessed}
use Rattle.balise_edit_laws.proofs.Refusing.{refused_exactly}
use Rattle.balise_edit_laws.proofs.PlansRead.{plan_read}
use Rattle.balise_edit_laws.proofs.ReadyCommands.{word_spelt}

-- the plan that is read, and the packet
abbrev pub plan_or_none : Result Plan Refusal → Plan
plan_or_none (Err r) = []
plan_or_none (Ok plan) = plan

abbrev packet_or_none : Result Packet Refusal → Packet
packet_or_none (Err r) = record { fields = []; rest = [] }
packet_or_none (Ok x) = x

unfoldable the_plan : Plan
the_plan = plan_or_none (plan_of lines)

unfoldable pub the_packet : Packet
the_packet = packet_or_none (packet_in 33 (word (codes "42403e0a")))

-- What is read, what refuses each edit, and the version of a telegram.
record Computed : Type 0 where
  is_packet : packet_in 33 (word (codes "42403e0a")) ≡ Ok the_packet
  is_plan : plan_of lines ≡ Ok the_plan
  set_stands : refusal (SetVar (Base 1) 0 (Base 0) DLink 0 7) the_plan ≡ None
  insert_stands : refusal (InsertPacket (Base 0) 1 (Some (Base 0)) the_packet) the_plan ≡ None
  renumber_stands : refusal (Renumber (Base 0) 200) the_plan ≡ None
  turn_stands : refusal (TurnGroup (Base 0)) the_plan ≡ None
  number_stands : refusal (Renumber (Base 0) 101) the_plan ≡ Some NumberTaken
  version_is : option_map version_of (telegram_at (Base 0) 1 the_plan) ≡ Some 33

-- each side computes to the other
computed : Computed
unfolding the_plan the_packet width_of steers is_free_in_header num bits digit_bits digits_in spelling read_form counted link linking gradient gradients difference section speeds level levels restriction revocation infill is_known known_body body packet read_body header read_packets read_header read_telegram read_telegrams read_group group_of packet_in
computed = record { is_packet = refl; is_plan = refl; set_stands = refl; insert_stands = refl; renumber_stands = refl; turn_stands = refl; number_stands = refl; version_is = refl }

pub is_packet : packet_in 33 (word (codes "42403e0a")) ≡ Ok the_packet
is_packet = computed.is_packet

-- a plan of lines is read from their bits
pub plan_of_read : (lines : List (List Text)) → (plan : Plan) → plan_of lines ≡ Ok plan → IsSound plan × ((s : ℕ) → Unused s plan)
plan_of_read lines plan h = read_from (read_groups lines) h
  where
    read_from : (r : Result (List (List (List Bool))) Refusal) → and_then r read_plan ≡ Ok plan → IsSound plan × ((s : ℕ) → Unused s plan)
    read_from (Err x) h = absurd cc
    read_from (Ok bs) h = plan_read bs plan h

the_plan_read : IsSound the_plan × ((s : ℕ) → Unused s the_plan)
the_plan_read = plan_of_read lines the_plan computed.is_plan

ready : (s : ℕ) → (e : Edit) → Spelt e the_plan → refusal e the_plan ≡ None → IsReady (s, e) the_plan
ready s e spelt none = record { sound = the_plan_read.0; unused = the_plan_read.1 s; spelt = spelt; accepted = (refused_exactly e the_plan the_plan_read.0).0 none }

-- the packet is spelt for a telegram of version 33
pub packet_spelt : (g : Tag) → (t : ℕ) → (a : Option Tag) → (plan : Plan) → option_map version_of (telegram_at g t plan) ≡ Some 33 → Spelt (InsertPacket g t a the_packet) plan
packet_spelt g t a plan v y h = subst (λ n. IsSpelt n the_packet) (unsome (sym v ∙ ap (option_map version_of) h)) (word_spelt 33 (word (codes "42403e0a")) the_packet is_packet)

pub witness : Witnessed
witness = record {
  plan = the_plan;
  is_plan = computed.is_plan;
  packet = the_packet;
  is_packet = is_packet;
  worked = record {
    set = ready 1 (SetVar (Base 1) 0 (Base 0) DLink 0 7) tt computed.set_stands;
    insert = ready 1 (InsertPacket (Base 0) 1 (Some (Base 0)) the_packet) (packet_spelt (Base 0) 1 (Some (Base 0)) the_plan computed.version_is) computed.insert_stands;
    renumber = ready 1 (Renumber (Base 0) 200) tt computed.renumber_stands;
    turn = ready 1 (TurnGroup (Base 0)) tt computed.turn_stands;
    refused = computed.number_stands;
  };
}
