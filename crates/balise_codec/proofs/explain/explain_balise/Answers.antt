-- The telegram is the one whose packets end at packet 255.
use Rattle.std.proofs.Common.{◌≡◌, ◌∙◌, ◌+◌, ◌-◌, ◌++◌, ◌≤◌, ℕ, List, Bool, Option, Some, None, Ok, Err, inl, inr, ap, subst, length, take, drop, arith}
use Rattle.std.proofs.lemmas.List.{take_all, length-drop}
use Rattle.balise_rules.specs.declared.tag.Tag.{Tag}
use Rattle.balise_rules.specs.Bits.{ones}
use Rattle.balise_rules.specs.Packet.{Packet}
use Rattle.balise_rules.specs.Telegram.{Telegram, IsLength, used, read_header, read_packets}
use Rattle.balise_telegram.specs.declared.fault.TelegramFault.{TelegramFault}
use Rattle.balise_telegram.specs.Faults.{refusal_of}
use Rattle.balise_codec.specs.declared.stop.Stop.{Stop}
use Rattle.balise_codec.specs.Stops.{IsStop, EndsAt}
use Rattle.balise_codec.proofs.Placing.{packets_decide, ends_within}
use Rattle.balise_codec.proofs.explain.explain_balise.Goals.{In_default}
use Rattle.balise_codec.proofs.explain.explain_balise.Goals as goal

least : (n : ℕ) → IsLength n → 50 ≤ n
least n (inl e) = omega (arith, e)
least n (inr e) = omega (arith, e)

ends_so : (version : ℕ) (b : List Bool) (stop : Stop) (read : List (Tag × Packet)) (f : Option TelegramFault) → stop.fault ≡ f → IsStop version b stop read → EndsAt version b stop.at read f
ends_so version b stop read f e s = subst (λ (x : Option TelegramFault). EndsAt version b stop.at read x) e s.2

pub returns-in-Some-clause-fault : goal.returns-in-Some-clause-fault
returns-in-Some-clause-fault c = λ _.
    let r = c.requires in
    let s = c.in_ok-packets.ensures.ok in
    packets_decide c.args.bits.now c.args.version (Err (refusal_of c.in-Some.fault)) r.long r.balise r.version (ends_so c.args.version c.args.bits.now c.in_ok-packets.stop s.0 (Some c.in-Some.fault) c.in-Some.is s.1)

-- packet 255 stands after the packets
ends : (c : In_default) → read_packets (length c.args.bits.now) c.args.version 0 (drop 50 c.args.bits.now) ≡ Ok (c.in_ok-packets.ensures.ok.0, drop (c.in_ok-packets.stop.at + 8) c.args.bits.now)
ends c = let s = c.in_ok-packets.ensures.ok in ends_so c.args.version c.args.bits.now c.in_ok-packets.stop s.0 None c.in_default.is s.1

within : (c : In_default) → c.in_ok-packets.stop.at + 8 ≤ length c.args.bits.now
within c =
    let s = c.in_ok-packets.ensures.ok in
    omega (arith, s.1.1.place, ends_within c.args.version c.args.bits.now c.in_ok-packets.stop.at s.0 (least (length c.args.bits.now) c.requires.long) (ends c))

pub overflow_sub-len : goal.overflow_sub-len
overflow_sub-len c = omega (arith, within (goal.at.overflow_sub-len c).In_default, c.len.ensures)

pub slice-requires : goal.slice-requires
slice-requires c = omega (arith, within (goal.at.slice-requires c).In_default, c.len.ensures)

pub returns-clause-ok : goal.returns-clause-ok
returns-clause-ok c =
    let b = c.args.bits.now in
    let r = c.requires in
    let s = c.in_ok-packets.ensures.ok in
    let end = c.in_ok-packets.stop.at + 8 in
    let y : Telegram = record { head = read_header b; packets = s.0; padding = ones (used s.0) ++ drop end b } in
    let left : take (c.len.result - end) (drop end b) ≡ drop end b = take_all (c.len.result - end) (drop end b) (omega (arith, length-drop end b, c.len.ensures)) in (
      y,
      packets_decide b c.args.version (Ok (s.0, drop end b)) r.long r.balise r.version (ends (goal.at.returns-clause-ok c).In_default),
      record {
        header = c.in_ok-header.ensures.ok;
        packets = s.2;
        end = s.1.1.place;
        padding = c.in_ok-padding.ensures.ok ∙ left ∙ ap (λ (k : ℕ). drop k b) s.1.1.place;
      },
    )
