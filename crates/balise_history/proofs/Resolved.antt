-- The packet at an address.
use Rattle.std.proofs.Common.{◌≡◌, ℕ, Option, Some, None, Result, Ok, Err, refl, subst}
use Rattle.std.specs.Prelude.{ok_or, slice_get}
use Rattle.balise_rules.specs.declared.identity.Id.{Id}
use Rattle.balise_rules.specs.declared.refusal.Refusal.{Refusal}
use Rattle.balise_rules.specs.declared.refusal.Refusal.TheVariants.{NoSuchPacket}
use Rattle.balise_rules.specs.Addresses.{FoundPacket, find_telegram, find_packet, found_packet}
use Rattle.balise_rules.specs.Plan.{Plan}
use Rattle.balise_rules.specs.Refusals.{and_then}
use Rattle.balise_rules.proofs.Cases.{unok}

-- a result of two steps
record InTurn {A B : Type 0} (r : Result A Refusal) (f : A → Result B Refusal) (y : B) : Type 0 where
  first : A
  is : r ≡ Ok first
  then_is : f first ≡ Ok y

in_turn : {A B : Type 0} (r : Result A Refusal) (f : A → Result B Refusal) (y : B) → and_then r f ≡ Ok y → InTurn r f y
in_turn (Err x) f y h = absurd cc
in_turn (Ok x) f y h = record { first = x; is = refl; then_is = h }

or_some : {A : Type 0} (o : Option A) (r : Refusal) (x : A) → ok_or o r ≡ Ok x → o ≡ Some x
or_some None r x h = absurd cc
or_some (Some y) r x h = cc

-- the packet that is found stands at its place in its telegram
pub packet_there : (i : Id) (pig pkt : ℕ) (plan : Plan) (f : FoundPacket) → find_packet i pig pkt plan ≡ Ok f → slice_get f.telegram.packets pkt ≡ Some (f.tag, f.packet)
packet_there i pig pkt plan f h =
    let a = in_turn (find_telegram i pig plan) (λ t. and_then (ok_or (slice_get t.telegram.packets pkt) NoSuchPacket) (λ p. Ok (found_packet t p))) f h in
    let b = in_turn (ok_or (slice_get a.first.telegram.packets pkt) NoSuchPacket) (λ p. Ok (found_packet a.first p)) f a.then_is in
    subst (λ (y : FoundPacket). slice_get y.telegram.packets pkt ≡ Some (y.tag, y.packet)) (unok b.then_is) (or_some (slice_get a.first.telegram.packets pkt) NoSuchPacket b.first b.is)
