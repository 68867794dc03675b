use Rattle.std.proofs.Common.{◌≡◌, ◌≢◌, ℕ, List, Bool, subst}
use Rattle.balise_rules.specs.Packet.{bits_of}
use Rattle.balise_codec.specs.declared.fault.SpellFault.{SpellFault}
use Rattle.balise_codec.specs.declared.fault.SpellFault.TheVariants.{OutOfMemory}
use Rattle.balise_codec.specs.Given.{GivenFails, IsGivenBy}
use Rattle.balise_codec.specs.Spelling.{Values}
use Rattle.balise_items.proofs.PacketBits.{given_bits, misfit_within, stops_for}
use Rattle.balise_items.proofs.packets.add_packet.Goals as goal

fails : (version : ℕ) (vs us : Values) (raw more : List Bool) (e : SpellFault) → us ≡ vs → more ≡ raw → (e ≢ OutOfMemory → GivenFails version us more e) → e ≢ OutOfMemory → GivenFails version vs raw e
fails version vs us raw more e a b f n = subst (λ (x : Values). GivenFails version x raw e) a (subst (λ (r : List Bool). GivenFails version us r e) b (f n))

pub bad_packet-requires : goal.bad_packet-requires
bad_packet-requires c = λ at m is.
    misfit_within c.args.version c.args.section.now.values c.args.section.now.rest c.in-Err.fault at m (fails c.args.version _ _ _ _ c.in-Err.fault c.values.ensures c.rest.ensures c.in-Err.ensures.fault) is

pub returns-in-Err-clause-stop : goal.returns-in-Err-clause-stop
returns-in-Err-clause-stop c =
    stops_for c.args.version c.args.section.now c.in-Err.fault c.bad_packet.result (fails c.args.version _ _ _ _ c.in-Err.fault c.values.ensures c.rest.ensures c.in-Err.ensures.fault) c.bad_packet.ensures

pub returns-clause-ok : goal.returns-clause-ok
returns-clause-ok c =
    let s = c.args.section.now in
    let p = c.in-Ok.packet in
    let is = subst (λ (x : Values). IsGivenBy c.args.version x s.rest p) c.values.ensures (subst (λ (r : List Bool). IsGivenBy c.args.version c.values.result.now r p) c.rest.ensures c.in-Ok.ensures.ok) in
    (bits_of p, given_bits c.args.version s p is, c.in_ok-write.ensures.ok)
