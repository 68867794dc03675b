use Rattle.std.proofs.Common.{◌*◌, ◌^◌, ◌-◌, ◌/◌, length, arith}
use Rattle.balise_bits.proofs.Windows.{flat_none, put_more, put_all}
use Rattle.balise_bits.proofs.window.put_by_byte.Goals as goal

pub loop-i-init : goal.loop-i-init
loop-i-init c = flat_none (c.args.number / 2 ^ (8 * (length c.args.window.now - 0)))

pub loop-i-preserved : goal.loop-i-preserved
loop-i-preserved c = put_more c.loop-i.window c.args.number (length c.args.window.now) c.loop-i.i c.loop-i-test.true c.loop-i.auto.window c.loop-i.invariant

pub returns : goal.returns
returns c = put_all c.loop-i.window c.args.number (length c.args.window.now) c.loop-i.i (omega arith) c.loop-i.auto.window c.loop-i.invariant
