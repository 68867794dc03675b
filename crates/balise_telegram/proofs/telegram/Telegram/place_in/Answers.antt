use Rattle.std.proofs.Common.{◌≡◌, ◌∙◌, ℕ, Bool, List, Option, Some, Ok, drop, ap, sym, arith}
use Rattle.balise_rules.specs.declared.tag.Tag.{Tag}
use Rattle.balise_rules.specs.Packet.{Packet, read_first}
use Rattle.balise_rules.specs.Tags.{Key}
use Rattle.balise_rules.specs.Telegram.{Telegram, version_of}
use Rattle.balise_layout.specs.Held.{before, further}
use Rattle.balise_telegram.specs.Packed.{packet_place, place_from}
use Rattle.balise_telegram.specs.Shown.{IsShown}
use Rattle.balise_telegram.proofs.FieldPlaces.{read_there}
use Rattle.balise_telegram.proofs.telegram.Telegram.place_in.Goals as goal

pub new-requires : goal.new-requires
new-requires c =
    let r = read_there c.packed-bits.result.now c.args.self.now c.requires.0 c.version.result c.args.packet c.packed-bits.ensures c.requires.1 c.version.ensures in
    (r.packet, r.after, r.reads)

pub overflow_add-result : goal.overflow_add-result
overflow_add-result c =
    let r = read_there c.packed-bits.result.now c.args.self.now c.requires.0 c.version.result c.args.packet c.packed-bits.ensures c.requires.1 c.version.ensures in
    let is : before (c.args.var, c.args.k) r.packet.fields ≡ Some c.in-Some.before = ap (λ (p : Packet). before (c.args.var, c.args.k) p.fields) (sym (c.new.ensures r.packet r.after r.reads)) ∙ sym c.in-Some.ensures in
    let small = r.small c.args.var c.args.k c.in-Some.before is in
    omega (arith, small)

-- where the field stands in the packet that is read there, it stands among the bits
read_further : (b : List Bool) (y : Telegram) (tag : Tag) (version place : ℕ) (x : Packet) (key : Key) (o : Option ℕ) → IsShown b y → packet_place 50 tag y.packets ≡ Some place → version ≡ version_of y → ((p : Packet) (after : List Bool) → read_first version (drop place b) ≡ Ok (p, after) → x ≡ p) → o ≡ before key x.fields → further place o ≡ place_from 50 tag key y.packets
read_further b y tag version place x key o s e v is found =
    let r = read_there b y tag version place s e v in
    ap (further place) (found ∙ ap (λ (p : Packet). before key p.fields) (is r.packet r.after r.reads)) ∙ sym (r.place_is key)

pub returns-in-Some : goal.returns-in-Some
returns-in-Some c = λ tag e. read_further c.packed-bits.result.now c.args.self.now tag c.version.result c.args.packet c.new.result (c.args.var, c.args.k) _ c.packed-bits.ensures e c.version.ensures c.new.ensures c.in-Some.ensures

pub returns-in-None : goal.returns-in-None
returns-in-None c = λ tag e. read_further c.packed-bits.result.now c.args.self.now tag c.version.result c.args.packet c.new.result (c.args.var, c.args.k) _ c.packed-bits.ensures e c.version.ensures c.new.ensures c.in-None.ensures
