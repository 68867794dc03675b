-- The identities that were found are those of the elements, unless there were more.
use Rattle.std.proofs.Common.{◌≡◌, ◌∙◌, ◌-◌, ◌+◌, ℕ, List, Bool, Ok, [], false, take, drop, refl, sym, ap, arith}
use Rattle.balise_rules.specs.Packet.{Packet, width}
use Rattle.balise_rules.specs.declared.identity.Id.{Id}
use Rattle.balise_layout.specs.declared.packet_ref.PacketRef.TheInside.{Inside}
use Rattle.balise_layout.specs.Held.{headed}
use Rattle.balise_layout.specs.Walks.{walk, kept}
use Rattle.balise_layout.specs.Layouts.{form_of, next_of}
use Rattle.balise_layout.specs.Kinds.{number_of}
use Rattle.balise_layout.specs.Linked.{link_few}
use Rattle.balise_layout.proofs.ElementsFound.{few_found, more_found}
use Rattle.balise_layout.proofs.GoingOver.{lying_form, over_head}
use Rattle.balise_layout.proofs.Held.{not_stuck, visited}
use Rattle.balise_layout.proofs.Lent.{Lies, lies, lies_long, lies_within}
use Rattle.balise_layout.proofs.packet_ref.PacketRef.few_elements.Goals as goal

pub overflow_add-self-inside : goal.overflow_add-self-inside
overflow_add-self-inside c = omega (arith, lies_within _ _ _ _ _ (lies c.self.inside c.args.self.now c.self.invariant c.self.view_is), c.len-len.ensures, c.len-len.type_inv)

pub new-walker-requires-clause-ordered : goal.new-walker-requires-clause-ordered
new-walker-requires-clause-ordered c = lies_long _ _ _ _ _ (lies c.self.inside c.args.self.now c.self.invariant c.self.view_is)

-- a walker that begins after the first three fields goes over the packet
walked : (i : Inside) (c : ℕ) (p : Packet) (a : ℕ × List Id × Bool) (w : (ℕ × List Id × Bool) × List Bool) → Lies (next_of (number_of i.kind)) i.bits.now i.at i.end p → a ≡ (c, [], false) → w ≡ (a, take (i.end - (i.at + 23)) (drop (i.at + 23) i.bits.now)) → walk link_few (headed (next_of (number_of i.kind))) ((c, [], false), take (i.end - i.at) (drop i.at i.bits.now)) ≡ walk link_few (form_of (number_of i.kind)) w
walked i c p a w l is start =
    let own = number_of i.kind in
    over_head link_few (next_of own) (form_of own) i.bits.now i.at i.end (c, [], false) (λ k m. refl, λ k m. refl, λ k m. refl) (lies_long _ _ _ _ _ l) l.within (lying_form own i.bits.now i.at i.end p l)
    ∙ ap (walk link_few (form_of own)) (ap (λ (x : ℕ × List Id × Bool). (x, take (i.end - (i.at + 23)) (drop (i.at + 23) i.bits.now))) (sym is) ∙ sym start)

-- what it has found at the end is what there is in the packet
found : (i : Inside) (c : ℕ) (p : Packet) (a : ℕ × List Id × Bool) (w after : (ℕ × List Id × Bool) × List Bool) → Lies (next_of (number_of i.kind)) i.bits.now i.at i.end p → a ≡ (c, [], false) → w ≡ (a, take (i.end - (i.at + 23)) (drop (i.at + 23) i.bits.now)) → walk link_few (form_of (number_of i.kind)) w ≡ Ok after → after.0 ≡ kept link_few (c, [], false) (width p) p.fields
found i c p a w after l is start ends = visited link_few (next_of (number_of i.kind)) (c, [], false) _ p _ after l.holds refl (walked i c p a w l is start ∙ ends)

pub returns-in_default-clause-none : goal.returns-in_default-clause-none
returns-in_default-clause-none c =
    let p = c.args.self.now in
    let l = lies c.self.inside p c.self.invariant c.self.view_is in
    absurd (not_stuck link_few _ (c.args.country, [], false) _ p _ _ _ l.holds refl (walked c.self.inside c.args.country p _ _ l c.new.ensures c.new-walker.ensures ∙ c.in_default.ensures (λ _. refl)))

pub returns-in_default-into_few-clause-none : goal.returns-in_default-into_few-clause-none
returns-in_default-into_few-clause-none c =
    let p = c.args.self.now in
    let l = lies c.self.inside p c.self.invariant c.self.view_is in
    let f = c.into_visitor.ensures ∙ found c.self.inside c.args.country p _ _ c.walk_rest.new.walker l c.new.ensures c.new-walker.ensures c.in-Ok.ensures in
    more_found c.args.country (width p) p l.holds.numbered (sym (ap (λ (x : ℕ × List Id × Bool). x.2) f) ∙ c.in_default-into_few.ensures.none)

pub returns-clause-some : goal.returns-clause-some
returns-clause-some c =
    let p = c.args.self.now in
    let l = lies c.self.inside p c.self.invariant c.self.view_is in
    let f = c.into_visitor.ensures ∙ found c.self.inside c.args.country p _ _ c.walk_rest.new.walker l c.new.ensures c.new-walker.ensures c.in-Ok.ensures in
    c.in-Some.ensures.some.1 ∙ ap (λ (x : ℕ × List Id × Bool). x.1) f ∙ few_found c.args.country (width p) p l.holds.numbered (sym (ap (λ (x : ℕ × List Id × Bool). x.2) f) ∙ c.in-Some.ensures.some.0)
