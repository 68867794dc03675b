-- A packet has few elements: what is of the form of packet 5 has 32 numbers of groups at most, of packet 136 one, and of each other form none.
use Rattle.std.proofs.Common.{◌≡◌, ◌≤◌, ◌+◌, ℕ, zero, suc, Bool, true, false, cond, eqb, List, [], ◌∷◌, Option, Some, refl, ap, ◌∙◌, arith}
use Rattle.std.specs.Prelude.{IsTrue}
use borrow.Author.Tests.{ltb-true}
use Rattle.balise_rules.specs.declared.variable.Var.{Var}
use Rattle.balise_rules.specs.declared.variable.Var.TheVariants.{NidPacket, QDir, LPacket, NidBg, NidC, QScale, DLink, QNewcountry, QLinkorientation, QLinkreaction, QLocacc, NIter}
use Rattle.balise_rules.specs.Variables.{width_of}
use Rattle.balise_rules.specs.Bits.{fits}
use Rattle.balise_rules.specs.Tags.{same_var, is_of}
use Rattle.balise_rules.specs.Forms.{Form, done, shut, never, valued, plain, repeat, count_of, Fields, Matches}
use Rattle.balise_rules.specs.Packets.{country, counted, link, linking, infill, known_body}
use Rattle.balise_rules.specs.Packet.{Packet}
use Rattle.balise_layout.specs.declared.kind.PacketKind.{PacketKind}
use Rattle.balise_layout.specs.declared.kind.PacketKind.TheVariants as kinds
use Rattle.balise_layout.specs.Held.{headed, Holds}
use Rattle.balise_layout.specs.Kinds.{number_of}
use Rattle.balise_layout.specs.Layouts.{form_of, takes, next_by, next_of, Nameless}
use Rattle.balise_layout.specs.Linked.{most_elements}
use Rattle.balise_layout.proofs.Nameless.{nameless_21, nameless_27, nameless_41, nameless_65, nameless_66, nameless_kept}

-- what is of the form has n numbers of groups at most
record Most (n : ℕ) (form : Form) : Type 0 where
  at : (fs : Fields) (rest : List Bool) → Matches form fs rest → count_of NidBg fs ≤ n

-- ---- what forms are made of

most_more : (n m : ℕ) (form : Form) → n ≤ m → Most n form → Most m form
most_more n m form h s = record { at = λ fs rest x. let k = s.at fs rest x in omega (arith, h, k) }

most_shut : (n : ℕ) → Most n shut
most_shut n = record { at = by }
  where
    by : (fs : Fields) (rest : List Bool) → Matches shut fs rest → count_of NidBg fs ≤ n
    by [] rest m = omega arith
    by (f ∷ fs) rest m = absurd m

most_never : (n : ℕ) → Most n never
most_never n = record { at = λ fs rest m. absurd m }

most_if : (b : Bool) (n : ℕ) (x y : Form) → Most n x → Most n y → Most n (cond b x y)
most_if true n x y s t = s
most_if false n x y s t = t

most_valued : (v : Var) (next : ℕ → Form) (n : ℕ) → same_var NidBg v ≡ false → ((m : ℕ) → IsTrue (fits (width_of v) m) → Most n (next m)) → Most n (valued v next)
most_valued v next n other s = record { at = by }
  where
    by : (fs : Fields) (rest : List Bool) → Matches (valued v next) fs rest → count_of NidBg fs ≤ n
    by [] rest m = absurd m
    by (f ∷ fs) rest m =
        let is : is_of NidBg f.0 ≡ false = ap (same_var NidBg) m.0 ∙ other in
        rw is ((s f.1 m.1).at fs rest m.2)

most_named : (n : ℕ) (next : Form) → Most n next → Most (suc n) (plain NidBg next)
most_named n next s = record { at = by }
  where
    by : (fs : Fields) (rest : List Bool) → Matches (plain NidBg next) fs rest → count_of NidBg fs ≤ suc n
    by [] rest m = absurd m
    by (f ∷ fs) rest m =
        let is : is_of NidBg f.0 ≡ true = ap (same_var NidBg) m.0 in
        let k = s.at fs rest m.2 in
        rw is (omega (arith, k))

most_plain : (v : Var) (next : Form) (n : ℕ) → same_var NidBg v ≡ false → Most n next → Most n (plain v next)
most_plain v next n other s = most_valued v (λ _. next) n other (λ _ _. s)

most_country : (new n : ℕ) (form : Form) → Most n form → Most n (country new form)
most_country new n form s = most_if (eqb new 1) n (plain NidC form) form (most_plain NidC form n refl s) s

none_named : (n : ℕ) (form : Form) → Nameless form → (fs : Fields) (rest : List Bool) → Matches form fs rest → count_of NidBg fs ≤ n
none_named n form s [] rest m = omega arith
none_named n done s (f ∷ fs) rest m = absurd m
none_named n shut s (f ∷ fs) rest m = absurd m
none_named n never s (f ∷ fs) rest m = absurd m
none_named n (valued v next) s (f ∷ fs) rest m =
    let is : is_of NidBg f.0 ≡ false = ap (same_var NidBg) m.0 ∙ s.0 in
    rw is (none_named n (next f.1) (s.1 f.1) fs rest m.2)

most_nameless : (n : ℕ) (form : Form) → Nameless form → Most n form
most_nameless n form s = record { at = none_named n form s }

-- ---- packets 5 and 136

most_link : (n : ℕ) (rest : Form) → Most n rest → Most (suc n) (link rest)
unfolding link
most_link n rest s =
    most_plain DLink _ (suc n) refl (most_valued QNewcountry _ (suc n) refl (λ new _. most_country new (suc n) _ (most_named n _
    (most_plain QLinkorientation _ n refl (most_plain QLinkreaction _ n refl (most_plain QLocacc _ n refl s))))))

most_repeat : (m n k : ℕ) (rest : Form) → m + n ≤ k → Most n rest → Most k (repeat m link rest)
most_repeat zero n k rest h s = most_more n k rest (omega (arith, h)) s
most_repeat (suc m) n zero rest h s = absurd (omega (arith, h))
most_repeat (suc m) n (suc k) rest h s = most_link k _ (most_repeat m n k rest (omega (arith, h)) s)

most_counted : Most 31 (counted link shut)
unfolding counted width_of
most_counted = most_valued NIter (λ m. repeat m link shut) 31 refl (λ m few. let h = ltb-true m 32 few in most_repeat m 0 31 shut (omega (arith, h)) (most_shut 0))

most_5 : Most most_elements (form_of (Some 5))
unfolding form_of known_body linking
most_5 = most_plain QScale _ 32 refl (most_link 31 _ most_counted)

most_136 : Most most_elements (form_of (Some 136))
unfolding form_of known_body infill
most_136 = most_valued QNewcountry _ 32 refl (λ new _. most_country new 32 _ (most_named 31 _ (most_shut 31)))

most_of : (kind : PacketKind) → Most most_elements (form_of (number_of kind))
most_of kinds.Linking = most_5
most_of kinds.GradientProfile = most_nameless most_elements _ nameless_21
most_of kinds.SpeedProfile = most_nameless most_elements _ nameless_27
most_of kinds.LevelTransition = most_nameless most_elements _ nameless_41
most_of kinds.SpeedRestriction = most_nameless most_elements _ nameless_65
most_of kinds.Revocation = most_nameless most_elements _ nameless_66
most_of kinds.InfillLocation = most_136
most_of kinds.Opaque = most_nameless most_elements _ nameless_kept

most_next : (own : Option ℕ) (n : ℕ) → Most most_elements (form_of own) → Most most_elements (next_of own n)
unfolding next_by
most_next own n s = most_if (takes own n) most_elements _ never s (most_never most_elements)

-- a packet that is held
pub few_elements : (kind : PacketKind) (b : List Bool) (p : Packet) → Holds (next_of (number_of kind)) b p → count_of NidBg p.fields ≤ most_elements
few_elements kind b p h =
    let most : Most most_elements (headed (next_of (number_of kind))) = most_valued NidPacket _ most_elements refl (λ n _. most_plain QDir _ most_elements refl (most_plain LPacket _ most_elements refl (most_next (number_of kind) n (most_of kind)))) in
    most.at p.fields p.rest h.form
