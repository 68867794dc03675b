-- What holds of each of the standard's tables: it is steady, that is, in a packet only variables that steer say what follows them, and in a header none does; and no known packet ends with its first three fields.
use Rattle.std.proofs.Common.{ℕ, zero, suc, Bool, true, false, cond, ◌||◌, eqb, List, [], refl, rules}
use Rattle.balise_rules.specs.declared.variable.Var.TheVariants.{NidPacket, QDir, LPacket, NidC}
use Rattle.balise_rules.specs.Variables.{steers}
use Rattle.balise_rules.specs.Forms.{Form, done, shut, never, valued, plain, repeat, Matches}
use Rattle.balise_rules.specs.Packets.{packet, country, counted, link, linking, gradient, gradients, difference, section, speeds, level, levels, restriction, revocation, infill, is_known, known_body, body}
use Rattle.balise_rules.specs.Telegram.{header}
use Rattle.balise_rules.specs.Steady.{IsSteady}

-- ---- what forms are made of

pub steady_if : (b : Bool) (x y : Form) → IsSteady steers x → IsSteady steers y → IsSteady steers (cond b x y)
steady_if true x y s t = s
steady_if false x y s t = t

-- a part that is steady before each steady rest
abbrev SteadyPart : (Form → Form) → Type 0
SteadyPart part = (rest : Form) → IsSteady steers rest → IsSteady steers (part rest)

steady_repeat : (part : Form → Form) → SteadyPart part → (n : ℕ) → SteadyPart (repeat n part)
steady_repeat part h zero rest s = s
steady_repeat part h (suc n) rest s = h (repeat n part rest) (steady_repeat part h n rest s)

steady_counted : (part : Form → Form) → SteadyPart part → SteadyPart (counted part)
unfolding counted steers
steady_counted part h rest s = (λ e. absurd cc, λ n. steady_repeat part h n rest s)

steady_country : (new : ℕ) → SteadyPart (country new)
steady_country new rest s = steady_if (eqb new 1) (plain NidC rest) rest (λ _ x y. refl, λ _. s) s

-- ---- the parts of packets

steady_link : SteadyPart link
unfolding link steers
steady_link rest s = (λ _ x y. refl, λ _. (λ e. absurd cc, λ new. steady_country new _ (λ _ x y. refl, λ _. (λ _ x y. refl, λ _. (λ _ x y. refl, λ _. (λ _ x y. refl, λ _. s))))))

steady_gradient : SteadyPart gradient
unfolding gradient
steady_gradient rest s = search rules

steady_difference : SteadyPart difference
unfolding difference steers
steady_difference rest s = (λ e. absurd cc, λ q. steady_if (eqb q 0) _ _ (λ _ x y. refl, λ _. (λ _ x y. refl, λ _. s)) (steady_if (eqb q 3) never _ tt (λ _ x y. refl, λ _. (λ _ x y. refl, λ _. s))))

steady_section : SteadyPart section
unfolding section
steady_section rest s = (λ _ x y. refl, λ _. (λ _ x y. refl, λ _. (λ _ x y. refl, λ _. steady_counted difference steady_difference rest s)))

steady_level : SteadyPart level
unfolding level steers
steady_level rest s = (λ e. absurd cc, λ m. steady_if (eqb m 1) _ _ (λ _ x y. refl, λ _. (λ _ x y. refl, λ _. s)) (λ _ x y. refl, λ _. s))

-- ---- the packets

pub known_steady : (n : ℕ) → IsSteady steers (known_body n)
unfolding known_body linking gradients speeds levels restriction revocation infill steers
known_steady n =
    steady_if (eqb n 5) _ _ (λ _ x y. refl, λ _. steady_link _ (steady_counted link steady_link shut tt))
    (steady_if (eqb n 21) _ _ (λ _ x y. refl, λ _. steady_gradient _ (steady_counted gradient steady_gradient shut tt))
    (steady_if (eqb n 27) _ _ (λ _ x y. refl, λ _. steady_section _ (steady_counted section steady_section shut tt))
    (steady_if (eqb n 41) _ _ (λ _ x y. refl, λ _. (λ _ x y. refl, λ _. steady_level _ (steady_counted level steady_level shut tt)))
    (steady_if (eqb n 65) _ _ (search rules)
    (steady_if (eqb n 66) _ _ (search rules)
    (λ e. absurd cc, λ new. steady_country new _ (λ _ x y. refl, λ _. tt)))))))

pub body_steady : (version n : ℕ) → IsSteady steers (body version n)
unfolding body
body_steady version n = steady_if (eqb n 0 || eqb n 255) never _ tt (steady_if (is_known version n) _ done (known_steady n) tt)

-- after the first three fields: the number steers, and so does the length
pub headed_steady : (next : ℕ → Form) → ((n : ℕ) → IsSteady steers (next n)) → IsSteady steers (valued NidPacket (λ n. plain QDir (plain LPacket (next n))))
unfolding steers
headed_steady next s = (λ e. absurd cc, λ n. (λ _ x y. refl, λ _. (λ e. absurd cc, λ _. s n)))

pub packet_steady : (version : ℕ) → IsSteady steers (packet version)
unfolding packet
packet_steady version = headed_steady (body version) (body_steady version)

-- a header's variables say nothing of what follows
pub header_steady : IsSteady (λ v. false) header
unfolding header
header_steady = search rules

-- ---- no known packet ends with its first three fields

-- no packet of the form lacks fields
abbrev HasFields : Form → Type 0
HasFields form = (rest : List Bool) → Matches form [] rest → ⊥

fields_if : (b : Bool) (x y : Form) → HasFields x → HasFields y → HasFields (cond b x y)
fields_if true x y s t = s
fields_if false x y s t = t

pub known_fields : (n : ℕ) (rest : List Bool) → Matches (known_body n) [] rest → ⊥
unfolding known_body linking gradients speeds levels restriction revocation infill
known_fields n =
    fields_if (eqb n 5) _ _ (λ _ m. m) (fields_if (eqb n 21) _ _ (λ _ m. m) (fields_if (eqb n 27) _ _ (λ _ m. m)
    (fields_if (eqb n 41) _ _ (λ _ m. m) (fields_if (eqb n 65) _ _ (λ _ m. m) (fields_if (eqb n 66) _ _ (λ _ m. m) (λ _ m. m))))))
