-- Parts of a telegram that are joined: the bits of the first ones, and those that are left.
use Rattle.std.proofs.Common.{◌≡◌, ◌∙◌, ◌+◌, ◌<◌, ◌≤◌, ℕ, Bool, List, [], ◌∷◌, ◌++◌, length, drop, get_or, Result, Ok, Err, refl, sym, ap, subst, append_assoc, append-nil}
use Rattle.balise_items.specs.declared.reason.Bad.{Bad}
use Rattle.balise_items.specs.declared.reason.Stop.{Stop}
use Rattle.balise_items.specs.declared.reason.Stop.TheVariants as stop
use Rattle.balise_items.specs.Packets.{packet_of, packets_of}
use Rattle.balise_items.specs.Reasons.{joined, Adds, Stops}
use Rattle.balise_items.specs.Sections.{Given}
use Rattle.balise_items.specs.Telegrams.{front_of, header_of, version_given}
use Rattle.balise_fields.proofs.ZerosAndDigits.{from_here, none_from}

abbrev Part : Type 0
Part = Result (List Bool) Bad

joined-none : (r : Part) → r ≡ joined (Ok []) r
joined-none (Ok b) = refl
joined-none (Err e) = refl

joined-assoc : (x y z : Part) → joined (joined x y) z ≡ joined x (joined y z)
joined-assoc (Err e) y z = refl
joined-assoc (Ok b) (Err e) z = refl
joined-assoc (Ok b) (Ok c) (Err e) = refl
joined-assoc (Ok b) (Ok c) (Ok d) = ap Ok (append_assoc b c d)

pub joined-end : (r : Part) → joined r (Ok []) ≡ r
joined-end (Ok b) = ap Ok (append-nil b)
joined-end (Err e) = refl

pub packets_of-push : (version : ℕ) (ps : List Given) (s : Given) → packets_of version (ps ++ s ∷ []) ≡ joined (packets_of version ps) (packet_of version s)
packets_of-push version [] s = joined-end (packet_of version s) ∙ joined-none (packet_of version s)
packets_of-push version (p ∷ ps) s = ap (joined (packet_of version p)) (packets_of-push version ps s) ∙ sym (joined-assoc (packet_of version p) (packets_of version ps) (packet_of version s))

-- ---- packet after packet

-- the bits that were added are those of the first packets
abbrev pub Added : ℕ → List Given → ℕ → List Bool → List Bool → Type 0
Added version all i old new = (b : List Bool) × (packets_of version all ≡ joined (Ok b) (packets_of version (drop i all))) × (new ≡ old ++ b)

pub none_added : (version : ℕ) (all : List Given) (old : List Bool) → Added version all 0 old old
none_added version all old = ([], joined-none (packets_of version all), sym (append-nil old))

pub all_added : (version : ℕ) (all : List Given) (i : ℕ) (old new : List Bool) → length all ≤ i → Added version all i old new → Adds old new (packets_of version all)
all_added version all i old new h a = (a.0, a.1 ∙ ap (λ (x : List Given). joined (Ok a.0) (packets_of version x)) (none_from all i h) ∙ joined-end (Ok a.0), a.2)

-- ---- where one stops

first_stops : (x y : Part) (e : Stop) → Stops x e → Stops (joined x y) e
first_stops x y (stop.Bad b) h = ap (λ (r : Part). joined r y) h
first_stops x y stop.OutOfMemory h = tt

later_stops : (b : List Bool) (y : Part) (e : Stop) → Stops y e → Stops (joined (Ok b) y) e
later_stops b y (stop.Bad x) h = ap (joined (Ok b)) h
later_stops b y stop.OutOfMemory h = tt

-- ---- the header, the packets and the last of them

module _ (head : Given) (packets : List Given) (last : Given) where
  version : ℕ
  version = version_given head.values

  front : front_of (head ∷ packets) last ≡ joined (header_of head) (joined (packets_of version packets) (packet_of version last))
  unfolding version
  front = ap (joined (header_of head)) (packets_of-push version packets last)

  pub header_stops : (e : Stop) → Stops (header_of head) e → Stops (front_of (head ∷ packets) last) e
  header_stops e t = first_stops (header_of head) (packets_of (version_given head.values) (packets ++ last ∷ [])) e t

  pub packets_stop : (old one : List Bool) (e : Stop) → Adds old one (header_of head) → Stops (packets_of (version_given head.values) packets) e → Stops (front_of (head ∷ packets) last) e
  unfolding version
  packets_stop old one e a t =
      subst (λ (r : Part). Stops r e) (sym (front ∙ ap (λ (r : Part). joined r (joined (packets_of version packets) (packet_of version last))) a.1))
      (later_stops a.0 (joined (packets_of version packets) (packet_of version last)) e (first_stops (packets_of version packets) (packet_of version last) e t))

  pub last_stops : (old one two : List Bool) (e : Stop) → Adds old one (header_of head) → Adds one two (packets_of (version_given head.values) packets) → Stops (packet_of (version_given head.values) last) e → Stops (front_of (head ∷ packets) last) e
  unfolding version
  last_stops old one two e a b t =
      subst (λ (r : Part). Stops r e) (sym (front ∙ ap (λ (r : Part). joined r (joined (packets_of version packets) (packet_of version last))) a.1 ∙ ap (λ (r : Part). joined (Ok a.0) (joined r (packet_of version last))) b.1))
      (later_stops a.0 (joined (Ok b.0) (packet_of version last)) e (later_stops b.0 (packet_of version last) e t))

  pub front_added : (old one two new : List Bool) → Adds old one (header_of head) → Adds one two (packets_of (version_given head.values) packets) → Adds two new (packet_of (version_given head.values) last) → Adds old new (front_of (head ∷ packets) last)
  unfolding version
  front_added old one two new a b c = (
    a.0 ++ (b.0 ++ c.0),
    front ∙ ap (λ (r : Part). joined r (joined (packets_of version packets) (packet_of version last))) a.1 ∙ ap (λ (r : Part). joined (Ok a.0) (joined r (packet_of version last))) b.1 ∙ ap (λ (r : Part). joined (Ok a.0) (joined (Ok b.0) r)) c.1,
    c.2 ∙ ap (λ (x : List Bool). x ++ c.0) (b.2 ∙ ap (λ (x : List Bool). x ++ b.0) a.2) ∙ append_assoc (old ++ a.0) b.0 c.0 ∙ append_assoc old a.0 (b.0 ++ c.0),
  )
