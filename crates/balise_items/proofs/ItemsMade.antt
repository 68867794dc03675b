-- The item that the lines make that a telegram or a packet is explained as.
use Rattle.std.proofs.Common.{◌≡◌, ◌∙◌, ◌+◌, ◌⊎◌, inl, inr, ℕ, Bool, List, [], ◌∷◌, ◌++◌, length, map, Some, None, refl, sym, ap, arith, append_assoc, append-nil}
use Rattle.balise_rules.specs.declared.variable.Var.{Var}
use Rattle.balise_rules.specs.declared.tag.Tag.{Tag}
use Rattle.balise_rules.specs.Forms.{Fields}
use Rattle.balise_rules.specs.Packet.{Packet}
use Rattle.balise_codec.specs.Spelling.{Values, said}
use Rattle.balise_fields.specs.declared.field_line.FieldLine.{FieldLine}
use Rattle.balise_fields.specs.declared.field_line.FieldLine.TheVariants as line
use Rattle.balise_items.specs.declared.place.Place.{Place}
use Rattle.balise_items.specs.declared.place.Place.TheVariants.{Header, Packet as InPacket, Rest, End, Padding, Alone, AloneRest, Bad}
use Rattle.balise_items.specs.Items.{GivenItem, with_line}
use Rattle.balise_items.specs.Laws.{bits_lines, field_lines, packet_lines, packets_lines, with_lines}
use Rattle.balise_items.specs.Sections.{Given, begun_at, with_value}

abbrev pub Tagged : Type 0
Tagged = Tag × Packet

-- an item of sound lines
abbrev pub sound : Place → ℕ → List Given → Given → List Bool → GivenItem
sound p n before last padding = record { place = p; number = n; before = before; last = last; padding = padding; bad_digits = None; unknown = None }

-- lines that come after others
pub lines-append : (n : ℕ) (i : GivenItem) (ls ms : List FieldLine) → with_lines n i (ls ++ ms) ≡ with_lines (n + length ls) (with_lines n i ls) ms
lines-append n i [] ms = let e : n ≡ n + 0 = omega arith in ap (λ (k : ℕ). with_lines k i ms) e
lines-append n i (l ∷ ls) ms =
    let e : n + 1 + length ls ≡ n + length (l ∷ ls) = omega arith in
    lines-append (n + 1) (with_line n l i) ls ms ∙ ap (λ (k : ℕ). with_lines k (with_lines (n + 1) (with_line n l i) ls) ms) e

-- ---- fields

-- a place where fields may stand
abbrev pub IsOpen : Place → Type 0
IsOpen Header = Unit {0}
IsOpen InPacket = Unit {0}
IsOpen Rest = ⊥
IsOpen End = ⊥
IsOpen Padding = ⊥
IsOpen Alone = Unit {0}
IsOpen AloneRest = ⊥
IsOpen (Bad n) = ⊥

one_field : (p : Place) → IsOpen p → (k : ℕ) (v : Var) (x n : ℕ) (before : List Given) (s : Given) (padding : List Bool) → with_line k (line.Field (Some v) x) (sound p n before s padding) ≡ sound p n before (with_value v x s) padding
one_field Header o k v x n before s padding = refl
one_field InPacket o k v x n before s padding = refl
one_field Rest o k v x n before s padding = absurd o
one_field End o k v x n before s padding = absurd o
one_field Padding o k v x n before s padding = absurd o
one_field Alone o k v x n before s padding = refl
one_field AloneRest o k v x n before s padding = absurd o
one_field (Bad m) o k v x n before s padding = absurd o

abbrev pub with_values : Values → Given → Given
with_values vs s = record { line = s.line; values = s.values ++ vs; rest = s.rest }

pub fields_made : (p : Place) → IsOpen p → (k n : ℕ) (before : List Given) (s : Given) (padding : List Bool) (fs : Fields) → with_lines k (sound p n before s padding) (field_lines fs) ≡ sound p n before (with_values (map said fs) s) padding
fields_made p o k n before s padding [] = ap (λ (vs : Values). sound p n before (record { line = s.line; values = vs; rest = s.rest }) padding) (sym (append-nil s.values))
fields_made p o k n before s padding (f ∷ fs) =
    ap (λ (i : GivenItem). with_lines (k + 1) i (field_lines fs)) (one_field p o k f.0.0 f.1 n before s padding)
    ∙ fields_made p o (k + 1) n before (with_value f.0.0 f.1 s) padding fs
    ∙ ap (λ (vs : Values). sound p n before (record { line = s.line; values = vs; rest = s.rest }) padding) (append_assoc s.values ((f.0.0, f.1) ∷ []) (map said fs))

-- ---- a packet

-- a section that is given as the packet has it
abbrev pub section_of : ℕ → Packet → Given
section_of k p = record { line = k; values = map said p.fields; rest = p.rest }

-- the lines of a packet of a telegram, or of one by itself
pub packet_made : (k m n : ℕ) (before : List Given) (padding : List Bool) (p : Packet) → (q : Place) × ((q ≡ InPacket) ⊎ (q ≡ Rest)) × (with_lines k (sound InPacket n before (begun_at m) padding) (packet_lines p) ≡ sound q n before (section_of m p) padding)
packet_made k m n before padding p = by p.rest refl
  where
    fields : with_lines k (sound InPacket n before (begun_at m) padding) (field_lines p.fields) ≡ sound InPacket n before (record { line = m; values = map said p.fields; rest = [] }) padding
    fields = fields_made InPacket tt k n before (begun_at m) padding p.fields

    by : (r : List Bool) → p.rest ≡ r → (q : Place) × ((q ≡ InPacket) ⊎ (q ≡ Rest)) × (with_lines k (sound InPacket n before (begun_at m) padding) (field_lines p.fields ++ bits_lines line.Rest r) ≡ sound q n before (record { line = m; values = map said p.fields; rest = r }) padding)
    by [] e = (InPacket, inl refl, ap (with_lines k (sound InPacket n before (begun_at m) padding)) (append-nil (field_lines p.fields)) ∙ fields)
    by (b ∷ bs) e = (Rest, inr refl, lines-append k (sound InPacket n before (begun_at m) padding) (field_lines p.fields) (line.Rest (Some (b ∷ bs)) ∷ []) ∙ ap (λ (i : GivenItem). with_lines (k + length (field_lines p.fields)) i (line.Rest (Some (b ∷ bs)) ∷ [])) fields)

pub alone_made : (k m n : ℕ) (p : Packet) → (q : Place) × ((q ≡ Alone) ⊎ (q ≡ AloneRest)) × (with_lines k (sound Alone n [] (begun_at m) []) (packet_lines p) ≡ sound q n [] (section_of m p) [])
alone_made k m n p = by p.rest refl
  where
    fields : with_lines k (sound Alone n [] (begun_at m) []) (field_lines p.fields) ≡ sound Alone n [] (record { line = m; values = map said p.fields; rest = [] }) []
    fields = fields_made Alone tt k n [] (begun_at m) [] p.fields

    by : (r : List Bool) → p.rest ≡ r → (q : Place) × ((q ≡ Alone) ⊎ (q ≡ AloneRest)) × (with_lines k (sound Alone n [] (begun_at m) []) (field_lines p.fields ++ bits_lines line.Rest r) ≡ sound q n [] (record { line = m; values = map said p.fields; rest = r }) [])
    by [] e = (Alone, inl refl, ap (with_lines k (sound Alone n [] (begun_at m) [])) (append-nil (field_lines p.fields)) ∙ fields)
    by (b ∷ bs) e = (AloneRest, inr refl, lines-append k (sound Alone n [] (begun_at m) []) (field_lines p.fields) (line.Rest (Some (b ∷ bs)) ∷ []) ∙ ap (λ (i : GivenItem). with_lines (k + length (field_lines p.fields)) i (line.Rest (Some (b ∷ bs)) ∷ [])) fields)

-- ---- packets

-- a place before packet 255
abbrev pub IsBeforeEnd : Place → Type 0
IsBeforeEnd q = (q ≡ Header) ⊎ ((q ≡ InPacket) ⊎ (q ≡ Rest))

-- sections that are given as the packets have them
abbrev pub AreOf : List Given → List Tagged → Type 0
AreOf [] [] = Unit {0}
AreOf (s ∷ ss) (p ∷ ps) = (s.values ≡ map said p.1.fields) × (s.rest ≡ p.1.rest) × AreOf ss ps
AreOf [] (p ∷ ps) = ⊥
AreOf (s ∷ ss) [] = ⊥

next_packet : (q : Place) → IsBeforeEnd q → (k n : ℕ) (before : List Given) (s : Given) → with_line k line.Packet (sound q n before s []) ≡ sound InPacket n (before ++ s ∷ []) (begun_at k) []
next_packet q (inl e) k n before s = ap (λ (x : Place). with_line k line.Packet (sound x n before s [])) e
next_packet q (inr (inl e)) k n before s = ap (λ (x : Place). with_line k line.Packet (sound x n before s [])) e
next_packet q (inr (inr e)) k n before s = ap (λ (x : Place). with_line k line.Packet (sound x n before s [])) e

-- the sections after these lines
pub record Sections (i : GivenItem) (n : ℕ) (before : List Given) (s : Given) (ps : List Tagged) : Type 0 where
  pub place : Place
  pub open_place : IsBeforeEnd place
  pub before_last : List Given
  pub last : Given
  pub is : i ≡ sound place n before_last last []
  pub more : List Given
  pub all : before_last ++ last ∷ [] ≡ before ++ s ∷ more
  pub are : AreOf more ps

pub packets_made : (q : Place) → IsBeforeEnd q → (k n : ℕ) (before : List Given) (s : Given) (ps : List Tagged) → Sections (with_lines k (sound q n before s []) (packets_lines ps)) n before s ps
packets_made q o k n before s [] = record { place = q; open_place = o; before_last = before; last = s; is = refl; more = []; all = refl; are = tt }
packets_made q o k n before s (p ∷ ps) =
    let one = packet_made (k + 1) k n (before ++ s ∷ []) [] p.1 in
    let next = k + 1 + length (packet_lines p.1) in
    let rest = packets_made one.0 (inr one.1) next n (before ++ s ∷ []) (section_of k p.1) ps in
    let is : with_lines k (sound q n before s []) (packets_lines (p ∷ ps)) ≡ with_lines next (sound one.0 n (before ++ s ∷ []) (section_of k p.1) []) (packets_lines ps)
    = ap (λ (i : GivenItem). with_lines (k + 1) i (packet_lines p.1 ++ packets_lines ps)) (next_packet q o k n before s)
    ∙ lines-append (k + 1) (sound InPacket n (before ++ s ∷ []) (begun_at k) []) (packet_lines p.1) (packets_lines ps)
    ∙ ap (λ (i : GivenItem). with_lines next i (packets_lines ps)) one.2 in
    record {
      place = rest.place;
      open_place = rest.open_place;
      before_last = rest.before_last;
      last = rest.last;
      is = is ∙ rest.is;
      more = section_of k p.1 ∷ rest.more;
      all = rest.all ∙ append_assoc before (s ∷ []) (section_of k p.1 ∷ rest.more);
      are = (refl, refl, rest.are);
    }
