-- One field more, and one packet more, with their places. A packet of a list is read where the ones before it end.
use Rattle.std.proofs.Common.{◌≡◌, ◌∙◌, ℕ, ◌+◌, ◌-◌, ◌<◌, ◌≤◌, List, [], ◌∷◌, ◌++◌, Bool, true, false, eqb, not, ◌&&◌, ◌||◌, inl, inr, length, take, drop, get_or, Result, Ok, refl, sym, ap, subst, append_assoc, length-append, length-drop, suc, arith}
use Rattle.std.proofs.lemmas.Bool.{eqb-true, true≢false}
use Rattle.std.proofs.lemmas.List.{take-append-drop, take_at, drop_at, drop-drop, append-nil, take_more}
use Rattle.std.proofs.lemmas.List.Elements.{All-get_or}
use Rattle.std.proofs.Math.Seq.{drop-cons}
use Rattle.balise_rules.specs.declared.variable.Var.{Var}
use Rattle.balise_rules.specs.declared.variable.Var.TheVariants.{MVersion}
use Rattle.balise_rules.specs.declared.refusal.Refusal.{Refusal}
use Rattle.balise_rules.specs.declared.tag.Tag.{Tag}
use Rattle.balise_rules.specs.Variables.{width_of}
use Rattle.balise_rules.specs.Bits.{bits, part, ones}
use Rattle.balise_rules.specs.Tags.{Key}
use Rattle.balise_rules.specs.Forms.{Fields, spelling}
use Rattle.balise_rules.specs.Packet.{Packet, bits_of, value, width, IsSpelt, read_first}
use Rattle.balise_rules.specs.Telegram.{IsLength, is_balise, packets_bits, used, read_header, read_packets, read_telegram, with_header}
use Rattle.balise_rules.proofs.Numbers.{length-bits}
use Rattle.balise_rules.proofs.PacketAgain.{first_again, front_of}
use Rattle.balise_rules.proofs.PacketRead.{first_found}
use Rattle.balise_rules.proofs.TelegramRead.{packets_found}
use Rattle.balise_rules.proofs.TelegramShown.{used_is}
use Rattle.balise_layout.specs.Collected.{keyed, all_keyed}
use Rattle.balise_layout.proofs.Counts.{all_keyed-push}
use Rattle.balise_codec.specs.declared.placed.Placed.{Placed}
use Rattle.balise_codec.specs.declared.explain.PacketFields.{PacketFields}
use Rattle.balise_codec.specs.Places.{placed, IsPlaced, ArePlaced}
use Rattle.balise_codec.specs.Stops.{StandTo}

abbrev Tagged : Type 0
Tagged = Tag × Packet

-- ---- fields

pub spelling-append : (fs gs : Fields) → length (spelling (fs ++ gs)) ≡ length (spelling fs) + length (spelling gs)
unfolding spelling
spelling-append [] gs = omega arith
spelling-append (f ∷ fs) gs =
    let own = bits (width_of f.0.0) f.1 in
    omega (arith, length-append own (spelling (fs ++ gs)), length-append own (spelling fs), spelling-append fs gs)

pub spelling-one : (f : Key × ℕ) → length (spelling (f ∷ [])) ≡ width_of f.0.0
unfolding spelling
spelling-one f = ap length (append-nil (bits (width_of f.0.0) f.1)) ∙ length-bits (width_of f.0.0) f.1

abbrev pub placed_at : ℕ → Key × ℕ → Placed
placed_at at f = record { at = at; var = f.0.0; occurrence = f.0.1; value = f.1 }

pub placed-push : (at : ℕ) (fs : Fields) (f : Key × ℕ) → placed at (fs ++ f ∷ []) ≡ placed at fs ++ placed_at (at + length (spelling fs)) f ∷ []
unfolding spelling
placed-push at [] f = ap (λ (k : ℕ). placed_at k f ∷ []) (let e : at ≡ at + 0 = omega arith in e)
placed-push at (g ∷ fs) f =
    let own = bits (width_of g.0.0) g.1 in
    let e : at + width_of g.0.0 + length (spelling fs) ≡ at + length (own ++ spelling fs) = omega (arith, length-append own (spelling fs), length-bits (width_of g.0.0) g.1) in
    ap (λ (x : List Placed). placed_at at g ∷ x) (placed-push (at + width_of g.0.0) fs f ∙ ap (λ (k : ℕ). placed (at + width_of g.0.0) fs ++ placed_at k f ∷ []) e)

-- ---- packets

pub placed_more : (at : ℕ) (ps : List Tagged) (xs : List PacketFields) (p : Tagged) (x : PacketFields) → ArePlaced at ps xs → IsPlaced (at + length (packets_bits ps)) p.1 x → ArePlaced at (ps ++ p ∷ []) (xs ++ x ∷ [])
placed_more at [] [] p x a i = (subst (λ (k : ℕ). IsPlaced k p.1 x) (let e : at + 0 ≡ at = omega arith in e) i, tt)
placed_more at [] (y ∷ ys) p x a i = absurd a
placed_more at (q ∷ ps) [] p x a i = absurd a
placed_more at (q ∷ ps) (y ∷ ys) p x a i =
    let e : at + length (bits_of q.1 ++ packets_bits ps) ≡ at + width q.1 + length (packets_bits ps) = omega (arith, length-append (bits_of q.1) (packets_bits ps)) in
    (a.0, placed_more (at + width q.1) ps ys p x a.1 (subst (λ (k : ℕ). IsPlaced k p.1 x) e i))

packets_bits-append : (ps qs : List Tagged) → packets_bits (ps ++ qs) ≡ packets_bits ps ++ packets_bits qs
packets_bits-append [] qs = refl
packets_bits-append (p ∷ ps) qs = ap (λ (x : List Bool). bits_of p.1 ++ x) (packets_bits-append ps qs) ∙ sym (append_assoc (bits_of p.1) (packets_bits ps) (packets_bits qs))

-- the packet at a place of the list stands where those before it end
pub read_there : (version : ℕ) (b : List Bool) (stop i at : ℕ) (read : List Tagged) (d : Tagged) → StandTo version b stop read → i < length read → at + 8 ≡ used (take i read) → read_first version (drop at b) ≡ Ok ((get_or read i d).1, packets_bits (drop (i + 1) read) ++ drop stop b)
read_there version b stop i at read d s h e =
    let x = get_or read i d in
    let before = take i read in
    let more = drop (i + 1) read in
    let next : drop i read ≡ x ∷ more = drop-cons read i d h ∙ ap (λ (k : ℕ). x ∷ drop k read) (let n : suc i ≡ i + 1 = omega arith in n) in
    let all : read ≡ before ++ x ∷ more = sym (take-append-drop i read) ∙ ap (λ (y : List Tagged). before ++ y) next in
    let parts : packets_bits read ≡ packets_bits before ++ (bits_of x.1 ++ packets_bits more) = ap packets_bits all ∙ packets_bits-append before (x ∷ more) in
    let size : length (packets_bits before) ≡ at - 50 = omega (arith, used_is before, e) in
    let far : 50 + (at - 50) ≡ at = omega (arith, used_is before, e) in
    let stand : drop 50 b ≡ packets_bits before ++ ((bits_of x.1 ++ packets_bits more) ++ drop stop b) = s.stand ∙ ap (λ (y : List Bool). y ++ drop stop b) parts ∙ append_assoc (packets_bits before) (bits_of x.1 ++ packets_bits more) (drop stop b) in
    let there : drop at b ≡ bits_of x.1 ++ (packets_bits more ++ drop stop b) =
    ap (λ (k : ℕ). drop k b) (sym far) ∙ sym (drop-drop (at - 50) 50 b) ∙ ap (drop (at - 50)) stand ∙ drop_at (packets_bits before) ((bits_of x.1 ++ packets_bits more) ++ drop stop b) (at - 50) size ∙ append_assoc (bits_of x.1) (packets_bits more) (drop stop b) in
    ap (read_first version) there ∙ first_again version x.1 (packets_bits more ++ drop stop b) (All-get_or (λ (p : Tagged). IsSpelt version p.1) read i d h s.spelt)

-- ---- one packet

-- where the parts of a packet stand that is read at a place
pub record Lies (b : List Bool) (at : ℕ) (p : Packet) : Type 0 where
  pub within : at + width p ≤ length b
  pub fields : length (spelling p.fields) ≤ width p
  pub rest : part (at + length (spelling p.fields)) (width p - length (spelling p.fields)) b ≡ p.rest

pub lies : (version : ℕ) (b : List Bool) (at : ℕ) (p : Packet) (after : List Bool) → read_first version (drop at b) ≡ Ok (p, after) → Lies b at p
lies version b at p after e =
    let f = first_found version (drop at b) (p, after) e in
    let own = spelling p.fields in
    let long : width p ≡ length own + length p.rest = length-append own p.rest in
    let size : length (drop at b) ≡ length b - at = length-drop at b in
    let whole : length (drop at b) ≡ width p + length after = ap length f.parts ∙ length-append (bits_of p) after in
    let there : drop (at + length own) b ≡ p.rest ++ after =
    sym (drop-drop (length own) at b) ∙ ap (drop (length own)) (f.parts ∙ append_assoc own p.rest after) ∙ drop_at own (p.rest ++ after) (length own) refl in
    let left : width p - length own ≡ length p.rest = omega (arith, long) in
    record {
      within = omega (arith, size, whole, (front_of version p f.spelt).least);
      fields = omega (arith, long);
      rest = ap (λ (x : List Bool). take (width p - length own) x) there ∙ ap (λ (k : ℕ). take k (p.rest ++ after)) left ∙ take_at p.rest after (length p.rest) refl;
    }

-- ---- the whole telegram

pub length_is : (m n k : ℕ) → m ≡ k → n ≡ k → (not (eqb m 210) && not (eqb n 830)) ≡ false → IsLength k
length_is m n k e f h = by (eqb m 210) refl (eqb n 830) refl h
  where
    by : (a : Bool) → eqb m 210 ≡ a → (c : Bool) → eqb n 830 ≡ c → (not a && not c) ≡ false → IsLength k
    by true p c q h = inl (sym e ∙ eqb-true m 210 p)
    by false p true q h = inr (sym f ∙ eqb-true n 830 q)
    by false p false q h = absurd cc

length_test : (k : ℕ) → IsLength k → (eqb k 210 || eqb k 830) ≡ true
length_test k (inl e) = rw e refl
length_test k (inr e) = rw e refl

-- the packets decide, where length and header are a balise's
pub packets_decide : (b : List Bool) (version : ℕ) (r : Result (List Tagged × List Bool) Refusal) → IsLength (length b) → is_balise (read_header b) ≡ true → version ≡ value MVersion 0 (read_header b) → read_packets (length b) version 0 (drop 50 b) ≡ r → read_telegram b ≡ with_header (read_header b) r
unfolding read_telegram
packets_decide b version r h i v e = rw (length_test (length b) h, i, ← v, e) refl

-- ---- fields of a slice

fields_longer : (xs : List (Var × ℕ × ℕ)) (i : ℕ) → length (spelling (all_keyed (take i xs))) ≤ length (spelling (all_keyed xs))
fields_longer xs i =
    let front = all_keyed (take i xs) in
    let back = all_keyed (drop i xs) in
    let parts : all_keyed xs ≡ front ++ back = ap all_keyed (sym (take-append-drop i xs)) ∙ map-append (take i xs) (drop i xs) in
    omega (arith, ap (λ (x : Fields). length (spelling x)) parts, spelling-append front back)
  where
    map-append : (a b : List (Var × ℕ × ℕ)) → all_keyed (a ++ b) ≡ all_keyed a ++ all_keyed b
    map-append [] b = refl
    map-append (x ∷ a) b = ap (λ (l : Fields). keyed x ∷ l) (map-append a b)

-- one more of them
pub record OneMore (at i : ℕ) (xs : List (Var × ℕ × ℕ)) (x : Var × ℕ × ℕ) : Type 0 where
  pub placed : placed at (all_keyed (take (i + 1) xs)) ≡ placed at (all_keyed (take i xs)) ++ placed_at (at + length (spelling (all_keyed (take i xs)))) (keyed x) ∷ []
  pub next : length (spelling (all_keyed (take (i + 1) xs))) ≡ length (spelling (all_keyed (take i xs))) + width_of x.0
  pub within : length (spelling (all_keyed (take i xs))) + width_of x.0 ≤ length (spelling (all_keyed xs))

pub one_more : (at i : ℕ) (xs : List (Var × ℕ × ℕ)) (d : Var × ℕ × ℕ) → i < length xs → OneMore at i xs (get_or xs i d)
one_more at i xs d h =
    let x = get_or xs i d in
    let front = all_keyed (take i xs) in
    let is : all_keyed (take (i + 1) xs) ≡ front ++ keyed x ∷ [] = ap all_keyed (take_more xs i d h) ∙ all_keyed-push (take i xs) x.0 x.1 x.2 in
    let size : length (spelling (all_keyed (take (i + 1) xs))) ≡ length (spelling front) + width_of x.0 = ap (λ (y : Fields). length (spelling y)) is ∙ spelling-append front (keyed x ∷ []) ∙ ap (λ (k : ℕ). length (spelling front) + k) (spelling-one (keyed x)) in
    record {
      placed = ap (placed at) is ∙ placed-push at front (keyed x);
      next = size;
      within = omega (arith, size, fields_longer xs (i + 1));
    }

pub spelling-none : length (spelling []) ≡ 0
unfolding spelling
spelling-none = refl

-- packets that end at packet 255 leave their bits
pub ends_within : (version : ℕ) (b : List Bool) (at : ℕ) (read : List Tagged) → 50 ≤ length b → read_packets (length b) version 0 (drop 50 b) ≡ Ok (read, drop (at + 8) b) → used read ≤ length b
ends_within version b at read h e =
    let f = packets_found (length b) version 0 (drop 50 b) (read, drop (at + 8) b) e in
    let rest = drop (at + 8) b in
    omega (arith, h, used_is read, ap length f.parts, length-drop 50 b, length-append (packets_bits read) (ones 8 ++ rest), length-append (ones 8) rest)

pub length_not : (k : ℕ) → (not (eqb k 210) && not (eqb k 830)) ≡ true → IsLength k → ⊥
length_not k h (inl e) = let f : true ≡ false = sym h ∙ ap (λ (x : ℕ). not (eqb x 210) && not (eqb x 830)) e in true≢false f
length_not k h (inr e) = let f : true ≡ false = sym h ∙ ap (λ (x : ℕ). not (eqb x 210) && not (eqb x 830)) e in true≢false f
