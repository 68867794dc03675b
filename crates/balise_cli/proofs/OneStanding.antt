-- What is promised of an output leaves nothing open: where memory runs out at no command, an input has one.
use Rattle.std.proofs.Common.{◌≡◌, ◌∙◌, inl, inr, ℕ, ◌+◌, Bool, true, false, ◌&&◌, List, [], ◌∷◌, ◌++◌, refl, sym, ap, subst}
use Rattle.std.specs.List.{list_any}
use Rattle.balise_rules.specs.declared.refusal.Refusal.{Refusal}
use Rattle.balise_rules.specs.Session.{Reply, State}
use Rattle.balise_lines.specs.Lines.{Line, lines_of}
use Rattle.balise_cli.specs.declared.asked.Asked.{Asked}
use Rattle.balise_text.specs.Commands.{call_of}
use Rattle.balise_text.specs.Replies.{bad_line, is_refused}
use Rattle.balise_text.specs.Texts.{Text}
use Rattle.balise_cli.specs.Laws.{Answered, GoesOn, OneStanding, Opens, PrintsAll, PrintsHeld, RefusedOr, Refuses, StopsAt}
use Rattle.balise_cli.specs.Output.{Bad, Between, Commands, Good, Header, InGroup, InJournal, MayAnswer, Over, Phase, Read, after_read, at_end, read_line, reply_text, reviewed}
use Rattle.balise_cli.specs.PlanTexts.{end_text}
use Rattle.balise_cli.specs.Statuses.{status_of}
use Rattle.balise_cli.specs.declared.status.Status.{Status}
use Rattle.balise_cli.proofs.OneOutput.{one_answer}

-- One session, and one list of commands.

abbrev OneOpening : State → State → List Line → List Line → Type 0
OneOpening s t c d = (s ≡ t) × (c ≡ d)

opened_alike : (x : Read) (P Q : Phase → Type 0) (s t : State) (c d : List Line) → ((q : Phase) → P q → Q q → OneOpening s t c d) → GoesOn x P → GoesOn x Q → OneOpening s t c d
opened_alike (Bad n r) P Q s t c d again a b = absurd a
opened_alike (Good q) P Q s t c d again a b = again q a b

one_opening : (p : Phase) (n : ℕ) (lines : List Line) (s t : State) (c d : List Line) → Opens p n lines s c → Opens p n lines t d → OneOpening s t c d
one_opening (Commands u refused) n lines s t c d a b = (a.0 ∙ sym b.0, a.1 ∙ sym b.1)
one_opening Header n [] s t c d a b = absurd a
one_opening (Between plan) n [] s t c d a b = absurd a
one_opening (InGroup plan g ys) n [] s t c d a b = absurd a
one_opening (InJournal part v) n [] s t c d a b = absurd a
one_opening Header n (line ∷ lines) s t c d a b = opened_alike (read_line Header n line.bytes) _ _ s t c d (λ q x y. one_opening q (n + 1) lines s t c d x y) a b
one_opening (Between plan) n (line ∷ lines) s t c d a b = opened_alike (read_line (Between plan) n line.bytes) _ _ s t c d (λ q x y. one_opening q (n + 1) lines s t c d x y) a b
one_opening (InGroup plan g ys) n (line ∷ lines) s t c d a b = opened_alike (read_line (InGroup plan g ys) n line.bytes) _ _ s t c d (λ q x y. one_opening q (n + 1) lines s t c d x y) a b
one_opening (InJournal part v) n (line ∷ lines) s t c d a b = opened_alike (read_line (InJournal part v) n line.bytes) _ _ s t c d (λ q x y. one_opening q (n + 1) lines s t c d x y) a b

-- A plan or a journal that is refused isn't opened, and one thing is said of it.

bad_end : (asked : Asked) (u : State) (refused : Bool) (n k : ℕ) (r : Refusal) → at_end asked (Commands u refused) n ≡ after_read (Bad k r) → ⊥
bad_end asked u true n k r e = absurd cc
bad_end asked u false n k r e = absurd cc

refused_alike : (x : Read) (k : ℕ) (r : Refusal) (P Q : Phase → Type 0) → ((q : Phase) → P q → Q q → ⊥) → RefusedOr x k r P → GoesOn x Q → ⊥
refused_alike (Bad n q) k r P Q again a b = b
refused_alike (Good q) k r P Q again a b = again q a b

not_both : (asked : Asked) (p : Phase) (n : ℕ) (lines : List Line) (k : ℕ) (r : Refusal) (s : State) (c : List Line) → Refuses asked p n lines k r → Opens p n lines s c → ⊥
not_both asked (Commands u refused) n [] k r s c a b = bad_end asked u refused n k r a
not_both asked (Commands u refused) n (line ∷ lines) k r s c a b = not_both asked (Commands u refused) (n + 1) lines k r u lines a (refl, refl)
not_both asked Header n [] k r s c a b = b
not_both asked (Between plan) n [] k r s c a b = b
not_both asked (InGroup plan g ys) n [] k r s c a b = b
not_both asked (InJournal part v) n [] k r s c a b = b
not_both asked Header n (line ∷ lines) k r s c a b = refused_alike (read_line Header n line.bytes) k r _ _ (λ q x y. not_both asked q (n + 1) lines k r s c x y) a b
not_both asked (Between plan) n (line ∷ lines) k r s c a b = refused_alike (read_line (Between plan) n line.bytes) k r _ _ (λ q x y. not_both asked q (n + 1) lines k r s c x y) a b
not_both asked (InGroup plan g ys) n (line ∷ lines) k r s c a b = refused_alike (read_line (InGroup plan g ys) n line.bytes) k r _ _ (λ q x y. not_both asked q (n + 1) lines k r s c x y) a b
not_both asked (InJournal part v) n (line ∷ lines) k r s c a b = refused_alike (read_line (InJournal part v) n line.bytes) k r _ _ (λ q x y. not_both asked q (n + 1) lines k r s c x y) a b

said_alike : (x : Read) (k l : ℕ) (r q : Refusal) (P Q : Phase → Type 0) → ((p : Phase) → P p → Q p → bad_line k r ≡ bad_line l q) → RefusedOr x k r P → RefusedOr x l q Q → bad_line k r ≡ bad_line l q
said_alike (Bad n f) k l r q P Q again a b = ap (λ (m : ℕ). bad_line m r) a.0 ∙ ap (bad_line n) a.1 ∙ sym (ap (λ (m : ℕ). bad_line m q) b.0 ∙ ap (bad_line n) b.1)
said_alike (Good p) k l r q P Q again a b = again p a b

over_text : {t u : Text} {v w : Status} → Over t v ≡ Over u w → t ≡ u
over_text e = cc

one_refusal : (asked : Asked) (p : Phase) (n : ℕ) (lines : List Line) (k l : ℕ) (r q : Refusal) → Refuses asked p n lines k r → Refuses asked p n lines l q → bad_line k r ≡ bad_line l q
one_refusal asked p n [] k l r q a b = over_text (sym a ∙ b)
one_refusal asked p n (line ∷ lines) k l r q a b = said_alike (read_line p n line.bytes) k l r q _ _ (λ j x y. one_refusal asked j (n + 1) lines k l r q x y) a b

-- One reply to each command.

record Alike (t u : State) (out more : Text) (rs qs : List Reply) : Type 0 where
  held : t ≡ u
  printed : out ≡ more
  replies : rs ≡ qs

none_left : (ds ls : List Line) → ds ++ ls ≡ [] → ds ≡ []
none_left [] ls e = refl
none_left (d ∷ ds) ls e = absurd cc

-- to no commands
none_answered : (asked : Asked) (s t : State) (done : List Line) (rs : List Reply) (out : Text) → done ≡ [] → Answered asked false s done rs out t → (rs ≡ []) × (out ≡ []) × (t ≡ s)
none_answered asked s t [] [] out e a = (refl, a.0, a.1)
none_answered asked s t [] (r ∷ rs) out e a = absurd a
none_answered asked s t (d ∷ ds) rs out e a = absurd cc

-- no replies are to no commands
no_replies : (asked : Asked) (s t : State) (done : List Line) (rs : List Reply) (out : Text) → rs ≡ [] → Answered asked false s done rs out t → (out ≡ []) × (t ≡ s)
no_replies asked s t [] [] out e a = (a.0, a.1)
no_replies asked s t (d ∷ ds) [] out e a = absurd a
no_replies asked s t [] (r ∷ rs) out e a = absurd cc
no_replies asked s t (d ∷ ds) (r ∷ rs) out e a = absurd cc

one_answered : (asked : Asked) (s t u : State) (ds ls es ks : List Line) (rs qs : List Reply) (out more : Text) → ds ++ ls ≡ es ++ ks → StopsAt asked.stop rs ls → StopsAt asked.stop qs ks
    → Answered asked false s ds rs out t → Answered asked false s es qs more u → Alike t u out more rs qs
one_answered asked s t u [] ls es ks [] qs out more e a b x y =
    let none : es ++ ks ≡ [] = sym e ∙ a in
    let o = none_answered asked s u es qs more (none_left es ks none) y in record { held = x.1 ∙ sym o.2; printed = x.0 ∙ sym o.1; replies = sym o.0 }
one_answered asked s t u [] ls es ks (r ∷ rs) qs out more e a b x y = absurd x
one_answered asked s t u (d ∷ ds) ls es ks [] qs out more e a b x y = absurd x
one_answered asked s t u (d ∷ ds) ls [] ks (r ∷ rs) [] out more e a b x y = let n : ks ≡ [] = b in absurd (cons_nil (e ∙ n))
  where
    cons_nil : {z : Line} {zs : List Line} → z ∷ zs ≡ [] → ⊥
    cons_nil h = absurd cc
one_answered asked s t u (d ∷ ds) ls [] ks (r ∷ rs) (q ∷ qs) out more e a b x y = absurd y
one_answered asked s t u (d ∷ ds) ls (c ∷ es) ks (r ∷ rs) [] out more e a b x y = absurd y
one_answered asked s t u (d ∷ ds) ls (c ∷ es) ks (r ∷ rs) (q ∷ qs) out more e a b (v, (xs, (may, is, x))) (w, (ys, (may', is', y))) =
    let same : d ≡ c = cc in
    let here : MayAnswer false d.bytes s q w = subst (λ (l : Line). MayAnswer false l.bytes s q w) (sym same) may' in
    let o = one_answer d.bytes s v w r q may here in
    let mine : Answered asked false v es qs ys u = subst (λ (z : State). Answered asked false z es qs ys u) (sym o.1) y in
    let texts : reply_text asked.quiet r (reviewed (call_of d.bytes) r s) ≡ reply_text asked.quiet q (reviewed (call_of c.bytes) q s) =
    ap (λ (l : Line). reply_text asked.quiet r (reviewed (call_of l.bytes) r s)) same ∙ ap (λ (z : Reply). reply_text asked.quiet z (reviewed (call_of c.bytes) z s)) o.0 in
    joined asked t u r q rs qs xs ys out more o.0 is is' texts
    (rest asked v t u ds ls es ks r q rs qs xs ys o.0 (tails e) a b x mine (λ f g. one_answered asked v t u ds ls es ks rs qs xs ys (tails e) f g x mine))
  where
    tails : {z z' : Line} {zs zs' : List Line} → z ∷ zs ≡ z' ∷ zs' → zs ≡ zs'
    tails h = cc

    joined : (asked : Asked) (t u : State) (r q : Reply) (rs qs : List Reply) (xs ys out more : Text) {m n : Text} → r ≡ q → out ≡ m ++ xs → more ≡ n ++ ys → m ≡ n → Alike t u xs ys rs qs → Alike t u out more (r ∷ rs) (q ∷ qs)
    joined asked t u r q rs qs xs ys out more {m} {n} e i j f o = record {
      held = o.held;
      printed = i ∙ ap (λ (k : Text). k ++ xs) f ∙ ap (λ (k : Text). n ++ k) o.printed ∙ sym j;
      replies = ap (λ (k : Reply). k ∷ rs) e ∙ ap (λ (ks : List Reply). q ∷ ks) o.replies;
    }

    rest : (asked : Asked) (v t u : State) (ds ls es ks : List Line) (r q : Reply) (rs qs : List Reply) (xs ys : Text) → r ≡ q → ds ++ ls ≡ es ++ ks → StopsAt asked.stop (r ∷ rs) ls → StopsAt asked.stop (q ∷ qs) ks
        → Answered asked false v ds rs xs t → Answered asked false v es qs ys u → (StopsAt asked.stop rs ls → StopsAt asked.stop qs ks → Alike t u xs ys rs qs) → Alike t u xs ys rs qs
    rest asked v t u ds ls es ks r q rs qs xs ys e f (inl a) (inl b) x y again =
        let m = no_replies asked v t ds rs xs a.1 x in
        let n = no_replies asked v u es qs ys b.1 y in record { held = m.1 ∙ sym n.1; printed = m.0 ∙ sym n.0; replies = a.1 ∙ sym b.1 }
    rest asked v t u ds ls es ks r q rs qs xs ys e f (inr a) (inr b) x y again = again a.1 b.1
    rest asked v t u ds ls es ks r q rs qs xs ys e f (inl a) (inr b) x y again = let z : true ≡ false = sym a.0 ∙ ap (λ (k : Reply). asked.stop && is_refused k) e ∙ b.0 in absurd cc
    rest asked v t u ds ls es ks r q rs qs xs ys e f (inr a) (inl b) x y again = let z : false ≡ true = sym a.0 ∙ ap (λ (k : Reply). asked.stop && is_refused k) e ∙ b.0 in absurd cc

one_held : (asked : Asked) (s : State) (commands : List Line) (out more : Text) (h : PrintsHeld asked false s commands out) (k : PrintsHeld asked false s commands more) → (out ≡ more) × (h.replies ≡ k.replies)
one_held asked s commands out more h k =
    let o = one_answered asked s h.held k.held h.done h.left k.done k.left h.replies k.replies h.printed k.printed (sym h.cut ∙ k.cut) h.stops k.stops h.answered k.answered in
    (h.whole ∙ ap (λ (t : Text). t ++ end_text asked h.held) o.printed ∙ ap (λ (z : State). k.printed ++ end_text asked z) o.held ∙ sym k.whole, o.replies)

all_alike : (asked : Asked) (n : ℕ) (lines : List Line) (out more : Text) (v w : Status) → PrintsAll asked false Header n lines out v → PrintsAll asked false Header n lines more w → (more ≡ out) × (w ≡ v)
all_alike asked n lines out more v w a b =
    let o = one_opening Header n lines a.opened b.opened a.commands b.commands a.opens b.opens in
    let P : State → List Line → Type 0 = λ s c. (h : PrintsHeld asked false s c out) × (v ≡ status_of (list_any is_refused h.replies)) in
    let moved : P b.opened b.commands = subst (λ (s : State). P s b.commands) o.0 (subst (λ (c : List Line). P a.opened c) o.1 (a.prints, a.ends)) in
    let q = one_held asked b.opened b.commands out more moved.0 b.prints in
    (sym q.0, b.ends ∙ ap (λ (rs : List Reply). status_of (list_any is_refused rs)) (sym q.1) ∙ sym moved.1)

pub one_standing : OneStanding
one_standing asked input out more v w (inl a) (inl b) =
    (b.1.1.1 ∙ one_refusal asked Header 1 (lines_of input) b.0 a.0 b.1.0 a.1.0 b.1.1.0 a.1.1.0 ∙ sym a.1.1.1, b.1.1.2 ∙ sym a.1.1.2)
one_standing asked input out more v w (inl a) (inr b) = absurd (not_both asked Header 1 (lines_of input) a.0 a.1.0 b.opened b.commands a.1.1.0 b.opens)
one_standing asked input out more v w (inr a) (inl b) = absurd (not_both asked Header 1 (lines_of input) b.0 b.1.0 a.opened a.commands b.1.1.0 a.opens)
one_standing asked input out more v w (inr a) (inr b) = all_alike asked 1 (lines_of input) out more v w a b
