-- Memory that runs out at a command is seen in what is printed.
use Rattle.std.proofs.Common.{◌≡◌, ◌∙◌, inl, inr, ℕ, ◌+◌, Bool, true, false, List, [], ◌∷◌, ◌++◌, length, map, refl, sym, ap, subst, append_assoc}
use Rattle.balise_rules.specs.declared.refusal.Refusal.TheVariants.{OutOfMemory}
use Rattle.balise_rules.specs.declared.review.ReviewLine.{ReviewLine}
use Rattle.balise_rules.specs.Session.{Refused, Reply, State}
use Rattle.balise_lines.specs.Lines.{Line, lines_of, whole}
use Rattle.balise_cli.specs.declared.asked.Asked.{Asked}
use Rattle.balise_text.specs.Commands.{call_of}
use Rattle.balise_text.specs.Replies.{reply_line}
use Rattle.balise_text.specs.Reviews.{review_line}
use Rattle.balise_text.specs.Texts.{Text, text_of}
use Rattle.balise_cli.specs.Laws.{Answered, OneWithout, PrintsHeld, PromisedWithout, SaysNoShortage, ShortageShows}
use Rattle.balise_cli.specs.Output.{Between, Commands, Ending, Follows, Header, InGroup, InJournal, IsOutput, IsStep, MayAnswer, Next, On, Over, Phase, reply_text, reviewed}
use Rattle.balise_cli.specs.PlanTexts.{end_text}
use Rattle.balise_cli.proofs.OneOutput.{one_output}

-- Parts of a text that has no such reply have none.

back : (xs ys : Text) → SaysNoShortage (xs ++ ys) → SaysNoShortage ys
back xs ys none before after e = none (xs ++ before) after (ap (λ (t : Text). xs ++ t) e ∙ sym (append_assoc xs before (reply_line (Refused OutOfMemory) ++ after)))

front : (xs ys : Text) → SaysNoShortage (xs ++ ys) → SaysNoShortage xs
front xs ys none before after e =
    none before (after ++ ys)
    (ap (λ (t : Text). t ++ ys) e ∙ append_assoc before (reply_line (Refused OutOfMemory) ++ after) ys ∙ ap (λ (t : Text). before ++ t) (append_assoc (reply_line (Refused OutOfMemory)) after ys))

-- That reply is printed, also where the run is quiet.

said : (quiet : Bool) (ls : List ReviewLine) → reply_text quiet (Refused OutOfMemory) ls ≡ reply_line (Refused OutOfMemory) ++ text_of (map review_line ls)
said true ls = refl
said false ls = refl

not_said : (quiet : Bool) (r : Reply) (ls : List ReviewLine) → SaysNoShortage (reply_text quiet r ls) → r ≡ Refused OutOfMemory → ⊥
not_said quiet r ls none is = none [] (text_of (map review_line ls)) (ap (λ (q : Reply). reply_text quiet q ls) is ∙ said quiet ls)

served : (line : Text) (s t : State) (r : Reply) → (r ≡ Refused OutOfMemory → ⊥) → MayAnswer true line s r t → MayAnswer false line s r t
served line s t r not (inl e) = inl e
served line s t r not (inr w) = absurd (not w.2)

scarce : (line : Text) (s t : State) (r : Reply) → MayAnswer false line s r t → MayAnswer true line s r t
scarce line s t r (inl e) = inl e
scarce line s t r (inr w) = let z : false ≡ true = w.0 in absurd cc

-- An output.

served_step : (asked : Asked) (p : Phase) (n : ℕ) (line now : Text) (next : Next) → SaysNoShortage now → IsStep asked true p n line now next → IsStep asked false p n line now next
served_step asked Header n line now next none is = is
served_step asked (Between plan) n line now next none is = is
served_step asked (InGroup plan g ys) n line now next none is = is
served_step asked (InJournal part s) n line now next none is = is
served_step asked (Commands s refused) n line now next none is =
    let r = is.0 in
    let not : r ≡ Refused OutOfMemory → ⊥ = not_said asked.quiet r (reviewed (call_of line) r s) (subst SaysNoShortage is.1.1.1 none) in
    (r, (is.1.0, (served line s is.1.0 r not is.1.1.0, is.1.1.1, is.1.1.2)))

follow : (goes went : Phase → Text → Type 0) (next : Next) (more : Text) (e : Ending) → ((q : Phase) → goes q more → went q more) → Follows goes next more e → Follows went next more e
follow goes went (On q) more e each a = each q a
follow goes went (Over text status) more e each a = a

served_output : (asked : Asked) (p : Phase) (n place : ℕ) (lines : List Line) (out : Text) (e : Ending) → SaysNoShortage out → IsOutput asked true p n place lines out e → IsOutput asked false p n place lines out e
served_output asked p n place [] out e none a = a
served_output asked p n place (line ∷ lines) out e none (inl a) = inl a
served_output asked p n place (line ∷ lines) out e none (inr (fits, (now, (next, (more, (step, is, goes)))))) =
    let parts : SaysNoShortage (now ++ more) = subst SaysNoShortage is none in
    let to = place + length (whole line) in
    inr (
      fits,
      (
        now,
        (
          next,
          (
            more,
            (
              served_step asked p n line.bytes now next (front now more parts) step,
              is,
              follow (λ q rest. IsOutput asked true q (n + 1) to lines rest e) (λ q rest. IsOutput asked false q (n + 1) to lines rest e) next more e (λ q a. served_output asked q (n + 1) to lines more e (back now more parts) a) goes,
            ),
          ),
        ),
      ),
    )

pub shortage_shows : ShortageShows
shortage_shows asked input out e is none = served_output asked Header 1 0 (lines_of input) out e none is

-- What is promised of it.

served_all : (asked : Asked) (s t : State) (lines : List Line) (rs : List Reply) (out : Text) → SaysNoShortage out → Answered asked true s lines rs out t → Answered asked false s lines rs out t
served_all asked s t [] [] out none a = a
served_all asked s t [] (r ∷ rs) out none a = absurd a
served_all asked s t (line ∷ lines) [] out none a = absurd a
served_all asked s t (line ∷ lines) (r ∷ rs) out none (u, (more, (may, is, a))) =
    let now = reply_text asked.quiet r (reviewed (call_of line.bytes) r s) in
    let parts : SaysNoShortage (now ++ more) = subst SaysNoShortage is none in
    let not : r ≡ Refused OutOfMemory → ⊥ = not_said asked.quiet r (reviewed (call_of line.bytes) r s) (front now more parts) in
    (u, (more, (served line.bytes s u r not may, is, served_all asked u t lines rs more (back now more parts) a)))

scarce_all : (asked : Asked) (s t : State) (lines : List Line) (rs : List Reply) (out : Text) → Answered asked false s lines rs out t → Answered asked true s lines rs out t
scarce_all asked s t [] [] out a = a
scarce_all asked s t [] (r ∷ rs) out a = absurd a
scarce_all asked s t (line ∷ lines) [] out a = absurd a
scarce_all asked s t (line ∷ lines) (r ∷ rs) out (u, (more, (may, is, a))) = (u, (more, (scarce line.bytes s u r may, is, scarce_all asked u t lines rs more a)))

served_held : (asked : Asked) (s : State) (commands : List Line) (out : Text) → SaysNoShortage out → PrintsHeld asked true s commands out → PrintsHeld asked false s commands out
served_held asked s commands out none h =
    let answered = served_all asked s h.held h.done h.replies h.printed (front h.printed (end_text asked h.held) (subst SaysNoShortage h.whole none)) h.answered in
    record { done = h.done; left = h.left; cut = h.cut; replies = h.replies; stops = h.stops; printed = h.printed; held = h.held; answered = answered; whole = h.whole; promised = λ ls rs text t a. h.promised ls rs text t (scarce_all asked s t ls rs text a) }

pub promised_without : PromisedWithout
unfolding served_held
promised_without asked input out status (inl a) none = inl a
promised_without asked input out status (inr a) none = inr (record { opened = a.opened; commands = a.commands; opens = a.opens; prints = served_held asked a.opened a.commands out none a.prints; ends = a.ends })

-- There is one.

pub one_without : OneWithout
one_without asked input out other e f is none more as_none =
    let o = one_output asked input in
    let a = o.1.1.1 out e (shortage_shows asked input out e is none) in
    let b = o.1.1.1 other f (shortage_shows asked input other f more as_none) in
    (b.0 ∙ sym a.0, b.1 ∙ sym a.1)
