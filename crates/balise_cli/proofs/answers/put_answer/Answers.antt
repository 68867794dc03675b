use Rattle.std.proofs.Common.{◌≡◌, true, false, Bool, List, ℕ, Option, MatchResult, map, refl, sym, subst}
use Rattle.std.proofs.KnownBytes.{Appends-nil}
use Rattle.balise_rules.specs.Session.{Reply}
use Rattle.balise_lines.specs.declared.counted.Counted.{Counted}
use Rattle.balise_lines.specs.Writing.{LastFailed, WritesAll, WritesSome}
use Rattle.balise_text.proofs.TextsBehind.{behind, some_front_of}
use Rattle.balise_text.specs.Answers.{reply_of}
use Rattle.balise_text.specs.Replies.{is_refused, reply_line}
use Rattle.balise_text.specs.Reviews.{review_line}
use Rattle.balise_text.specs.Texts.{Text, text_of}
use Rattle.balise_cli.specs.Output.{shown_reply}
use Rattle.balise_cli.proofs.answers.put_answer.Goals as goal
use Rattle.balise_cli.proofs.answers.put_answer.Goals.{then-not-quiet+in_default, then-not-quiet-via-then-not-quiet, then-not-quiet-via-else-not-quiet+then-is_refused, else-not-quiet+else-is_refused}

-- what holds of a reply's line holds of what is shown of the reply
shown_aloud : (P : Text → Type 0) (quiet : Bool) (r : Reply) → quiet ≡ false → P (reply_line r) → P (shown_reply quiet r)
shown_aloud P quiet r e a = rw e a

shown_refused : (P : Text → Type 0) (quiet : Bool) (r : Reply) → quiet ≡ true → true ≡ is_refused r → P (reply_line r) → P (shown_reply quiet r)
shown_refused P quiet r e f a = rw e (rw (sym f) a)

hidden : {W : Type 0} (contents : W → Option (List ℕ)) (quiet : Bool) (r : Reply) (old : Counted W) → quiet ≡ true → false ≡ is_refused r → WritesAll contents old old (shown_reply quiet r)
hidden contents quiet r old e f = rw e (rw (sym f) (record { appended = Appends-nil (contents old.inner); unfailed = refl }))

shown_before : (g : _) (c : goal.After-put_reviews g) → WritesAll g.W.Write.contents c.args.writer.now c.if-not-quiet.writer (shown_reply c.args.quiet (reply_of c.args.answer.now.reply))
shown_before g c =
    let old = c.args.writer.now in
    let quiet = c.args.quiet in
    let r = reply_of c.args.answer.now.reply in
    elim c.if-not-quiet.branch [
      | then-not-quiet+in_default w ↦
          rw w.writer-is (elim w.then-not-quiet.branch [
            | then-not-quiet-via-then-not-quiet w' ↦ shown_aloud (WritesAll g.W.Write.contents old _) quiet r w'.if-not-quiet.true w.in_default.ensures
            | then-not-quiet-via-else-not-quiet+then-is_refused w' ↦ shown_refused (WritesAll g.W.Write.contents old _) quiet r w'.if-not-quiet.false w'.if-is_refused.ensures w.in_default.ensures
          ])
      | else-not-quiet+else-is_refused w ↦ rw w.writer-is (hidden _ quiet r old w.if-not-quiet.false w.if-is_refused.ensures)
    ]

pub returns-in-Err : goal.returns-in-Err
returns-in-Err g c =
    let quiet = c.args.quiet in
    let r = reply_of c.args.answer.now.reply in
    let begun = WritesSome LastFailed g.W.Write.contents c.args.writer.now c.put_reply.new.writer in
    some_front_of LastFailed _ _ (shown_reply quiet r) _ _ _ refl (elim c.then-not-quiet.branch [
      | then-not-quiet-via-then-not-quiet w ↦ shown_aloud begun quiet r w.if-not-quiet.true c.in-Err.ensures
      | then-not-quiet-via-else-not-quiet+then-is_refused w ↦ shown_refused begun quiet r w.if-not-quiet.false w.if-is_refused.ensures c.in-Err.ensures
    ])

pub returns : goal.returns
returns g c =
    let contents = g.W.Write.contents in
    let now = c.if-not-quiet.writer in
    let new = c.put_reviews.new.writer in
    let r = c.put_reviews.result in
    behind (λ _. LastFailed) contents r _ _ _ _ now new refl (shown_before g c)
    (subst (λ ls. MatchResult r (λ _. WritesAll contents now new (text_of (map review_line ls))) (λ _. WritesSome LastFailed contents now new (text_of (map review_line ls)))) c.deref.ensures.value c.put_reviews.ensures)
