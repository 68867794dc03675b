-- What a command is answered, and the review after it, as this crate has them.
use Rattle.std.specs.Prelude.{◌≡◌, ◌⊎◌, ◌<◌, Bool, true, List, [], Result, Ok, Err}
use Rattle.balise_rules.specs.declared.identity.Id.{Id}
use Rattle.balise_rules.specs.declared.refusal.Refusal.{Refusal}
use Rattle.balise_rules.specs.declared.refusal.Refusal.TheVariants.{OutOfMemory, Worn}
use Rattle.balise_rules.specs.declared.review.ReviewLine.{ReviewLine}
use Rattle.balise_rules.specs.Addresses.{AskTurn}
use Rattle.balise_rules.specs.Journal.{line_of}
use Rattle.balise_rules.specs.Paths.{Entry}
use Rattle.balise_rules.specs.Plan.{Plan, group_named}
use Rattle.balise_rules.specs.Session.{State, Call, Ask, Reply, Refused, answer, most_commands}
use Rattle.balise_text.specs.Answers.{reply_of}
use Rattle.balise_text.specs.Commands.{call_of}
use Rattle.balise_text.specs.Texts.{Text}
use Rattle.balise_cli.specs.PlanTexts as texts
use Rattle.balise_cli.specs.Output.{MayAnswer, TakesMemory, group_review, reply_text, reviewed}
use Rattle.balise_cli.specs.declared.answers.Answer.{Answer}

-- a command has its reply; one that takes memory may be refused for it, but not at the session's limit
abbrev pub DidDo : Call → State → Reply → State → Type 0
DidDo c s r t = (◌≡◌ {A = Reply × State} (r, t) (answer c s)) ⊎ (TakesMemory (Ok c) s × (s.count < most_commands) × (r ≡ Refused OutOfMemory) × (t ≡ s))

-- a turn is asked for
abbrev pub IsTurn : Call → Type 0
IsTurn c = (i : Id) × (c ≡ Ask (AskTurn i))

-- the review lines after a command is done on this plan: none but after a turn
abbrev pub review_after : Call → Plan → List ReviewLine
review_after (Ask (AskTurn i)) plan = group_review (group_named i plan) plan
review_after c plan = []

-- a line may be refused so before anything is done
abbrev pub IsRefused : Text → State → Refusal → Type 0
IsRefused line s r = MayAnswer true line s (Refused r) s

-- why a line is refused at the limit of a session: for its own fault, or as worn
abbrev pub at_limit : {A : Type 0} → Result A Refusal → Refusal
at_limit (Err r) = r
at_limit (Ok x) = Worn

-- a line has this answer, and leaves this state
abbrev pub DidAnswer : Text → State → Answer → State → Type 0
DidAnswer line s a t = MayAnswer true line s (reply_of a.reply) t × (a.review.items ≡ reviewed (call_of line) (reply_of a.reply) s)

abbrev pub answer_text : Bool → Answer → Text
answer_text quiet a = reply_text quiet (reply_of a.reply) a.review.items

-- the line of an entry
abbrev pub told : Entry → Text
told e = texts.entry_line (line_of e)
