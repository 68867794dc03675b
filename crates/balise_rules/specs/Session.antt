-- A session: the standing edits, those undone, and what each command answers and leaves (this project's own).
use Rattle.std.specs.Prelude.{◌≡◌, ℕ, suc, not, nat_le, nat_lt, eqb, Bool, true, false, cond, ◌⊎◌, IsTrue, List, [], ◌∷◌, ◌++◌, filter, find, Option, Some, None, Result, Ok, Err}
use Rattle.balise_rules.specs.declared.variable.Var.TheVariants.{NidBg}
use Rattle.balise_rules.specs.declared.refusal.Refusal.{Refusal}
use Rattle.balise_rules.specs.declared.refusal.Refusal.TheVariants.{NothingToUndo, NothingToRedo, NoSuchEdit, DependsOn, Worn, OutOfMemory}
use Rattle.balise_rules.specs.declared.tag.Tag.TheVariants.{Fresh}
use Rattle.balise_rules.specs.Refusals.{and_then}
use Rattle.balise_rules.specs.Tags.{same_var}
use Rattle.balise_rules.specs.Plan.{Plan}
use Rattle.balise_rules.specs.Edits.{Edit, Item}
use Rattle.balise_rules.specs.declared.tagged_edit.TaggedEdit.TheVariants.{SetVar, SetHead, AddGroup, TurnGroup}
use Rattle.balise_rules.specs.Notes.{noted}
use Rattle.balise_rules.specs.Doing.{refusal, done, do_edit}
use Rattle.balise_rules.specs.Accepting.{Accepted}
use Rattle.balise_rules.specs.Paths.{Entry}
use Rattle.balise_rules.specs.Behind.{anchor_of, independent, serials_behind, hung}
use Rattle.balise_rules.specs.Addresses.{Command, edit_of}

-- what edits make of a plan, one after another
abbrev pub made : Plan → List Item → Plan
made plan [] = plan
made plan (e ∷ es) = made (done e plan) es

-- the same edits done one after another, or the first refusal
abbrev pub do_all : List Item → Plan → Result Plan Refusal
do_all [] plan = Ok plan
do_all (e ∷ es) plan = and_then (do_edit e plan) (do_all es)

-- each is accepted on what those before it make
abbrev pub AllAccepted : Plan → List Item → Type 0
AllAccepted plan [] = Unit {0}
AllAccepted plan (e ∷ es) = Accepted e.1 plan × AllAccepted (done e plan) es

-- edits with what each notes on what those before it make
abbrev pub entries : Plan → List Item → List Entry
entries plan [] = []
entries plan (e ∷ es) = (e, noted e.1 plan) ∷ entries (done e plan) es

-- An edit that was undone or struck, and the serials of the later edits that stood after it: they stand on its own anchor meanwhile.
pub record Removed : Type 0 where
  pub item : Item
  pub behind : List ℕ

-- an edit that is removed when none stands after it
abbrev pub lone : Item → Removed
lone e = record { item = e; behind = [] }

-- The plan first read; the standing edits, by rising serial; those undone or struck, the last one first; the next serial; how many commands were accepted.
pub record State : Type 0 where
  pub base : Plan
  pub standing : List Item
  pub stack : List Removed
  pub serial : ℕ
  pub count : ℕ

-- a session over a plan
abbrev pub opened : Plan → State
opened plan = record { base = plan; standing = []; stack = []; serial = 1; count = 0 }

-- the plan that a session holds
abbrev pub held : State → Plan
held s = made s.base s.standing

-- how many commands a session takes
abbrev pub most_commands : ℕ
most_commands = 1000000

pub data Call : Type 0 where
  Ask : Command → Call
  Undo : Call
  Redo : Call
  Strike : ℕ → Call

-- the serial of the edit that was done, undone, done again or struck, or why not
pub data Reply : Type 0 where
  Done : ℕ → Reply
  Undone : ℕ → Reply
  Redone : ℕ → Reply
  Struck : ℕ → Reply
  Refused : Refusal → Reply

abbrev pub answer_accepted : State → Edit → Option Refusal → Reply × State
answer_accepted s e (Some r) = (Refused r, s)
answer_accepted s e None = (Done s.serial, record { base = s.base; standing = s.standing ++ (s.serial, e) ∷ []; stack = []; serial = suc s.serial; count = suc s.count })

abbrev pub answer_edit : State → Result Edit Refusal → Reply × State
answer_edit s (Err r) = (Refused r, s)
answer_edit s (Ok e) = answer_accepted s e (refusal e (held s))

abbrev pub last : List Item → Option Item
last [] = None
last (e ∷ []) = Some e
last (e ∷ f ∷ es) = last (f ∷ es)

-- the items of another serial
abbrev pub others : ℕ → List Item → List Item
others serial es = filter (λ e. not (eqb e.0 serial)) es

-- an item put at its own place among others of rising serial
abbrev pub put_by_serial : Item → List Item → List Item
put_by_serial e [] = e ∷ []
put_by_serial e (f ∷ fs) = cond (nat_lt e.0 f.0) (e ∷ f ∷ fs) (f ∷ put_by_serial e fs)

-- the standing edits without one, which goes to the stack
abbrev pub taken_out : State → List Item → Removed → State
taken_out s es r = record { base = s.base; standing = es; stack = r ∷ s.stack; serial = s.serial; count = suc s.count }

abbrev pub answer_undo : State → Option Item → Reply × State
answer_undo s None = (Refused NothingToUndo, s)
answer_undo s (Some e) = (Undone e.0, taken_out s (others e.0 s.standing) (lone e))

-- the standing edits with one put back at its own place; those that stood after it are anchored on what it puts in, as before
abbrev pub put_back : Removed → List Item → List Item
put_back r es = put_by_serial r.item (hung (Some (Fresh r.item.0)) r.behind es)

abbrev pub answer_redo : State → List Removed → Reply × State
answer_redo s [] = (Refused NothingToRedo, s)
answer_redo s (r ∷ rs) = (Redone r.item.0, record { base = s.base; standing = put_back r s.standing; stack = rs; serial = s.serial; count = suc s.count })

-- the entries after that of a serial
abbrev pub later : ℕ → List Entry → List Entry
later serial [] = []
later serial (e ∷ es) = cond (eqb serial e.0.0) es (later serial es)

-- the serial of the first entry that isn't independent of e
abbrev pub first_dependent : Entry → List Entry → Option ℕ
first_dependent e [] = None
first_dependent e (f ∷ fs) = cond (independent e f) (first_dependent e fs) (Some f.0.0)

-- the state where e was struck, and these serials stood after it
abbrev pub struck_out : State → Item → List ℕ → State
struck_out s e behind = taken_out s (hung (anchor_of e.1) behind (others e.0 s.standing)) (record { item = e; behind = behind })

-- a strike of e, by the entries that stand after it and by the serial of the first one that depends on it
abbrev pub answer_dependent : State → Entry → List Entry → Option ℕ → Reply × State
answer_dependent s e fs (Some serial) = (Refused (DependsOn serial), s)
answer_dependent s e fs None = (Struck e.0.0, struck_out s e.0 (serials_behind e fs))

abbrev pub answer_among : State → Entry → List Entry → Reply × State
answer_among s e fs = answer_dependent s e fs (first_dependent e fs)

abbrev pub answer_strike : State → Option Entry → Reply × State
answer_strike s None = (Refused NoSuchEdit, s)
answer_strike s (Some e) = answer_among s e (later e.0.0 (entries s.base s.standing))

abbrev pub answer_in_time : Call → State → Reply × State
answer_in_time (Ask c) s = answer_edit s (edit_of c (held s))
answer_in_time Undo s = answer_undo s (last s.standing)
answer_in_time Redo s = answer_redo s s.stack
answer_in_time (Strike serial) s = answer_strike s (find (λ e. eqb serial e.0.0) (entries s.base s.standing))

-- what a command answers and leaves where memory serves
abbrev pub answer : Call → State → Reply × State
answer c s = cond (nat_le most_commands s.count) (Refused Worn, s) (answer_in_time c s)

-- an edit that is taken back and done again without memory: a header's field, a turn, a field other than a link's number
abbrev pub needs_no_memory : Option Item → Bool
needs_no_memory None = true
needs_no_memory (Some (s, SetVar g t p v k n)) = not (same_var NidBg v)
needs_no_memory (Some (s, SetHead g t v n)) = true
needs_no_memory (Some (s, TurnGroup g)) = true
needs_no_memory (Some e) = false

-- an edit that is taken back without memory: these, and an addition
abbrev pub back_needs_no_memory : Option Item → Bool
back_needs_no_memory (Some (s, AddGroup after bs)) = true
back_needs_no_memory e = needs_no_memory e

abbrev pub top : List Removed → Option Item
top [] = None
top (r ∷ rs) = Some r.item

-- whether a command may be refused as out of memory
abbrev pub takes_memory : Call → State → Bool
takes_memory (Ask c) s = true
takes_memory Undo s = not (back_needs_no_memory (last s.standing))
takes_memory Redo s = not (needs_no_memory (top s.stack))
takes_memory (Strike serial) s = not (needs_no_memory (find (λ e. eqb serial e.0) s.standing))

-- A command's reply and the state after it: out of memory, where it is possible, leaves the state as it was.
abbrev pub Answers : Call → State → Reply → State → Type 0
Answers c s r s' = (◌≡◌ {A = Reply × State} (r, s') (answer c s)) ⊎ (IsTrue (takes_memory c s) × (r ≡ Refused OutOfMemory) × (s' ≡ s))

abbrev pub and_answers : Reply × State → (State → List Reply × State) → List Reply × State
and_answers r rest = (r.0 ∷ (rest r.1).0, (rest r.1).1)

-- the replies to commands, one after another, and the state after them
abbrev pub answer_all : List Call → State → List Reply × State
answer_all [] s = ([], s)
answer_all (c ∷ cs) s = and_answers (answer c s) (answer_all cs)
