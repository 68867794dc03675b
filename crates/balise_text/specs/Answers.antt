-- The replies of this crate as those of a session.
use Rattle.balise_rules.specs.Session as session
use Rattle.balise_text.specs.declared.reply.Reply.{Reply}
use Rattle.balise_text.specs.declared.reply.Reply.TheVariants.{Done, Undone, Redone, Struck, Refused}

abbrev pub reply_of : Reply → session.Reply
reply_of (Done s) = session.Done s
reply_of (Undone s) = session.Undone s
reply_of (Redone s) = session.Redone s
reply_of (Struck s) = session.Struck s
reply_of (Refused r) = session.Refused r
