-- Defines the rules for replies: which reply a call gets, and when.
use Rattle.std.specs.Prelude.{ℕ, Bool, true, false, ◌&&◌, ◌||◌, List, is_none}
use Rattle.dsql_history.specs.declared.event.Event.{Event}
use Rattle.dsql_history.specs.declared.event.Event.TheVariants.{Replied}
use Rattle.dsql_history.specs.declared.reply.Reply.{Reply}
use Rattle.dsql_history.specs.declared.reply.Reply.TheVariants.{TooMany}
use Rattle.dsql_history.specs.Same.{is_reply}
use Rattle.dsql_history.specs.Readers.Calls.{reply_due, rests_with}
use Rattle.dsql_history.specs.Rules.Asking.{may_ask, ask_outcome, is_too_many}
use Rattle.dsql_history.specs.Rules.Line.{due_for}
use Rattle.dsql_history.specs.Rules.Settled.{is_settled_but}

-- Is true if the reply says that too many connections are open, and call n asks in vain.
abbrev pub is_told_too_many : List Event → ℕ → Reply → Bool
is_told_too_many before n TooMany = may_ask before n && is_too_many (ask_outcome before n)
is_told_too_many before n _ = false

-- Is true if call n gets the reply that is settled, or the reply that too many connections are open.
abbrev pub has_cause : List Event → ℕ → Reply → Bool
has_cause before n reply = is_reply (reply_due before n) reply || is_told_too_many before n reply

-- Is true if call n rests with no connection. A call that rests with one gives it back first.
abbrev pub gave_back : List Event → ℕ → Bool
gave_back before n = is_none (rests_with before n)

-- Is true unless the event is a reply out of turn. A call replies after it has nothing more to send, and has
-- given back a connection with which it rested. Its reply is the last event of its step: all is settled except
-- for this call.
abbrev pub keeps_replies : List Event → Event → Bool
keeps_replies before (Replied n reply) =
    is_none (due_for before n) && (gave_back before n && (has_cause before n reply && is_settled_but n before))
keeps_replies before _ = true
