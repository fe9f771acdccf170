-- A call that has nothing more to send has its reply: the reply may come, and all is settled after it.
use Rattle.std.proofs.Common.{◌≡◌, ℕ, Bool, true, false, not, ◌&&◌, ◌||◌, cond, List, [], ◌∷◌, Option, Some, None, is_some, is_none, refl, sym, ap, ◌∙◌}
use Rattle.std.proofs.lemmas.Bool.{or_right}
use Rattle.dsql_laws_calls.specs.driver.declared.call.DriverCall.{DriverCall}
use Rattle.dsql_laws_calls.specs.journal.Readers.{has, is_empty}
use Rattle.dsql_laws_calls.specs.pool.declared.moves.Move.{Move}
use Rattle.dsql_laws_calls.specs.history.Same.{is_reply}
use Rattle.dsql_laws_calls.specs.history.declared.event.Event.{Event}
use Rattle.dsql_laws_calls.specs.history.declared.event.Event.TheVariants.{Replied}
use Rattle.dsql_laws_calls.specs.history.declared.record.Flight.{Flight}
use Rattle.dsql_laws_calls.specs.history.declared.reply.Reply.{Reply}
use Rattle.dsql_laws_calls.specs.history.declared.reply.Reply.TheVariants.{TooMany}
use Rattle.dsql_laws_calls.specs.history.Readers.Calls.{reply_due}
use Rattle.dsql_laws_calls.specs.history.Readers.Owed.{owed}
use Rattle.dsql_laws_calls.specs.history.Readers.Unfinished.{unfinished, is_unfinished}
use Rattle.dsql_laws_calls.specs.history.Rules.Asking.{may_ask, ask_outcome, is_too_many}
use Rattle.dsql_laws_calls.specs.history.Rules.Course.{keeps_course}
use Rattle.dsql_laws_calls.specs.history.Rules.Line.{due_for}
use Rattle.dsql_laws_calls.specs.history.Rules.Order.{follows}
use Rattle.dsql_laws_calls.specs.history.Rules.Replies.{gave_back, has_cause, is_told_too_many}
use Rattle.dsql_laws_calls.specs.history.Rules.Settled.{Settled, calls_stand_but, is_settled_but, owes_nothing, uses_what_is_lent}
use Rattle.dsql_laws_calls.specs.history.Rules.Stands.{stand}
use Rattle.dsql_laws_calls.specs.history.Legal.{Allowed}
use Rattle.dsql_laws_calls.proofs.laws.Tests.{both, together, same_itself}
use Rattle.dsql_laws_calls.proofs.Lists.{has-without}
use Rattle.dsql_laws_others.proofs.Untouched.{used_replied, goes_on_replied}
use Rattle.dsql_engine_desk.specs.Appending.{reply_now}
use Rattle.dsql_engine_calls.specs.Settling.{reply_or}
use Rattle.dsql_engine_going.specs.Answers.{sends_unless, why_blocked}
use Rattle.dsql_engine_going.specs.Reaching.{HasGoneOn}
use Rattle.dsql_engine_going.specs.declared.next.Next.TheVariants as nexts
use Rattle.dsql_engine_going.proofs.Sameness.{reply_itself}
use Rattle.dsql_engine_going.proofs.Standing.{unsent_flights}

no_moves : (ms : List Move) → is_empty ms ≡ true → ms ≡ []
no_moves [] h = refl
no_moves (m ∷ ms) h = absurd cc

pub settled_owes : (H : List Event) (n : ℕ) → is_settled_but n H ≡ true → owed H ≡ []
settled_owes H n h = no_moves (owed H) (both (owes_nothing H) (uses_what_is_lent H && calls_stand_but n H) h).0

none_is : (d : Option DriverCall) → is_some d ≡ false → is_none d ≡ true
none_is None h = refl
none_is (Some call) h = absurd cc

course_of_reply : (H : List Event) (n : ℕ) (r : Reply) → is_unfinished H n ≡ true → keeps_course H (Replied n r) ≡ true
course_of_reply [] n r u = absurd cc
course_of_reply (e ∷ H) n r u = refl

pub reply_allowed : (H : List Event) (n : ℕ) (r : Reply) → is_unfinished H n ≡ true → is_some (due_for H n) ≡ false → gave_back H n ≡ true → has_cause H n r ≡ true → is_settled_but n H ≡ true → Allowed H (Replied n r)
unfolding Allowed
reply_allowed H n r u silent gave cause settled = record {
  course = course_of_reply H n r u;
  numbers = u;
  sets = refl;
  limit = refl;
  asking = refl;
  order = ap (λ ms. follows ms (Replied n r)) (settled_owes H n settled);
  causes = refl;
  line = refl;
  journals = refl;
  replies =
      together (is_none (due_for H n)) (gave_back H n && (has_cause H n r && is_settled_but n H)) (none_is (due_for H n) silent)
      (together (gave_back H n) (has_cause H n r && is_settled_but n H) gave (together (has_cause H n r) (is_settled_but n H) cause settled));
}

-- Why the call replies.

due_reply : (o : Option Reply) → is_some o ≡ true → is_reply o (reply_or o) ≡ true
due_reply None h = absurd cc
due_reply (Some r) h = reply_itself r

pub due_cause : (H : List Event) (n : ℕ) → is_some (reply_due H n) ≡ true → has_cause H n (reply_now H n) ≡ true
due_cause H n h = ap (λ b. b || is_told_too_many H n (reply_now H n)) (due_reply (reply_due H n) h)

pub many_cause : (H : List Event) (n : ℕ) → may_ask H n ≡ true → is_too_many (ask_outcome H n) ≡ true → has_cause H n TooMany ≡ true
many_cause H n may many = or_right (is_reply (reply_due H n) TooMany) (may_ask H n && is_too_many (ask_outcome H n)) (together (may_ask H n) (is_too_many (ask_outcome H n)) may many)

-- What holds after the reply.

pub settled_replied : (H : List Event) (n : ℕ) (r : Reply) → gave_back H n ≡ true → is_settled_but n H ≡ true → Settled (Replied n r ∷ H)
settled_replied H n r gave h =
    let a = both (owes_nothing H) (uses_what_is_lent H && calls_stand_but n H) h in
    let b = both (uses_what_is_lent H) (calls_stand_but n H) a.1 in
    record { nothing_owed = refl; used = used_replied H n r gave ∙ b.0; somewhere = goes_on_replied H n r b.1 }

pub replied_finished : (H : List Event) (n : ℕ) (r : Reply) → is_unfinished (Replied n r ∷ H) n ≡ false
replied_finished H n r = has-without n n (unfinished H) ∙ ap (λ b. not b && has n (unfinished H)) (same_itself n)

-- The step of a call that has its reply returns that next.
pub goes_finished : (K : List Event) (n : ℕ) (flights : List Flight) → is_unfinished K n ≡ false → HasGoneOn K flights flights n (nexts.Reply n)
goes_finished K n flights done = record {
  answers = ap (λ (b : Bool). cond b (sends_unless K n (why_blocked flights n (stand K n))) (Some (nexts.Reply n))) done;
  flights = sym (unsent_flights K n flights (rw done refl));
}

pub goes_replying : (H : List Event) (n : ℕ) (r : Reply) (flights : List Flight) → HasGoneOn (Replied n r ∷ H) flights flights n (nexts.Reply n)
goes_replying H n r flights = goes_finished (Replied n r ∷ H) n flights (replied_finished H n r)
