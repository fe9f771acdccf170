-- A call that goes on to no driver call has nothing new under way.
use Rattle.std.proofs.Common.{◌≡◌, ℕ, Bool, true, false, cond, List, Option, Some, None, is_some, refl, ap, ◌∙◌}
use Rattle.std.specs.Option.{option_map}
use Rattle.dsql_engine_hearing.specs.journal.declared.entry.Permit.{Permit}
use Rattle.dsql_engine_hearing.specs.history.declared.event.Event.{Event}
use Rattle.dsql_engine_hearing.specs.history.declared.record.Flight.{Flight}
use Rattle.dsql_engine_hearing.specs.history.declared.record.Stand.{Stand}
use Rattle.dsql_engine_hearing.specs.history.declared.record.Stand.TheVariants.{Sends}
use Rattle.dsql_engine_hearing.specs.history.Readers.Unfinished.{is_unfinished}
use Rattle.dsql_engine_hearing.specs.history.Rules.Flights.{is_taken, permitted}
use Rattle.dsql_engine_hearing.specs.history.Rules.Line.{due_for}
use Rattle.dsql_engine_hearing.specs.history.Rules.Stands.{stand}
use Rattle.dsql_engine_hearing.specs.going.Answers.{sends_unless, why_blocked}
use Rattle.dsql_engine_hearing.specs.going.Permits.{permit_for}
use Rattle.dsql_engine_hearing.specs.going.Reaching.{HasGoneOn}
use Rattle.dsql_engine_hearing.specs.going.declared.next.Next.{Next}
use Rattle.dsql_engine_hearing.specs.going.declared.next.Next.TheVariants.{Send, Blocked, Reply}
use Rattle.dsql_engine_hearing.specs.going.declared.next.Why.{Why}
use Rattle.dsql_engine_hearing.specs.going.declared.next.Why.TheVariants.{Turn}
use Rattle.dsql_engine_hearing.proofs.going.Standing.{taken_stays, unsent_flights}

-- Is true if no driver call is to be made.
abbrev is_still : Next → Bool
is_still (Send permit) = false
is_still next = true

sends_nothing_still : {A : Type 0} (p : Option Permit) (next : Next) → option_map Send p ≡ Some next → is_still next ≡ true → A
sends_nothing_still None next h still = absurd cc
sends_nothing_still (Some permit) next h still =
    let same : Send permit ≡ next = cc in
    let clash : false ≡ true = ap is_still same ∙ still in
    absurd cc

same_where_it_stands : (H : List Event) (n : ℕ) (at : Option Stand) (before : List Flight) (next : Next) → sends_unless H n (why_blocked before n at) ≡ Some next → is_still next ≡ true → permitted n at before ≡ before
same_where_it_stands H n (Some (Sends c)) before next h still = by (is_taken n c before) refl h
  where
    by : (b : Bool) → is_taken n c before ≡ b → sends_unless H n (cond b (Some (Turn c)) None) ≡ Some next → permitted n (Some (Sends c)) before ≡ before
    by true taken k = taken_stays n c before taken
    by false taken k = sends_nothing_still (permit_for H n) next k still
same_where_it_stands H n _ before next h still = refl

same_when_still : (H : List Event) (before after : List Flight) (n : ℕ) (next : Next) → is_still next ≡ true → HasGoneOn H before after n next → after ≡ before
same_when_still H before after n next still went = went.flights ∙ by (is_unfinished H n) refl went.answers
  where
    silent : is_unfinished H n ≡ false → is_some (due_for H n) ≡ false
    silent done = rw done refl

    by : (b : Bool) → is_unfinished H n ≡ b → cond b (sends_unless H n (why_blocked before n (stand H n))) (Some (Reply n)) ≡ Some next → permitted n (stand H n) before ≡ before
    by true u h = same_where_it_stands H n (stand H n) before next h still
    by false done h = unsent_flights H n before (silent done)

pub same_when_blocked : (past : List Event) (before after : List Flight) (n : ℕ) (why : Why) → HasGoneOn past before after n (Blocked why) → after ≡ before
same_when_blocked past before after n why went = same_when_still past before after n (Blocked why) refl went

pub same_when_replied : (past : List Event) (before after : List Flight) (n m : ℕ) → HasGoneOn past before after n (Reply m) → after ≡ before
same_when_replied past before after n m went = same_when_still past before after n (Reply m) refl went
