-- Driver calls that are made apart from the player. A call that is due may be answered whether or not it is recorded as
-- under way. What is put off again changed nothing.
use Rattle.std.proofs.Common.{◌≡◌, ℕ, ◌==◌, Bool, true, cond, List, Option, Some, None, ap, sym, subst, ◌∙◌}
use Rattle.std.specs.Prelude.{IfSome}
use Rattle.dsql_engine_laws.specs.journal.declared.entry.Entry.{Entry}
use Rattle.dsql_engine_laws.specs.journal.declared.entry.Permit.{Permit}
use Rattle.dsql_engine_laws.specs.journal.HandlesAndCursors.{fits_at_its_place}
use Rattle.dsql_engine_laws.specs.history.declared.event.Event.{Event}
use Rattle.dsql_engine_laws.specs.history.declared.record.Flight.{Flight}
use Rattle.dsql_engine_laws.specs.history.Readers.Journals.{journal}
use Rattle.dsql_engine_laws.specs.history.Rules.Flights.{without_flight}
use Rattle.dsql_engine_laws.specs.history.Rules.House.{chore_due}
use Rattle.dsql_engine_laws.specs.history.Legal.{Legal}
use Rattle.dsql_engine_laws.specs.going.declared.next.Next.{Next}
use Rattle.dsql_engine_laws.specs.going.Permits.{chore_permit}
use Rattle.dsql_engine_laws.specs.going.Stepping.{GoesOnOrRests}
use Rattle.dsql_engine_laws.specs.laws_steps.Groups.{after_heard}
use Rattle.dsql_engine.specs.Core.{Core}
use Rattle.dsql_engine.specs.Hearing.{MayBeHeard}
use Rattle.dsql_player_wires.specs.Seats.{Seat}
use Rattle.dsql_player.specs.Acts.{TakesAnswer}
use Rattle.dsql_player.specs.Apart.{AnswersChore}
use Rattle.dsql_player.specs.Chores.{FindsChore, SameButChore}
use Rattle.dsql_player.specs.Playing.{IsReady, Playing}
use Rattle.dsql_player.proofs.Answering.{entry_conn}
use Rattle.dsql_player.proofs.Housekeeping.{AnswersOwn, own_heard, own_layer}
use Rattle.dsql_player.proofs.Taken.{player_of, same_playing, takes_own}

-- The first of the layer's own calls is found, and put off again.

pub due_found : (result : Option Permit) (old mid : Playing) → FindsChore result old mid → mid.past ≡ old.past → IfSome result (λ permit. (chore_due old.past ≡ Some permit.conn) × (chore_permit old.past permit.conn ≡ Some permit))
due_found (Some permit) old mid found same =
    subst (λ (H : List Event). (chore_due H ≡ Some permit.conn) × (chore_permit H permit.conn ≡ Some permit)) same (found.first, found.leave)
due_found None old mid found same = tt

pub none_found : (result : Option Permit) (old mid : Playing) → FindsChore result old mid → result ≡ None → chore_due old.past ≡ None
none_found (Some permit) old mid found none = absurd cc
none_found None old mid found none = found.1

-- If nothing changed but that the call is no longer recorded as under way, nothing changed.
pub put_off : (before after : Core) (seats : List Seat) (released : Bool) (old mid : Playing) → player_of before seats released ≡ mid → IsReady old → SameButChore old mid
    → after.past ≡ before.past → after.trimmed ≡ before.trimmed → after.flights ≡ before.flights → after.chore ≡ None → player_of after seats released ≡ old
put_off before after seats released old mid is ready same past trimmed flights chore =
    same_playing (player_of after seats released) old
    (record {
      past = past ∙ (ap (λ (p : Playing). p.past) is ∙ same.past);
      trimmed = trimmed ∙ (ap (λ (p : Playing). p.trimmed) is ∙ same.trimmed);
      flights = flights ∙ (ap (λ (p : Playing). p.flights) is ∙ same.flights);
      seats = ap (λ (p : Playing). p.seats) is ∙ same.seats;
      released = ap (λ (p : Playing). p.released) is ∙ same.released;
    })
    (chore ∙ sym ready.free)

-- One of the layer's own calls is answered.

pub chore_own : (p : Playing) (e : Entry) → IsReady p → (it : AnswersChore p e) → AnswersOwn p.past it.permit e
chore_own p e ready it = record {
  legal = ready.legal;
  leave = it.leave;
  answer = it.answer;
  fits = subst (λ (c : ℕ). fits_at_its_place (journal p.past c) e ≡ true) (sym (entry_conn it.permit e it.answer)) it.fits;
}

-- The core may take in the answer once it has recorded the call as under way.
pub chore_heard : (core : Core) (p : Playing) (e : Entry) → core.past ≡ p.past → core.chore ≡ Some e.conn → IsReady p → AnswersChore p e → MayBeHeard core e
chore_heard core p e past chore ready it =
    own_heard p.past it.permit e (chore_own p e ready it) core past (chore ∙ ap (λ (c : ℕ). Some c) (entry_conn it.permit e it.answer))

module _ (core up now : Core) (seats : List Seat) (released : Bool) (p : Playing) (e : Entry) (next : Next) (is : player_of core seats released ≡ p) (ready : IsReady p) (it : AnswersChore p e) (past : up.past ≡ core.past)
    (flights : up.flights ≡ core.flights) (grown : now.past ≡ after_heard up.past e) (went : GoesOnOrRests now.past (without_flight e.call_no up.flights) now.flights e.call_no next)
    (chore : now.chore ≡ cond (e.call_no == 0) None up.chore) (legal : Legal now.past) where
  pub chore_took : TakesAnswer it.permit e p (player_of now seats released)
  chore_took =
      let own : AnswersOwn p.past it.permit e = chore_own p e ready it in
      takes_own p (player_of now seats released) it.permit it.permit e next own ready.flying it.answer
      (grown ∙ ap (λ (H : List Event). after_heard H e) (past ∙ ap (λ (v : Playing). v.past) is))
      (subst (λ (fs : List Flight). GoesOnOrRests now.past (without_flight e.call_no fs) now.flights e.call_no next) (flights ∙ ap (λ (v : Playing). v.flights) is) went)
      (chore ∙ ap (λ (n : ℕ). cond (n == 0) None up.chore) (own_layer p.past it.permit e own))
      (ap (λ (v : Playing). v.seats) is) (ap (λ (v : Playing). v.released) is) legal
