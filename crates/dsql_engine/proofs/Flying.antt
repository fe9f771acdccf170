-- What a call leaves unchanged in the history and in the flights as it goes on.
use Rattle.std.proofs.Common.{◌≡◌, ◌≢◌, ℕ, ◌==◌, Bool, true, false, not, ◌&&◌, ◌||◌, cond, List, [], ◌∷◌, ◌++◌, Option, Some, None, is_some, refl, sym, ap, ◌∙◌}
use Rattle.std.specs.Prelude.{Result, Ok, Err}
use Rattle.std.proofs.lemmas.List.Folds.{list_all-append}
use Rattle.dsql_engine_hearing.specs.journal.Readers.{has, is_empty}
use Rattle.dsql_engine_hearing.specs.pool.declared.moves.Move.{Move}
use Rattle.dsql_engine_hearing.specs.pool.declared.request.Asked.{Asked}
use Rattle.dsql_engine_hearing.specs.pool.declared.request.Asked.TheVariants as asked
use Rattle.dsql_engine_hearing.specs.pool.declared.request.AskFault.{AskFault}
use Rattle.dsql_engine_hearing.specs.pool.declared.request.AskFault.TheVariants as faults
use Rattle.dsql_engine_hearing.specs.history.declared.event.Event.{Event}
use Rattle.dsql_engine_hearing.specs.history.declared.event.Event.TheVariants.{Pool, Replied}
use Rattle.dsql_engine_hearing.specs.history.declared.record.Flight.{Flight}
use Rattle.dsql_engine_hearing.specs.history.declared.record.Stand.{Stand}
use Rattle.dsql_engine_hearing.specs.history.declared.record.Stand.TheVariants.{Sends}
use Rattle.dsql_engine_hearing.specs.history.declared.reply.Reply.{Reply}
use Rattle.dsql_engine_hearing.specs.history.declared.reply.Reply.TheVariants.{TooMany}
use Rattle.dsql_engine_hearing.specs.history.Readers.Calls.{rests, rests_with, reply_due}
use Rattle.dsql_engine_hearing.specs.history.Readers.Owed.{given_back}
use Rattle.dsql_engine_hearing.specs.history.Readers.Unfinished.{unfinished, is_unfinished}
use Rattle.dsql_engine_hearing.specs.history.Rules.Asking.{ask_outcome, may_ask}
use Rattle.dsql_engine_hearing.specs.history.Rules.Flights.{has_flight, is_in_flight, permitted}
use Rattle.dsql_engine_hearing.specs.history.Rules.Line.{due_for}
use Rattle.dsql_engine_hearing.specs.history.Rules.Stands.{stand}
use Rattle.dsql_engine_hearing.specs.laws.Asked.{with_asked}
use Rattle.dsql_engine_hearing.specs.laws.OwedMade.{with_moves}
use Rattle.dsql_engine_hearing.proofs.laws.Tests.{both, together, other_number, same_itself}
use Rattle.dsql_engine_hearing.proofs.laws_calls.Lists.{has-without}
use Rattle.dsql_engine_hearing.specs.laws_steps.Groups.{after_reply, given_up, unless_resting, after_settling, asked_so, gone_on, sends_nothing}
use Rattle.dsql_engine_hearing.specs.going.Reaching.{HasGoneOn}
use Rattle.dsql_engine_hearing.specs.going.Stepping.{are_of_unfinished}
use Rattle.dsql_engine_hearing.specs.going.declared.next.Next.{Next}
use Rattle.dsql_engine_hearing.proofs.going.Standing.{unsent_flights}

-- The history has still begun.

pub begun_moved : (ms : List Move) (H : List Event) → is_empty H ≡ false → is_empty (with_moves ms H) ≡ false
begun_moved [] H begun = begun
begun_moved (m ∷ ms) H begun = begun_moved ms (Pool m ∷ H) refl

pub either_begun : (b : Bool) (K H : List Event) → is_empty K ≡ false → is_empty H ≡ false → is_empty (cond b K H) ≡ false
either_begun true K H k h = k
either_begun false K H k h = h

begun_reply : (n : ℕ) (o : Option Reply) (H : List Event) → is_empty H ≡ false → is_empty (after_reply n o H) ≡ false
begun_reply n None H begun = begun
begun_reply n (Some reply) H begun = refl

begun_resting : (n : ℕ) (H : List Event) → is_empty H ≡ false → is_empty (unless_resting n H) ≡ false
begun_resting n H begun = either_begun (sends_nothing H n && rests H n) (after_reply n (reply_due H n) H) H (begun_reply n (reply_due H n) H begun) begun

begun_with : (n : ℕ) (a : Result Asked AskFault) (H : List Event) → is_empty H ≡ false → is_empty (with_asked n a H) ≡ false
begun_with n (Ok asked.Closed) H begun = begun
begun_with n (Err why) H begun = begun
begun_with n (Ok _) H begun = refl

begun_asked : (n : ℕ) (a : Result Asked AskFault) (H : List Event) → is_empty H ≡ false → is_empty (asked_so n a H) ≡ false
begun_asked n (Err faults.TooMany) H begun = refl
begun_asked n (Err faults.Memory) H begun = begun_resting n (with_asked n (Err faults.Memory) H) (begun_with n (Err faults.Memory) H begun)
begun_asked n (Ok it) H begun = begun_resting n (with_asked n (Ok it) H) (begun_with n (Ok it) H begun)

begun_settling : (n : ℕ) (o : Option Reply) (H : List Event) → is_empty H ≡ false → is_empty (after_settling n o H) ≡ false
begun_settling n (Some reply) H begun = refl
begun_settling n None H begun = either_begun (may_ask H n) (asked_so n (ask_outcome H n) H) H (begun_asked n (ask_outcome H n) H begun) begun

pub begun_gone : (n : ℕ) (H : List Event) → is_empty H ≡ false → is_empty (gone_on n H) ≡ false
begun_gone n H begun = either_begun (sends_nothing H n) (after_settling n (reply_due H n) H) H (begun_settling n (reply_due H n) H begun) begun

-- Each other call is unfinished exactly if it was so before.

replied_others : (H : List Event) (n : ℕ) (reply : Reply) (m : ℕ) → m ≢ n → is_unfinished (Replied n reply ∷ H) m ≡ is_unfinished H m
replied_others H n reply m apart = has-without m n (unfinished H) ∙ ap (λ b. not b && has m (unfinished H)) (other_number m n apart)

moved_others : (ms : List Move) (H : List Event) (m : ℕ) → is_unfinished (with_moves ms H) m ≡ is_unfinished H m
moved_others [] H m = refl
moved_others (move ∷ ms) H m = moved_others ms (Pool move ∷ H) m

given_others : (o : Option ℕ) (H : List Event) (m : ℕ) → is_unfinished (given_up o H) m ≡ is_unfinished H m
given_others None H m = refl
given_others (Some c) H m = moved_others (given_back H c) H m

either_others : (b : Bool) (K H : List Event) (m : ℕ) → is_unfinished K m ≡ is_unfinished H m → is_unfinished (cond b K H) m ≡ is_unfinished H m
either_others true K H m same = same
either_others false K H m same = refl

reply_others : (n : ℕ) (o : Option Reply) (H : List Event) (m : ℕ) → m ≢ n → is_unfinished (after_reply n o H) m ≡ is_unfinished H m
reply_others n None H m apart = refl
reply_others n (Some reply) H m apart = replied_others (given_up (rests_with H n) H) n reply m apart ∙ given_others (rests_with H n) H m

resting_others : (n : ℕ) (H : List Event) (m : ℕ) → m ≢ n → is_unfinished (unless_resting n H) m ≡ is_unfinished H m
resting_others n H m apart = either_others (sends_nothing H n && rests H n) (after_reply n (reply_due H n) H) H m (reply_others n (reply_due H n) H m apart)

with_others : (n : ℕ) (a : Result Asked AskFault) (H : List Event) (m : ℕ) → is_unfinished (with_asked n a H) m ≡ is_unfinished H m
with_others n (Ok (asked.Lent c t)) H m = refl
with_others n _ H m = refl

asked_others : (n : ℕ) (a : Result Asked AskFault) (H : List Event) (m : ℕ) → m ≢ n → is_unfinished (asked_so n a H) m ≡ is_unfinished H m
asked_others n (Err faults.TooMany) H m apart = replied_others H n TooMany m apart
asked_others n (Err faults.Memory) H m apart = resting_others n (with_asked n (Err faults.Memory) H) m apart ∙ with_others n (Err faults.Memory) H m
asked_others n (Ok it) H m apart = resting_others n (with_asked n (Ok it) H) m apart ∙ with_others n (Ok it) H m

settling_others : (n : ℕ) (o : Option Reply) (H : List Event) (m : ℕ) → m ≢ n → is_unfinished (after_settling n o H) m ≡ is_unfinished H m
settling_others n (Some reply) H m apart = reply_others n (Some reply) H m apart
settling_others n None H m apart = either_others (may_ask H n) (asked_so n (ask_outcome H n) H) H m (asked_others n (ask_outcome H n) H m apart)

pub gone_others : (n : ℕ) (H : List Event) (m : ℕ) → m ≢ n → is_unfinished (gone_on n H) m ≡ is_unfinished H m
gone_others n H m apart = either_others (sends_nothing H n) (after_settling n (reply_due H n) H) H m (settling_others n (reply_due H n) H m apart)

-- Therefore each flight belongs to a call that has no reply.

pub others_fly : (H K : List Event) (n : ℕ) (flights : List Flight) → ((m : ℕ) → m ≢ n → is_unfinished K m ≡ is_unfinished H m) → is_in_flight n flights ≡ false → are_of_unfinished H flights ≡ true
    → are_of_unfinished K flights ≡ true
others_fly H K n [] same parked h = refl
others_fly H K n (x ∷ xs) same parked h = by (others_fly H K n xs same) (x.call == n) refl parked
  where
    by : (is_in_flight n xs ≡ false → are_of_unfinished H xs ≡ true → are_of_unfinished K xs ≡ true) → (b : Bool) → (x.call == n) ≡ b → (b || is_in_flight n xs) ≡ false → are_of_unfinished K (x ∷ xs) ≡ true
    by rest true is k = absurd cc
    by rest false is k =
        let a = both (is_unfinished H x.call) (are_of_unfinished H xs) h in
        let apart : x.call ≢ n = λ it. let clash : false ≡ true = sym is ∙ (ap (λ j. j == n) it ∙ same_itself n) in cc in
        together (is_unfinished K x.call) (are_of_unfinished K xs) (same x.call apart ∙ a.0) (rest k a.1)

begins_to_fly : (K : List Event) (n c : ℕ) (b : Bool) (flights : List Flight) → is_unfinished K n ≡ true → are_of_unfinished K flights ≡ true → are_of_unfinished K (cond b flights (flights ++ record { call = n; conn = c } ∷ [])) ≡ true
begins_to_fly K n c true flights u h = h
begins_to_fly K n c false flights u h =
    let one : List Flight = record { call = n; conn = c } ∷ [] in
    list_all-append (λ (flight : Flight). is_unfinished K flight.call) flights one
    ∙ together (are_of_unfinished K flights) (is_unfinished K n && true) h (together (is_unfinished K n) true u refl)

permitted_fly : (K : List Event) (n : ℕ) (at : Option Stand) (flights : List Flight) → is_unfinished K n ≡ true → are_of_unfinished K flights ≡ true → are_of_unfinished K (permitted n at flights) ≡ true
permitted_fly K n (Some (Sends c)) flights u h = begins_to_fly K n c (is_in_flight n flights || has_flight c flights) flights u h
permitted_fly K n _ flights u h = h

pub gone_flies : (K : List Event) (n : ℕ) (before after : List Flight) (next : Next) → HasGoneOn K before after n next → are_of_unfinished K before ≡ true → are_of_unfinished K after ≡ true
gone_flies K n before after next went h = ap (are_of_unfinished K) went.flights ∙ by (is_unfinished K n) refl
  where
    silent : is_unfinished K n ≡ false → is_some (due_for K n) ≡ false
    silent done = rw done refl

    by : (b : Bool) → is_unfinished K n ≡ b → are_of_unfinished K (permitted n (stand K n) before) ≡ true
    by true u = permitted_fly K n (stand K n) before u h
    by false done = ap (are_of_unfinished K) (unsent_flights K n before (silent done)) ∙ h
