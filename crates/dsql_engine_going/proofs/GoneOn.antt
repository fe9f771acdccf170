-- A call that has gone on went as far as it can.
use Rattle.std.proofs.Common.{◌≡◌, ℕ, ◌==◌, Bool, true, false, not, ◌&&◌, ◌||◌, cond, List, [], ◌∷◌, ◌++◌, Option, Some, None, is_some, refl, ap, sym, subst, ◌∙◌}
use Rattle.std.specs.Prelude.{option_map}
use Rattle.std.proofs.lemmas.Bool.{not-false}
use Rattle.dsql_laws_calls.specs.driver.declared.call.DriverCall.{DriverCall}
use Rattle.dsql_laws_calls.specs.pool.declared.conn.Place.{Place}
use Rattle.dsql_laws_calls.specs.pool.declared.conn.Place.TheVariants.{Lent}
use Rattle.dsql_laws_calls.specs.history.declared.event.Event.{Event}
use Rattle.dsql_laws_calls.specs.history.declared.record.Flight.{Flight}
use Rattle.dsql_laws_calls.specs.history.declared.record.Stand.{Stand}
use Rattle.dsql_laws_calls.specs.history.declared.record.Stand.TheVariants.{Waits, Opens, Sends}
use Rattle.dsql_laws_calls.specs.history.Readers.Calls.{site}
use Rattle.dsql_laws_calls.specs.history.Readers.Pool.{place}
use Rattle.dsql_laws_calls.specs.history.Readers.Unfinished.{is_unfinished}
use Rattle.dsql_laws_calls.specs.history.Rules.Flights.{has_flight, is_in_flight, is_taken, is_blocked, permitted, with_flight}
use Rattle.dsql_laws_ends.specs.Over.{may_move}
use Rattle.dsql_laws_calls.specs.history.Rules.Line.{due_for}
use Rattle.dsql_laws_calls.specs.history.Rules.Stands.{stand}
use Rattle.dsql_laws_calls.specs.history.Legal.{Lawful}
use Rattle.dsql_laws_calls.proofs.laws.Numbered.{unfinished_from_one}
use Rattle.dsql_laws_calls.proofs.laws.Truths.{or_first, or_second}
use Rattle.dsql_laws_calls.proofs.laws.Places.{neither}
use Rattle.dsql_laws_calls.proofs.laws.Standing.{stands_sending}
use Rattle.dsql_engine_going.specs.declared.next.Next.{Next}
use Rattle.dsql_engine_going.specs.declared.next.Next.TheVariants.{Send, Reply}
use Rattle.dsql_engine_going.specs.declared.next.Why.{Why}
use Rattle.dsql_engine_going.specs.declared.next.Why.TheVariants.{Turn}
use Rattle.dsql_engine_going.specs.Answers.{sends_unless, why_blocked}
use Rattle.dsql_engine_going.specs.Permits.{permit_for, sent_at}
use Rattle.dsql_engine_going.specs.Reaching.{HasGoneOn}
use Rattle.dsql_laws_steps.proofs.Permits.{blocked_stays, joins_flight, permitted_grows}

-- A call is blocked if there is a reason why it can't move.
blocked_why : (flights : List Flight) (n : ℕ) (at : Option Stand) (why : Why) → why_blocked flights n at ≡ Some why → is_blocked flights n at ≡ true
blocked_why flights n (Some Waits) why h = refl
blocked_why flights n (Some (Opens c)) why h = refl
blocked_why flights n (Some (Sends c)) why h = by (is_taken n c flights) refl h
  where
    by : (b : Bool) → is_taken n c flights ≡ b → cond b (Some (Turn c)) None ≡ Some why → is_taken n c flights ≡ true
    by true is k = is
    by false is k = absurd cc
blocked_why flights n _ why h = absurd cc

untaken : (flights : List Flight) (n c : ℕ) → why_blocked flights n (Some (Sends c)) ≡ None → is_taken n c flights ≡ false
untaken flights n c h = by (is_taken n c flights) refl h
  where
    by : (b : Bool) → is_taken n c flights ≡ b → cond b (Some (Turn c)) None ≡ None → is_taken n c flights ≡ false
    by true is k = absurd cc
    by false is k = is

-- A permit on the connection that isn't another call's is the call's own.
own_flight : (n c : ℕ) (flights : List Flight) → has_flight c flights ≡ true → is_taken n c flights ≡ false → is_in_flight n flights ≡ true
own_flight n c [] h free = absurd cc
own_flight n c (x ∷ xs) h free = by (own_flight n c xs) (x.conn == c) h free
  where
    by : (has_flight c xs ≡ true → is_taken n c xs ≡ false → is_in_flight n xs ≡ true) → (b : Bool) → (b || has_flight c xs) ≡ true
        → ((b && not (x.call == n)) || is_taken n c xs) ≡ false → ((x.call == n) || is_in_flight n xs) ≡ true
    by rest true k none = or_first (x.call == n) (is_in_flight n xs) (not-false (x.call == n) (neither (not (x.call == n)) (is_taken n c xs) none).0)
    by rest false k none = or_second (x.call == n) (is_in_flight n xs) (rest k none)

-- If no other call's permit is in flight on the connection, the call's own is in flight after it is given.
flies : (n c : ℕ) (flights : List Flight) → is_taken n c flights ≡ false → is_in_flight n (with_flight n c flights) ≡ true
flies n c flights free = by (is_in_flight n flights) refl (has_flight c flights) refl
  where
    by : (own : Bool) → is_in_flight n flights ≡ own → (any : Bool) → has_flight c flights ≡ any
        → is_in_flight n (cond (own || any) flights (flights ++ record { call = n; conn = c } ∷ [])) ≡ true
    by true own any is = own
    by false own true is = own_flight n c flights is free
    by false own false is = joins_flight n c flights

-- What is sent is due.
due_there : (m c : ℕ) (at : Option Place) (due : Option DriverCall) (next : Next) → option_map Send (sent_at m c at due) ≡ Some next → is_some due ≡ true
due_there m c at (Some call) next h = refl
due_there m c (Some (Lent tenure owner)) None next h = absurd cc
due_there m c at None next h = absurd cc

-- The permit of a call that isn't blocked and for which a driver call is due is in flight.
sending_flies : (K : List Event) (n : ℕ) (before : List Flight) (next : Next) → Lawful K → is_unfinished K n ≡ true → why_blocked before n (stand K n) ≡ None
    → option_map Send (permit_for K n) ≡ Some next → is_in_flight n (permitted n (stand K n) before) ≡ true
sending_flies K n before next l u none sent =
    let due = due_there n (site K n) (place K (site K n)) (due_for K n) next sent in
    let at : stand K n ≡ Some (Sends (site K n)) = stands_sending K n l (unfinished_from_one K n l u) due in
    let free = untaken before n (site K n) (sym (ap (why_blocked before n) at) ∙ none) in
    ap (λ it. is_in_flight n (permitted n it before)) at ∙ flies n (site K n) before free

-- A blocked call can't move unless its permit is in flight.
blocked_whole : (fly block : Bool) → block ≡ true → (fly || not (fly || not block)) ≡ true
blocked_whole true block h = refl
blocked_whole false true h = refl
blocked_whole false false h = absurd cc

whole_after : (K : List Event) (n : ℕ) (before : List Flight) (next : Next) → Lawful K → sends_unless K n (why_blocked before n (stand K n)) ≡ Some next → is_unfinished K n ≡ true
    → (why : Option Why) → why_blocked before n (stand K n) ≡ why
    → (is_in_flight n (permitted n (stand K n) before) || not (is_in_flight n (permitted n (stand K n) before) || not (is_blocked (permitted n (stand K n) before) n (stand K n)))) ≡ true
whole_after K n before next l answers u (Some why) is =
    blocked_whole (is_in_flight n (permitted n (stand K n) before)) (is_blocked (permitted n (stand K n) before) n (stand K n))
    (blocked_stays n (stand K n) before (permitted n (stand K n) before) (permitted_grows n (stand K n) before) (blocked_why before n (stand K n) why is))
whole_after K n before next l answers u None is =
    or_first (is_in_flight n (permitted n (stand K n) before)) _ (sending_flies K n before next l u is (sym (ap (sends_unless K n) is) ∙ answers))

gone_whole : (K : List Event) (n : ℕ) (before : List Flight) (next : Next) → Lawful K → (u : Bool) → is_unfinished K n ≡ u
    → cond u (sends_unless K n (why_blocked before n (stand K n))) (Some (Reply n)) ≡ Some next
    → (is_in_flight n (permitted n (stand K n) before) || not (u && (is_in_flight n (permitted n (stand K n) before) || not (is_blocked (permitted n (stand K n) before) n (stand K n))))) ≡ true
gone_whole K n before next l true u answers = whole_after K n before next l answers u (why_blocked before n (stand K n)) refl
gone_whole K n before next l false u answers = or_second (is_in_flight n (permitted n (stand K n) before)) true refl

pub call_whole : (K : List Event) (n : ℕ) (before after : List Flight) (next : Next) → Lawful K → HasGoneOn K before after n next → (is_in_flight n after || not (may_move K after n)) ≡ true
call_whole K n before after next l h =
    subst (λ flights. (is_in_flight n flights || not (may_move K flights n)) ≡ true) (sym h.flights) (gone_whole K n before next l (is_unfinished K n) refl h.answers)

-- The layer's step is whole, because the layer has no unfinished call.
pub layer_whole : (K : List Event) (flights : List Flight) → Lawful K → (is_in_flight 0 flights || not (may_move K flights 0)) ≡ true
layer_whole K flights l = by (is_unfinished K 0) refl
  where
    by : (u : Bool) → is_unfinished K 0 ≡ u → (is_in_flight 0 flights || not (u && (is_in_flight 0 flights || not (is_blocked flights 0 (stand K 0))))) ≡ true
    by true is = absurd (unfinished_from_one K 0 l is refl)
    by false is = or_second (is_in_flight 0 flights) true refl
