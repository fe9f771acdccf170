-- Where a call that goes on stands, and how its flights change.
use Rattle.std.proofs.Common.{◌≡◌, ◌≢◌, ℕ, ◌==◌, ◌⊎◌, inl, inr, Bool, true, false, not, ◌&&◌, ◌||◌, cond, List, [], ◌∷◌, Option, Some, None, is_some, refl, sym, ap, subst, ◌∙◌}
use Rattle.std.proofs.lemmas.Bool.{or_right}
use Rattle.std.specs.Prelude.{find}
use Rattle.std.specs.List.{list_any}
use Rattle.std.specs.Option.{option_map}
use Rattle.dsql_laws_calls.specs.course.Made.{or_else}
use Rattle.dsql_laws_calls.specs.wait.Requests.{waits}
use Rattle.dsql_laws_calls.specs.pool.declared.conn.Conn.{Conn}
use Rattle.dsql_laws_calls.specs.pool.Calls.{wants}
use Rattle.dsql_laws_calls.specs.pool.Places.{is_for}
use Rattle.dsql_laws_calls.specs.history.declared.event.Event.{Event}
use Rattle.dsql_laws_calls.specs.history.declared.record.Flight.{Flight}
use Rattle.dsql_laws_calls.specs.history.declared.record.Stand.{Stand}
use Rattle.dsql_laws_calls.specs.history.declared.record.Stand.TheVariants as stands_at
use Rattle.dsql_laws_calls.specs.history.Readers.Calls.{site, reply_due}
use Rattle.dsql_laws_calls.specs.history.Readers.Pool.{smallest, pool}
use Rattle.dsql_laws_calls.specs.history.Readers.Tries.{asks_again, tries}
use Rattle.dsql_laws_calls.specs.history.Readers.Unfinished.{unfinished, is_unfinished}
use Rattle.dsql_laws_calls.specs.history.Rules.Asking.{may_ask}
use Rattle.dsql_laws_calls.specs.history.Rules.Flights.{has_flight, is_in_flight, is_taken, permitted}
use Rattle.dsql_laws_calls.specs.history.Rules.Line.{due_for}
use Rattle.dsql_laws_calls.specs.history.Rules.Settled.{Settled, calls_stand, calls_stand_but, is_settled_but, owes_nothing, uses_what_is_lent}
use Rattle.dsql_laws_calls.specs.history.Rules.Stands.{opens, stands, has_to_reply, stand}
use Rattle.dsql_laws_calls.specs.history.Legal.{Lawful}
use Rattle.dsql_laws_calls.proofs.laws.Numbered.{unfinished_from_one}
use Rattle.dsql_laws_calls.proofs.laws.Standing.{stands_opening}
use Rattle.dsql_laws_calls.proofs.laws.Tests.{both, second}
use Rattle.dsql_laws_calls.proofs.laws_work.Rows.{same_or_not}
use Rattle.dsql_laws_replies.proofs.Nowhere.{nowhere_replies}
use Rattle.dsql_laws_due.proofs.FetchReplies.{fetch_replies}
use Rattle.dsql_laws_others.proofs.Settling.{each_stands}
use Rattle.dsql_engine_going.specs.Answers.{sends_unless, why_blocked}
use Rattle.dsql_engine_going.specs.Permits.{permit_for}
use Rattle.dsql_engine_going.specs.Reaching.{HasGoneOn}
use Rattle.dsql_engine_going.specs.declared.next.Next.{Next}
use Rattle.dsql_engine_going.specs.declared.next.Next.TheVariants as nexts
use Rattle.dsql_engine_going.specs.declared.next.Why.{Why}
use Rattle.dsql_engine_going.specs.declared.next.Why.TheVariants as whys
use Rattle.dsql_laws_calls.specs.journal.declared.entry.Permit.{Permit}

-- What follows for a call without a reply depends on where it stands.
answered_there : (K : List Event) (n : ℕ) (flights : List Flight) (s : Option Stand) (next : Option Next) → is_unfinished K n ≡ true → stand K n ≡ s → sends_unless K n (why_blocked flights n s) ≡ next
    → cond (is_unfinished K n) (sends_unless K n (why_blocked flights n (stand K n))) (Some (nexts.Reply n)) ≡ next
answered_there K n flights s next u at is =
    ap (λ (b : Bool). cond b (sends_unless K n (why_blocked flights n (stand K n))) (Some (nexts.Reply n))) u
    ∙ (ap (λ it. sends_unless K n (why_blocked flights n it)) at ∙ is)

pub goes_blocked : (K : List Event) (n : ℕ) (flights : List Flight) (s : Option Stand) (why : Why) → is_unfinished K n ≡ true → stand K n ≡ s → why_blocked flights n s ≡ Some why → permitted n s flights ≡ flights
    → HasGoneOn K flights flights n (nexts.Blocked why)
goes_blocked K n flights s why u at because same = record {
  answers = answered_there K n flights s (Some (nexts.Blocked why)) u at (ap (sends_unless K n) because);
  flights = sym (ap (λ it. permitted n it flights) at ∙ same);
}

pub goes_sending : (K : List Event) (n c : ℕ) (before after : List Flight) (permit : Permit) → is_unfinished K n ≡ true → stand K n ≡ Some (stands_at.Sends c) → is_taken n c before ≡ false
    → after ≡ permitted n (Some (stands_at.Sends c)) before → permit_for K n ≡ Some permit → HasGoneOn K before after n (nexts.Send permit)
goes_sending K n c before after permit u at free flights leave = record {
  answers = answered_there K n before (Some (stands_at.Sends c)) (Some (nexts.Send permit)) u at
      (ap (λ (b : Bool). sends_unless K n (cond b (Some (whys.Turn c)) None)) free ∙ ap (option_map nexts.Send) leave);
  flights = flights ∙ sym (ap (λ it. permitted n it before) at);
}

-- If another call's permit is in flight on a connection, the connection has a flight.
taken_flies : (n c : ℕ) (flights : List Flight) → is_taken n c flights ≡ true → has_flight c flights ≡ true
taken_flies n c [] h = absurd cc
taken_flies n c (x ∷ xs) h = by (taken_flies n c xs) (x.conn == c) h
  where
    by : (is_taken n c xs ≡ true → has_flight c xs ≡ true) → (b : Bool) → ((b && not (x.call == n)) || is_taken n c xs) ≡ true → (b || has_flight c xs) ≡ true
    by rest true k = refl
    by rest false k = rest k

pub taken_stays : (n c : ℕ) (flights : List Flight) → is_taken n c flights ≡ true → permitted n (Some (stands_at.Sends c)) flights ≡ flights
taken_stays n c flights taken = rw (or_right (is_in_flight n flights) (has_flight c flights) (taken_flies n c flights taken)) refl

-- A call for which nothing is due gets no permit.

unsent : (w : Bool) (o : Option ℕ) (there n : ℕ) (told again : Bool) (flights : List Flight)
    → permitted n (or_else (stands w stands_at.Waits) (or_else (opens o) (or_else (stands false (stands_at.Sends there)) (or_else (stands told stands_at.Replies) (stands again stands_at.Asks))))) flights ≡ flights
unsent true o there n told again flights = refl
unsent false (Some c) there n told again flights = refl
unsent false None there n true again flights = refl
unsent false None there n false true flights = refl
unsent false None there n false false flights = refl

pub unsent_flights : (K : List Event) (n : ℕ) (flights : List Flight) → is_some (due_for K n) ≡ false → permitted n (stand K n) flights ≡ flights
unsent_flights K n flights silent =
    let w = waits n (pool K).waiting in
    let o = smallest (is_for n) (pool K) in
    let told = has_to_reply K n in
    let again = asks_again (tries K n) in
    ap (λ (b : Bool). permitted n (or_else (stands w stands_at.Waits) (or_else (opens o) (or_else (stands b (stands_at.Sends (site K n))) (or_else (stands told stands_at.Replies) (stands again stands_at.Asks))))) flights) silent
    ∙ unsent w o (site K n) n told again flights

-- All is settled if the call itself stands somewhere.

goes_on_itself : (H : List Event) (n : ℕ) → calls_stand_but n H ≡ true → is_some (stand H n) ≡ true → calls_stand H ≡ true
goes_on_itself H n h there = each_stands n 0 (unfinished H) H H (λ m u some was. by m (same_or_not m n) was) h
  where
    by : (m : ℕ) → (m ≡ n) ⊎ (m ≢ n) → (m ≢ n → is_some (stand H m) ≡ true) → is_some (stand H m) ≡ true
    by m (inl same) was = subst (λ j. is_some (stand H j) ≡ true) (sym same) there
    by m (inr apart) was = was apart

pub settled_itself : (H : List Event) (n : ℕ) → is_settled_but n H ≡ true → is_some (stand H n) ≡ true → Settled H
settled_itself H n h there =
    let a = both (owes_nothing H) (uses_what_is_lent H && calls_stand_but n H) h in
    let b = both (uses_what_is_lent H) (calls_stand_but n H) a.1 in
    record { nothing_owed = a.0; used = b.0; somewhere = goes_on_itself H n b.1 there }

-- A call that has nothing to send and nothing to reply, and may not ask, wants a connection.

pub wanting : (H : List Event) (n : ℕ) → Lawful H → is_settled_but n H ≡ true → is_unfinished H n ≡ true → is_some (due_for H n) ≡ false → is_some (reply_due H n) ≡ false → may_ask H n ≡ false
    → wants n (pool H) ≡ true
wanting H n l settled u silent unsettled may = by (wants n (pool H)) refl
  where
    used : uses_what_is_lent H ≡ true
    used = (both (uses_what_is_lent H) (calls_stand_but n H) (both (owes_nothing H) (uses_what_is_lent H && calls_stand_but n H) settled).1).0

    untold : is_some (reply_due H n) ≡ true → ⊥
    untold told = let clash : true ≡ false = sym told ∙ unsettled in cc

    by : (b : Bool) → wants n (pool H) ≡ b → wants n (pool H) ≡ true
    by true is = is
    by false is = absurd (untold (nowhere_replies H n l u silent is used may (λ k it. absurd (untold (fetch_replies H n k l u it silent)))))

found_opening : (q : Conn → Bool) (xs : List Conn) → list_any q xs ≡ true → is_some (option_map (λ (x : Conn). x.number) (find q xs)) ≡ true
found_opening q [] h = absurd cc
found_opening q (x ∷ xs) h =
    elim (q x) as (λ b. (b || list_any q xs) ≡ true → is_some (option_map (λ (y : Conn). y.number) (cond b (Some x) (find q xs))) ≡ true) [
      | true ↦ λ k. refl
      | false ↦ λ k. found_opening q xs k
    ] h

abbrev pub number_in : Option ℕ → ℕ
number_in None = 0
number_in (Some c) = c

some_number : (o : Option ℕ) → is_some o ≡ true → o ≡ Some (number_in o)
some_number None h = absurd cc
some_number (Some c) h = refl

-- A connection is being opened for a call that wants one and doesn't wait.
pub opens_somewhere : (H : List Event) (n : ℕ) → Lawful H → is_unfinished H n ≡ true → waits n (pool H).waiting ≡ false → wants n (pool H) ≡ true → stand H n ≡ Some (stands_at.Opens (number_in (smallest (is_for n) (pool H))))
opens_somewhere H n l u unwaiting wanted =
    let o = smallest (is_for n) (pool H) in
    let any = second (waits n (pool H).waiting) (list_any (λ conn. is_for n conn.place) (pool H).conns) unwaiting wanted in
    stands_opening H n (number_in o) l (unfinished_from_one H n l u) (some_number o (found_opening (λ conn. is_for n conn.place) (pool H).conns any))
