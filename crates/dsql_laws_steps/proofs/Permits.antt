-- Taking a permit leaves a moment at rest and its last step whole. With more permits in flight more calls are blocked,
-- and none is freed.
use Rattle.std.proofs.Common.{◌≡◌, ℕ, ◌==◌, ◌+◌, Bool, true, false, not, ◌&&◌, ◌||◌, cond, List, [], ◌∷◌, ◌++◌, Option, Some, refl, sym, subst, ◌∙◌, append-nil, length, ap, arith, length-append}
use Rattle.std.specs.List.{list_any}
use Rattle.std.proofs.lemmas.List.Folds.{list_any-append}
use Rattle.dsql_laws.specs.history.declared.record.Flight.{Flight}
use Rattle.dsql_laws.specs.history.declared.record.Stand.{Stand}
use Rattle.dsql_laws.specs.history.declared.record.Stand.TheVariants.{Waits, Opens, Sends}
use Rattle.dsql_laws.specs.history.Rules.Flights.{is_in_flight, has_flight, is_blocked, permitted, with_flight}
use Rattle.dsql_laws.proofs.Truths.{or_first, or_second}
use Rattle.dsql_laws.proofs.Tests.{same_itself}
use Rattle.dsql_laws.specs.history.Readers.Unfinished.{is_unfinished}
use Rattle.dsql_laws.specs.history.Rules.Stands.{stand}
use Rattle.dsql_follows.specs.Moments.{Moment, takes_permit}
use Rattle.dsql_follows.specs.Sentences.{is_whole}
use Rattle.dsql_laws_steps.specs.Steps.{IsAtRest}

-- Holds if the flights after are those before, perhaps followed by more.
pub record Grown (before after : List Flight) : Type 0 where
  pub more : List Flight
  pub is : after ≡ before ++ more

pub any_stays : (test : Flight → Bool) (before after : List Flight) → Grown before after → list_any test before ≡ true → list_any test after ≡ true
any_stays test before after g h =
    subst (λ flights. list_any test flights ≡ true) (sym g.is) (list_any-append test before g.more ∙ or_first (list_any test before) (list_any test g.more) h)

grown_by : (n c : ℕ) (flights : List Flight) (full : Bool) → Grown flights (cond full flights (flights ++ record { call = n; conn = c } ∷ []))
grown_by n c flights true = record { more = []; is = sym (append-nil flights) }
grown_by n c flights false = record { more = record { call = n; conn = c } ∷ []; is = refl }

grown_none : (flights : List Flight) → Grown flights flights
grown_none flights = record { more = []; is = sym (append-nil flights) }

pub permitted_grows : (n : ℕ) (at : Option Stand) (flights : List Flight) → Grown flights (permitted n at flights)
permitted_grows n (Some (Sends c)) flights = grown_by n c flights (is_in_flight n flights || has_flight c flights)
permitted_grows n _ flights = grown_none flights

-- A call whose permit is in flight, or can't be, gets no other.

-- Is true if the call or the connection has a permit in flight.
abbrev is_full : ℕ → ℕ → List Flight → Bool
is_full n c flights = is_in_flight n flights || has_flight c flights

-- A call is in flight after its permit is.
pub joins_flight : (n c : ℕ) (flights : List Flight) → is_in_flight n (flights ++ record { call = n; conn = c } ∷ []) ≡ true
joins_flight n c flights =
    let new : List Flight = record { call = n; conn = c } ∷ [] in
    list_any-append (λ flight. flight.call == n) flights new ∙ or_second (is_in_flight n flights) (is_in_flight n new) (or_first (n == n) false (same_itself n))

-- After a call took its permit, the call or the connection has one in flight.
full_then : (n c : ℕ) (flights : List Flight) → is_full n c (with_flight n c flights) ≡ true
full_then n c flights = by (is_full n c flights) refl
  where
    more : List Flight
    more = flights ++ record { call = n; conn = c } ∷ []

    by : (b : Bool) → is_full n c flights ≡ b → is_full n c (cond b flights more) ≡ true
    by true is = is
    by false is = or_first (is_in_flight n more) (has_flight c more) (joins_flight n c flights)

pub permitted_twice : (n : ℕ) (at : Option Stand) (flights : List Flight) → permitted n at (permitted n at flights) ≡ permitted n at flights
permitted_twice n (Some (Sends c)) flights = rw (full_then n c flights) refl
permitted_twice n _ flights = refl

pub blocked_stays : (n : ℕ) (at : Option Stand) (before after : List Flight) → Grown before after → is_blocked before n at ≡ true → is_blocked after n at ≡ true
blocked_stays n (Some (Sends c)) before after g h = any_stays (λ flight. (flight.conn == c) && not (flight.call == n)) before after g h
blocked_stays n (Some Waits) before after g h = refl
blocked_stays n (Some (Opens c)) before after g h = refl
blocked_stays n _ before after g h = h

full_stays : (n c : ℕ) (before after : List Flight) → Grown before after → is_full n c before ≡ true → is_full n c after ≡ true
full_stays n c before after g h = by (is_in_flight n before) refl h
  where
    by : (b : Bool) → is_in_flight n before ≡ b → (b || has_flight c before) ≡ true → is_full n c after ≡ true
    by true is k = or_first (is_in_flight n after) (has_flight c after) (any_stays (λ flight. flight.call == n) before after g is)
    by false is k = or_second (is_in_flight n after) (has_flight c after) (any_stays (λ flight. flight.conn == c) before after g k)

longer : (flights : List Flight) (new : Flight) → flights ++ new ∷ [] ≡ flights → length flights + 1 ≡ length flights
longer flights new same = sym (length-append flights (new ∷ [])) ∙ ap length same

-- If a call adds no permit, the call or the connection has one in flight.
full_where : (n c : ℕ) (flights : List Flight) → with_flight n c flights ≡ flights → is_full n c flights ≡ true
full_where n c flights same = by (is_full n c flights) refl same
  where
    by : (b : Bool) → is_full n c flights ≡ b → cond b flights (flights ++ record { call = n; conn = c } ∷ []) ≡ flights → is_full n c flights ≡ true
    by true is k = is
    by false is k = let more = longer flights (record { call = n; conn = c }) k in absurd (omega (arith, more))

rest_stays : (n : ℕ) (at : Option Stand) (before after : List Flight) → Grown before after → permitted n at before ≡ before → permitted n at after ≡ after
rest_stays n (Some (Sends c)) before after g same = rw (full_stays n c before after g (full_where n c before same)) refl
rest_stays n _ before after g same = refl

-- A call that is in flight, has its reply or is blocked stays so. More permits are in flight, and at least as many
-- calls are blocked.
whole_so : (flies fly unfinished blocked block : Bool) → (flies ≡ true → fly ≡ true) → (blocked ≡ true → block ≡ true)
    → (flies || not (unfinished && (flies || not blocked))) ≡ true → (fly || not (unfinished && (fly || not block))) ≡ true
whole_so flies true unfinished blocked block f b h = refl
whole_so flies false false blocked block f b h = refl
whole_so true false true blocked block f b h = let clash : false ≡ true = f refl in absurd cc
whole_so false false true blocked true f b h = refl
whole_so false false true true false f b h = let clash : false ≡ true = b refl in absurd cc
whole_so false false true false false f b h = absurd cc

pub whole_stays : (m : Moment) (flights : List Flight) → Grown m.flights flights → is_whole m ≡ true → is_whole (record m { flights = flights }) ≡ true
whole_stays m flights g h =
    whole_so (is_in_flight m.stepper m.flights) (is_in_flight m.stepper flights) (is_unfinished m.past m.stepper) (is_blocked m.flights m.stepper (stand m.past m.stepper))
    (is_blocked flights m.stepper (stand m.past m.stepper)) (any_stays (λ flight. flight.call == m.stepper) m.flights flights g)
    (blocked_stays m.stepper (stand m.past m.stepper) m.flights flights g) h

-- A call that takes its permit leaves the moment at rest and the last step whole.
pub taken_at_rest : (m : Moment) (n : ℕ) → IsAtRest m → is_whole m ≡ true → IsAtRest (takes_permit n m) × (is_whole (takes_permit n m) ≡ true)
taken_at_rest m n rest whole =
    let after = permitted n (stand m.past n) m.flights in
    let g = permitted_grows n (stand m.past n) m.flights in
    let same : permitted m.stepper (stand m.past m.stepper) after ≡ after = rest_stays m.stepper (stand m.past m.stepper) m.flights after g (ap (λ it. it.flights) rest) in
    (ap (λ flights. record m { flights = flights }) same, whole_stays m after g whole)
