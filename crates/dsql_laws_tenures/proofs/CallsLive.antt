-- What is live in a call's tenure: the cursor that the driver gave to its line, and handles of the call.
use Rattle.std.proofs.Common.{◌≡◌, ℕ, Bool, true, false, ◌==◌, ◌&&◌, List, [], ◌∷◌, ◌++◌, Some, refl}
use Rattle.std.specs.List.{list_all}
use native.Mathlib.Omega.{arith}
use Rattle.dsql_history.specs.course.Made.{Exchange, own_cursor}
use Rattle.dsql_history.specs.driver.declared.answer.DriverAnswer.{DriverAnswer}
use Rattle.dsql_history.specs.driver.declared.answer.DriverAnswer.TheVariants.{Bad}
use Rattle.dsql_history.specs.driver.declared.call.DriverCall.{DriverCall}
use Rattle.dsql_history.specs.driver.declared.call.DriverCall.TheVariants.{Valid}
use Rattle.dsql_history.specs.driver.declared.caps.Caps.{Caps}
use Rattle.dsql_history.specs.driver.Kinds.{is_bad, is_valid}
use Rattle.dsql_history.specs.journal.declared.entry.Entry.{Entry}
use Rattle.dsql_history.specs.journal.declared.entry.Owner.TheVariants.{Call}
use Rattle.dsql_history.specs.journal.Kinds.{◌⇒◌, same_owner}
use Rattle.dsql_history.specs.journal.Readers.{LiveCursor, LiveHandle, cursors, handles, of_tenure, went_bad}
use Rattle.dsql_history.proofs.journal.Conjunctions.{if_so, join2, parts2}
use Rattle.dsql_history.proofs.journal.PlainJournals.{went_bad-in}
use Rattle.dsql_history.specs.works.Exchanges.{exchanges}
use Rattle.dsql_history.specs.works.Line.{Asked}
use Rattle.dsql_laws_work.proofs.CallLines.{HasRead, HasRows, IsOther, Open, Step, WasDropped, step, step_after}
use Rattle.dsql_laws_work.proofs.MadeLines.{MadeAt, ended_by, is_ended}
use Rattle.dsql_laws_tenures.proofs.Numbers.{is_itself, neither, neither_of}
use Rattle.dsql_laws_tenures.specs.Calls.{HasOwnCursor, IsLentToCall}
use Rattle.dsql_laws_tenures.proofs.Live.{owned_there}
use Rattle.dsql_laws_tenures.proofs.Serves.{Serves, serves_cursors, serves_owner, serves_so_far}
use Rattle.dsql_laws_tenures.proofs.CallTenures.{served}

-- Only a Bad drops what is live.
tested : (s : Step) (q : DriverCall) (a : DriverAnswer) → is_valid q ≡ true → is_bad a ≡ false → step_after s q a ≡ WasDropped → ⊥
tested s Valid Bad v b is = absurd cc
tested s Valid a v b is = absurd cc
tested s q a v b is = absurd cc

not_ended : (s : Step) → is_ended s ≡ false → s ≡ WasDropped → ⊥
not_ended s h is = let k = rw is at h in cc

not_dropped : (L : List Entry) → went_bad L ≡ false → step L ≡ WasDropped → ⊥
not_dropped [] good is = absurd cc
not_dropped (e ∷ L) good is = let p = neither (is_bad e.answer) (went_bad L) good in by_valid (is_valid e.call) refl p.0
  where
    by_valid : (b : Bool) → is_valid e.call ≡ b → is_bad e.answer ≡ false → ⊥
    by_valid true v calm = tested (step L) e.call e.answer v calm is
    by_valid false v calm = not_ended (step_after (step L) e.call e.answer) (ended_by (step L) e.call e.answer (neither_of (is_bad e.answer) (is_valid e.call) calm v)) is

none_own : (t : ℕ) (made : List Exchange) (live : List LiveCursor) → live ≡ [] → HasOwnCursor t made live
none_own t made live none = record { own = rw none refl; one = rw none (omega arith) }

one_own : (t rows columns : ℕ) (over : Bool) (made : List Exchange) (live : List LiveCursor) → live ≡ record { number = rows; tenure = t; tx = 0; columns = columns; over = over } ∷ [] → own_cursor made ≡ Some rows
    → HasOwnCursor t made live
one_own t rows columns over made live is own = record { own = rw (is, own, is_itself t, is_itself rows) refl; one = rw is (omega arith) }

own_at : (can : Caps) (asked : Asked) (t : ℕ) (s : Step) (made : List Exchange) (live : List LiveCursor) → Open t s live → MadeAt can asked s made → (s ≡ WasDropped → ⊥) → HasOwnCursor t made live
own_at can asked t (HasRows own rows) made live o m d = one_own t rows o.columns false made live o.is m.cursor
own_at can asked t (HasRead own rows over) made live o m d = one_own t rows o.columns over made live o.is m.cursor
own_at can asked t WasDropped made live o m d = absurd (d refl)
own_at can asked t IsOther made live o m d = absurd o
own_at can asked t _ made live o m d = none_own t made live o

-- A connection that serves a call, and on which no answer was Bad, has only the call's cursor live.
pub serves_own : (c t n : ℕ) (J : List Entry) (can : Caps) (asked : Asked) → Serves c t n J → MadeAt can asked (step (of_tenure t J)) (exchanges (of_tenure t J)) → went_bad J ≡ false
    → HasOwnCursor t (exchanges (of_tenure t J)) (cursors J)
serves_own c t n J can asked s made good =
    let so = serves_so_far c t n J s in
    own_at can asked t (step (of_tenure t J)) (exchanges (of_tenure t J)) (cursors J) (rw (serves_cursors c t n J s) so.open_rows) made (not_dropped (of_tenure t J) (went_bad-in t J good))

-- The live handles are the call's.
all_own : (t n : ℕ) (live : List LiveHandle) → list_all (λ x. x.tenure == t) live ≡ true → list_all (λ x. (x.tenure == t) ⇒ same_owner x.owner (Call n)) live ≡ true
    → list_all (λ x. (x.tenure == t) && same_owner x.owner (Call n)) live ≡ true
all_own t n [] here own = refl
all_own t n (x ∷ live) here own =
    let a = parts2 (x.tenure == t) (list_all (λ y. y.tenure == t) live) here in
    let b = parts2 ((x.tenure == t) ⇒ same_owner x.owner (Call n)) (list_all (λ y. (y.tenure == t) ⇒ same_owner y.owner (Call n)) live) own in
    join2 ((x.tenure == t) && same_owner x.owner (Call n)) (list_all (λ y. (y.tenure == t) && same_owner y.owner (Call n)) live)
    (join2 (x.tenure == t) (same_owner x.owner (Call n)) a.0 (if_so (x.tenure == t) (same_owner x.owner (Call n)) b.0 a.0)) (all_own t n live a.1 b.1)

pub serves_own_handles : (c t n : ℕ) (J : List Entry) → Serves c t n J → list_all (λ x. (x.tenure == t) && same_owner x.owner (Call n)) (handles J) ≡ true
serves_own_handles c t n J s =
    let a = s.alone in
    all_own t n (handles J) a.handles_here (owned_there (λ o. same_owner o (Call n)) t J (serves_owner c t n J s))

-- What this says of a connection that is lent to a call.

pub call_cursors : (can : Caps) (reset_due : Bool) (asked : Asked) (c t n : ℕ) (heard before : List Entry) → IsLentToCall can reset_due asked c t n heard before → went_bad (heard ++ before) ≡ false
    → HasOwnCursor t (exchanges heard) (cursors (heard ++ before))
call_cursors can reset_due asked c t n heard before l good =
    let v = served can reset_due asked c t n heard before l in
    rw v.tenure at (serves_own c t n (heard ++ before) can asked v.serves (rw v.tenure v.made) good)

pub call_handles : (can : Caps) (reset_due : Bool) (asked : Asked) (c t n : ℕ) (heard before : List Entry) → IsLentToCall can reset_due asked c t n heard before
    → list_all (λ x. (x.tenure == t) && same_owner x.owner (Call n)) (handles (heard ++ before)) ≡ true
call_handles can reset_due asked c t n heard before l = let v = served can reset_due asked c t n heard before l in serves_own_handles c t n (heard ++ before) v.serves
