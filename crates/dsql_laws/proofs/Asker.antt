-- Proves what holds of a call that may ask for a connection.
use Rattle.std.proofs.Common.{◌≡◌, ℕ, Bool, true, false, not, ◌&&◌, List, Option, Some, None, is_none, refl}
use Rattle.dsql_history.specs.pool.Calls.{wants}
use Rattle.dsql_history.specs.Readers.Pool.{smallest, is_home, pool}
use Rattle.dsql_history.specs.Readers.Tries.{has_a_try, tries}
use Rattle.dsql_history.specs.declared.event.Event.{Event}
use Rattle.dsql_history.specs.Readers.Works as works
use Rattle.dsql_history.specs.Readers.Calls.{reply_due}
use Rattle.dsql_history.specs.Readers.HandedOut.{rows_by}
use Rattle.dsql_history.specs.Readers.Unfinished.{is_unfinished}
use Rattle.dsql_history.specs.Readers.Works.{work}
use Rattle.dsql_history.specs.Rules.Asking.{may_try, may_ask}
use Rattle.dsql_laws.proofs.Tests.{both}

-- Holds if the call has no reply, works on a connection of its own, and has a try left. It has nothing in the
-- pool, and its reply isn't settled.
pub record Asker (H : List Event) (n : ℕ) : Type 0 where
  pub unfinished : is_unfinished H n ≡ true
  pub own : works.asks (work H n) ≡ true
  pub try_left : has_a_try (tries H n) ≡ true
  pub homeless : smallest (is_home n) (pool H) ≡ None
  pub rowless : rows_by H n ≡ None
  pub unwanting : wants n (pool H) ≡ false
  pub unsettled : reply_due H n ≡ None

none_of : {A : Type 0} (o : Option A) → is_none o ≡ true → o ≡ None
none_of None h = refl
none_of (Some a) h = absurd cc

untrue : (b : Bool) → not b ≡ true → b ≡ false
untrue true h = absurd cc
untrue false h = refl

pub asker : (H : List Event) (n : ℕ) → may_ask H n ≡ true → Asker H n
asker H n may =
    let a = both (is_unfinished H n) (works.asks (work H n) && (may_try H n && (not (wants n (pool H)) && is_none (reply_due H n)))) may in
    let b = both (works.asks (work H n)) (may_try H n && (not (wants n (pool H)) && is_none (reply_due H n))) a.1 in
    let c = both (may_try H n) (not (wants n (pool H)) && is_none (reply_due H n)) b.1 in
    let t = both (has_a_try (tries H n)) (is_none (smallest (is_home n) (pool H)) && is_none (rows_by H n)) c.0 in
    let free = both (is_none (smallest (is_home n) (pool H))) (is_none (rows_by H n)) t.1 in
    let d = both (not (wants n (pool H))) (is_none (reply_due H n)) c.1 in
    record {
      unfinished = a.0;
      own = b.0;
      try_left = t.0;
      homeless = none_of (smallest (is_home n) (pool H)) free.0;
      rowless = none_of (rows_by H n) free.1;
      unwanting = untrue (wants n (pool H)) d.0;
      unsettled = none_of (reply_due H n) d.1;
    }
