-- Proves that a call stands in one place. The first three cases of where a call stands exclude each other, so
-- that whichever holds is the one that counts.
use Rattle.std.proofs.Common.{◌≡◌, ◌≢◌, ℕ, Bool, true, false, List, Some, None, refl, sym, ◌∙◌, is_some, arith}
use Rattle.std.specs.List.{list_any}
use Rattle.dsql_history.specs.wait.Requests.{waits}
use Rattle.dsql_history.specs.pool.Places.{is_for}
use Rattle.dsql_history.specs.declared.record.Stand.TheVariants.{Waits, Opens, Sends}
use Rattle.dsql_history.specs.Readers.Pool.{smallest, pool}
use Rattle.dsql_history.specs.declared.event.Event.{Event}
use Rattle.dsql_history.specs.Readers.Calls.{site}
use Rattle.dsql_history.specs.Rules.Line.{due_for}
use Rattle.dsql_history.specs.Rules.Stands.{stand}
use Rattle.dsql_history.specs.Legal.{Lawful}
use Rattle.dsql_laws.proofs.Places.{none_opens, neither}
use Rattle.dsql_laws.proofs.Counts.{waits_some}
use Rattle.dsql_laws.proofs.Wanted.{any_counts, homes_apart}
use Rattle.dsql_laws.proofs.Holdings.{one_at_most}
use Rattle.dsql_laws.proofs.Wanting.{sends_or_wants}

-- A call for which a connection is being opened doesn't wait.
opens_unwaiting : (H : List Event) (n c : ℕ) → Lawful H → n ≢ 0 → smallest (is_for n) (pool H) ≡ Some c → waits n (pool H).waiting ≡ false
opens_unwaiting H n c l some is = by (waits n (pool H).waiting) refl (list_any (λ conn. is_for n conn.place) (pool H).conns) refl
  where
    by : (w : Bool) → waits n (pool H).waiting ≡ w → (o : Bool) → list_any (λ conn. is_for n conn.place) (pool H).conns ≡ o → waits n (pool H).waiting ≡ false
    by false waiting o opening = waiting
    by true waiting false opening = let clash : Some c ≡ None = sym is ∙ none_opens n (pool H) opening in absurd cc
    by true waiting true opening =
        let a = waits_some n (pool H).waiting waiting in
        let b = any_counts n (pool H).conns opening in
        let apart = homes_apart n (pool H).conns in
        let one = one_at_most H n l some in
        absurd (omega (arith, a, b, apart, one))

pub stands_opening : (H : List Event) (n c : ℕ) → Lawful H → n ≢ 0 → smallest (is_for n) (pool H) ≡ Some c → stand H n ≡ Some (Opens c)
stands_opening H n c l some is = rw (opens_unwaiting H n c l some is, is) refl

pub stands_sending : (H : List Event) (n : ℕ) → Lawful H → n ≢ 0 → is_some (due_for H n) ≡ true → stand H n ≡ Some (Sends (site H n))
stands_sending H n l some due =
    let wanting = neither (waits n (pool H).waiting) (list_any (λ conn. is_for n conn.place) (pool H).conns) (sends_or_wants H n l some due) in
    rw (wanting.0, none_opens n (pool H) wanting.1, due) refl

pub stands_waiting : (H : List Event) (n : ℕ) → waits n (pool H).waiting ≡ true → stand H n ≡ Some Waits
stands_waiting H n waiting = rw waiting refl
