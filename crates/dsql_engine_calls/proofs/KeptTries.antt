-- The recorded tries of a call say the same as all its tries.
use Rattle.std.proofs.Common.{◌≡◌, ℕ, ◌+◌, ◌<◌, List, [], ◌∷◌, length, Some, refl, ap, arith}
use Rattle.std.specs.Prelude.{min}
use Rattle.dsql_history.specs.declared.record.Try.{Try}
use Rattle.dsql_history.specs.declared.record.Try.TheVariants.{Served}
use Rattle.dsql_history.specs.Readers.Tries.{try_number, has_a_try, asks_last, asks_again, lost}
use Rattle.dsql_engine_calls.specs.declared.tried.Tried.{Tried}
use Rattle.dsql_engine_calls.specs.Tried as of_row
use Rattle.dsql_engine_calls.specs.Tried.{kept, one_more, newest_lost, number, has_another, next_is_last, most_counted}
use Rattle.dsql_history.specs.declared.event.Event.{Event}
use Rattle.dsql_history.specs.declared.work.Work.{Work}
use Rattle.dsql_history.specs.Readers.Calls.{told_by_tries}
use Rattle.dsql_history.specs.Readers.Course.{db_end}
use Rattle.dsql_engine_calls.specs.Settling.{told_trying}

pub kept_number : (ts : List Try) → number (kept ts) ≡ try_number ts
kept_number [] = refl
kept_number (t ∷ ts) = refl

pub kept_another : (ts : List Try) → has_another (kept ts) ≡ has_a_try ts
kept_another [] = refl
kept_another (t ∷ ts) = refl

pub kept_last : (ts : List Try) → next_is_last (kept ts) ≡ asks_last ts
kept_last [] = refl
kept_last (t ∷ ts) = refl

pub kept_again : (ts : List Try) → of_row.asks_again (kept ts) ≡ asks_again ts
kept_again (Served ∷ ts) = refl
kept_again _ = refl

pub kept_lost : (ts : List Try) → newest_lost (kept ts) ≡ kept (lost ts)
kept_lost (Served ∷ ts) = refl
kept_lost _ = refl

counted : (ts : List Try) → (kept ts).count ≡ length ts
counted [] = refl
counted (t ∷ ts) = refl

pub kept_more : (it : Try) (ts : List Try) → length ts < most_counted → one_more it (kept ts) ≡ kept (it ∷ ts)
kept_more it ts few =
    let same = counted ts in
    let count : min ((kept ts).count + 1) most_counted ≡ length (it ∷ ts) = omega (arith, same, few) in
    let of_count : ℕ → Tried = λ k. record { newest = Some it; count = k } in
    ap of_count count

pub kept_told : (H : List Event) (work : Work) (ts : List Try) → told_trying (db_end H) work (kept ts) ≡ told_by_tries H work ts
kept_told H work (Served ∷ ts) = refl
kept_told H work _ = refl
