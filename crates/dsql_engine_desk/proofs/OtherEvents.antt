-- Events that change no table, and the end of the run.
use Rattle.std.proofs.Common.{◌≡◌, true, List, ◌∷◌, refl}
use Rattle.dsql_laws_calls.specs.history.declared.event.Event.{Event}
use Rattle.dsql_laws_calls.specs.history.declared.event.Event.TheVariants.{Waits, Ticked, SetLimit, Ended}
use Rattle.dsql_laws_calls.specs.history.Readers.Course.{caps, has_ended}
use Rattle.dsql_laws_calls.specs.history.Readers.HandedOut.{handed_out}
use Rattle.dsql_laws_calls.specs.history.Readers.Transactions.{transactions}
use Rattle.dsql_laws_calls.specs.history.Readers.Unfinished.{unfinished}
use Rattle.dsql_laws_calls.specs.history.Readers.Works.{works}
use Rattle.dsql_engine_calls.specs.declared.call.CallRow.{CallRow}
use Rattle.dsql_engine_desk.specs.Adding.{is_beside}
use Rattle.dsql_engine_calls.specs.Calls.{KeepsCalls}
use Rattle.dsql_engine_lines.specs.Inside.{lines}
use Rattle.dsql_engine_lines.specs.There.{heard_there}
use Rattle.dsql_engine_lines.specs.Sent.{sent}
use Rattle.dsql_engine_desk.specs.Step.{own_step}
use Rattle.dsql_engine_desk.proofs.Kept.{unended}

-- What an event leaves unchanged that concerns no table.
pub record LeavesTables (H : List Event) (e : Event) (rows : List CallRow) : Type 0 where
  pub caps : caps (e ∷ H) ≡ caps H
  pub has_ended : has_ended (e ∷ H) ≡ has_ended H
  pub there : heard_there (e ∷ H) ≡ heard_there H
  pub lines : lines (e ∷ H) ≡ lines H
  pub calls : KeepsCalls (e ∷ H) rows
  pub unfinished : unfinished (e ∷ H) ≡ unfinished H
  pub sent : sent (e ∷ H) ≡ sent H
  pub step : own_step (e ∷ H) ≡ 0
  pub works : works (e ∷ H) ≡ works H
  pub handed_out : handed_out (e ∷ H) ≡ handed_out H
  pub transactions : transactions (e ∷ H) ≡ transactions H

beside_leaves : (H : List Event) (e : Event) (rows : List CallRow) → is_beside e ≡ true → KeepsCalls H rows → KeepsCalls (e ∷ H) rows
beside_leaves H (Waits n) rows is k = unended H (Waits n) rows k.calls k.works k.tried refl refl k
beside_leaves H (Ticked now) rows is k = unended H (Ticked now) rows k.calls k.works k.tried refl refl k
beside_leaves H (SetLimit s n) rows is k = unended H (SetLimit s n) rows k.calls k.works k.tried refl refl k
beside_leaves H e rows is k = absurd cc

pub beside_keeps : (H : List Event) (e : Event) (rows : List CallRow) → is_beside e ≡ true → KeepsCalls H rows → LeavesTables H e rows
beside_keeps H (Waits n) rows is k =
    record { caps = refl; has_ended = refl; there = refl; lines = refl; calls = beside_leaves H (Waits n) rows is k; unfinished = refl; sent = refl; step = refl; works = refl; handed_out = refl; transactions = refl }
beside_keeps H (Ticked now) rows is k =
    record { caps = refl; has_ended = refl; there = refl; lines = refl; calls = beside_leaves H (Ticked now) rows is k; unfinished = refl; sent = refl; step = refl; works = refl; handed_out = refl; transactions = refl }
beside_keeps H (SetLimit s n) rows is k =
    record { caps = refl; has_ended = refl; there = refl; lines = refl; calls = beside_leaves H (SetLimit s n) rows is k; unfinished = refl; sent = refl; step = refl; works = refl; handed_out = refl; transactions = refl }
beside_keeps H e rows is k = absurd cc

pub end_keeps : (H : List Event) (rows : List CallRow) → KeepsCalls H rows → KeepsCalls (Ended ∷ H) rows
end_keeps H rows k = unended H Ended rows k.calls k.works k.tried refl refl k
