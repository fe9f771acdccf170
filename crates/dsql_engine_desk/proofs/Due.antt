-- What a call sends, by what it works on.
use Rattle.std.proofs.Common.{◌≡◌, ◌≢◌, ◌==◌, ℕ, Bool, true, false, not, ◌&&◌, ◌||◌, cond, List, Option, Some, None, is_none, is_some, refl, sym, subst, ◌∙◌}
use Rattle.std.specs.Option.{option_map}
use Rattle.dsql_laws_calls.specs.course.declared.course.Wish.{Wish}
use Rattle.dsql_laws_calls.specs.course.declared.course.Wish.TheVariants as wishes
use Rattle.dsql_laws_calls.specs.rows.declared.rows.Rows.{Rows}
use Rattle.dsql_laws_calls.specs.rows.OpenRows.{is_live}
use Rattle.dsql_laws_calls.specs.history.Readers.HandedOut.{live, over, are_live, are_over, ender, is_late, rows_by}
use Rattle.dsql_laws_calls.specs.history.Rules.Wishes.{wish_as}
use Rattle.dsql_laws_calls.proofs.laws.Tests.{both, same_number}
use Rattle.dsql_laws_calls.specs.works.Line.{Asked}
use Rattle.dsql_engine_exchanged.specs.declared.bare.BareCall.{BareCall}
use Rattle.dsql_engine_exchanged.specs.Filled.{filled}
use Rattle.dsql_laws_calls.specs.history.declared.event.Event.{Event}
use Rattle.dsql_laws_calls.specs.history.declared.work.Scope.TheVariants.{Db, Held}
use Rattle.dsql_laws_calls.specs.history.declared.work.Work.{Work}
use Rattle.dsql_laws_calls.specs.history.declared.work.Task.TheVariants.{Execute, ReadOne, HandOut}
use Rattle.dsql_laws_calls.specs.history.declared.work.Work.TheVariants.{Statement, End, Fetch, Close}
use Rattle.dsql_laws_calls.specs.history.Readers.Calls.{decided, has_begun_to_send}
use Rattle.dsql_laws_calls.specs.history.Readers.Works.{asks, is_fetch, scope, work}
use Rattle.dsql_laws_calls.specs.history.Rules.Line.{due_in, rest_with}
use Rattle.dsql_laws_calls.specs.history.Rules.Sent.{closes, line_of, wish}
use Rattle.dsql_laws_calls.proofs.EndedRows.{ender_over}
use Rattle.dsql_laws_calls.proofs.LiveRows.{live_some, over_some}
use Rattle.dsql_engine_calls.specs.Calls.{rows_worked, tx_worked}
use Rattle.dsql_engine_desk.specs.Lines.{due_by, is_to_send}
use Rattle.dsql_engine_desk.specs.Next.{IsWanted, has_line}

pub due_by_kind : (H : List Event) (m : ℕ) (w : Work) → due_in H m w ≡ due_by H m (asks w) (scope w) (tx_worked w) (rows_worked w)
due_by_kind H m (Statement Db Execute) = refl
due_by_kind H m (Statement (Held k) Execute) = refl
due_by_kind H m (Statement Db (ReadOne dests)) = refl
due_by_kind H m (Statement (Held k) (ReadOne dests)) = refl
due_by_kind H m (Statement Db (HandOut label)) = refl
due_by_kind H m _ = refl

-- Whether a driver call is sent doesn't depend on the statement that fills it.
pub is_filled : (asked : Asked) (call : Option BareCall) → is_some (option_map (filled asked) call) ≡ is_some call
is_filled asked None = refl
is_filled asked (Some it) = refl

-- A call that is to send by itself has a line.
to_send : (H : List Event) (m : ℕ) (w : Work) → is_to_send H m (asks w) (scope w) ≡ true → has_line w ≡ true
to_send H m (End k) h = absurd cc
to_send H m (Fetch k) h = absurd cc
to_send H m (Close k) h = absurd cc
to_send H m w h = refl

pub sender_line : (H : List Event) (m : ℕ) → is_to_send H m (asks (work H m)) (scope (work H m)) ≡ true → has_line (work H m) ≡ true
sender_line H m h = to_send H m (work H m) h

-- Rows that are live or over were made.

pub over_made : (H : List Event) (n : ℕ) → are_over H n ≡ true → is_some (rows_by H n) ≡ true
over_made H n h = over_some (rows_by H n) h

wanted_so : (H : List Event) (k : ℕ) (close fetch : Bool) → (close ≡ true → is_some (rows_by H k) ≡ true) → (fetch ≡ true → is_some (rows_by H k) ≡ true) → IsWanted H k (wish_as close fetch)
wanted_so H k true fetch closing fetching = closing refl
wanted_so H k false true closing fetching = fetching refl
wanted_so H k false false closing fetching = tt

pub wanted : (H : List Event) (m k : ℕ) (it : Wish) → m ≢ 0 → it ≡ wish H m k → IsWanted H k it
wanted H m k it some is =
    let fetch = is_fetch (work H m) && (are_live H k && is_none (decided H m)) in
    subst (λ w. IsWanted H k w) (sym is) (wanted_so H k (closes H m k) fetch closing fetching)
  where
    closing : closes H m k ≡ true → is_some (rows_by H k) ≡ true
    closing h =
        let it = both (ender H k == m) (not (is_late H (scope (work H k))) || has_begun_to_send H m) h in
        over_made H k (ender_over H k (λ none. some (sym (same_number (ender H k) m it.0) ∙ none)))

    fetching : (is_fetch (work H m) && (are_live H k && is_none (decided H m))) ≡ true → is_some (rows_by H k) ≡ true
    fetching h =
        let it = both (is_fetch (work H m)) (are_live H k && is_none (decided H m)) h in
        let there = both (are_live H k) (is_none (decided H m)) it.1 in
        live_some (rows_by H k) there.0

pub unmade : {A : Type 0} (it : Option A) → is_none it ≡ not (is_some it)
unmade None = refl
unmade (Some it) = refl

-- What is still to be sent depends on whether the rows are live or over.
pub rest_by_rows : (H : List Event) (n : ℕ) (rows : Option Rows) → is_some (rest_with H n rows) ≡ cond (live rows) false (cond (over rows) (is_some (line_of H n wishes.Close)) (is_some (line_of H n wishes.Nothing)))
rest_by_rows H n None = refl
rest_by_rows H n (Some rows) = by (is_live rows)
  where
    by : (b : Bool) → is_some (cond b None (line_of H n wishes.Close)) ≡ cond b false (cond (not b) (is_some (line_of H n wishes.Close)) (is_some (line_of H n wishes.Nothing)))
    by true = refl
    by false = refl
