-- Which calls work in a transaction.
use Rattle.std.specs.Prelude.{ℕ, ◌==◌, Bool, ◌||◌, cond, List, [], ◌∷◌, ◌++◌, filter, slice_set, slice_index_or, is_some, true, false}
use Rattle.std.specs.List.{list_any}
use Rattle.dsql_laws_calls.specs.journal.declared.entry.Entry.{Entry}
use Rattle.dsql_laws_calls.specs.journal.Kinds.{number_of}
use Rattle.dsql_engine_exchanged.specs.declared.heard.HeardLine.{HeardLine}
use Rattle.dsql_engine_exchanged.specs.Heard.{nothing_heard, heard_if}
use Rattle.dsql_laws_calls.specs.history.declared.event.Event.{Event}
use Rattle.dsql_laws_calls.specs.history.declared.event.Event.TheVariants.{Entered, Heard}
use Rattle.dsql_laws_calls.specs.history.declared.work.Work.{Work}
use Rattle.dsql_laws_calls.specs.history.declared.work.Work.TheVariants.{Look, Fetch, Close, End}
use Rattle.dsql_laws_calls.specs.history.Readers.Works.{is_in, scope, works, work}
use Rattle.dsql_laws_calls.specs.history.declared.work.Scope.{Scope}
use Rattle.dsql_laws_calls.specs.history.declared.work.Scope.TheVariants.{Db, Held}

-- The line of each call, by the call's number, and the calls that have a cursor or a handle open.
pub record InTransactions : Type 0 where
  pub calls : List HeardLine
  pub «open» : List ℕ

abbrev pub line_at : List HeardLine → ℕ → HeardLine
line_at lines n = slice_index_or lines n nothing_heard

-- Is true if the call has a cursor or a handle of its own open.
abbrev pub is_open : HeardLine → Bool
is_open it = is_some it.cursor || is_some it.handle

-- Returns the calls that listen to an answer to call n: those of the list with an open cursor or handle, and call n.
abbrev pub listeners : ℕ → List ℕ → List ℕ
listeners n calls = cond (list_any (λ m. m == n) calls) calls (calls ++ n ∷ [])

-- Returns the lines after call n has heard the answer, if it was heard in the call's transaction.
abbrev pub hear_in : List Work → Entry → ℕ → List HeardLine → List HeardLine
hear_in works e n lines =
    cond (is_in (number_of e.owner) (scope (slice_index_or works n Look)))
    (slice_set lines n (heard_if n e (line_at lines n))) lines

-- Returns the lines after these calls have heard the answer, one after another.
abbrev pub hear_all : List Work → Entry → List ℕ → List HeardLine → List HeardLine
hear_all works e [] lines = lines
hear_all works e (n ∷ calls) lines = hear_all works e calls (hear_in works e n lines)

-- Returns these lines, with those of the given calls that have a cursor or a handle open.
abbrev pub with_lines : List ℕ → List HeardLine → InTransactions
with_lines calls lines = record { calls = lines; «open» = filter (λ n. is_open (line_at lines n)) calls }

-- Returns the lines with one more answer, for calls with these works.
abbrev pub lines_heard : List Work → Entry → InTransactions → InTransactions
lines_heard works e it =
    with_lines (listeners e.call_no it.open) (hear_all works e (listeners e.call_no it.open) it.calls)

-- Returns the lines with one more call, which has heard nothing.
abbrev pub lines_entered : InTransactions → InTransactions
lines_entered it = record it { calls = it.calls ++ nothing_heard ∷ [] }

-- Returns the lines of a history. There is no call 0.
abbrev pub lines : List Event → InTransactions
lines [] = record { calls = nothing_heard ∷ []; «open» = [] }
lines (Entered client n op ∷ before) = lines_entered (lines before)
lines (Heard e ∷ before) = lines_heard (works before) e (lines before)
lines (_ ∷ before) = lines before

abbrev pub is_inside : Scope → Bool
is_inside Db = false
is_inside (Held k) = true

-- Is true if a call with this work works in a transaction: it runs a text there, works over its rows, or ends
-- it.
abbrev pub work_inside : List Event → Work → Bool
work_inside past (Fetch k) = is_inside (scope (work past k))
work_inside past (Close k) = is_inside (scope (work past k))
work_inside past (End k) = true
work_inside past it = is_inside (scope it)

abbrev pub works_inside : List Event → ℕ → Bool
works_inside past n = work_inside past (work past n)
