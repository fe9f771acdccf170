-- Defines the work of each call, the scope of that work, and the call whose connection it uses.
use Rattle.std.specs.Prelude.{ℕ, ◌==◌, Bool, true, false, List, [], ◌∷◌, ◌++◌, position, slice_index_or, bytes_eq}
use Rattle.dsql_history_work.specs.journal.declared.entry.Owner.{Owner}
use Rattle.dsql_history_work.specs.journal.declared.entry.Owner.TheVariants as owners
use Rattle.dsql_history_work.specs.declared.work.Aim.{Aim}
use Rattle.dsql_history_work.specs.declared.work.Aim.TheVariants as aims
use Rattle.dsql_history_work.specs.Works.{or_zero}
use Rattle.dsql_history.specs.declared.event.Event.{Event}
use Rattle.dsql_history.specs.declared.event.Event.TheVariants.{Entered}
use Rattle.dsql_history.specs.declared.event.Op.{Op}
use Rattle.dsql_history.specs.declared.event.Op.TheVariants as ops
use Rattle.dsql_history.specs.declared.event.Target.{Target}
use Rattle.dsql_history.specs.declared.event.Target.TheVariants as targets
use Rattle.dsql_history.specs.declared.work.Scope.{Scope}
use Rattle.dsql_history.specs.declared.work.Scope.TheVariants.{Db, Held}
use Rattle.dsql_history.specs.declared.work.Work.{Work}
use Rattle.dsql_history.specs.declared.work.Task.TheVariants.{Execute, ReadOne, HandOut}
use Rattle.dsql_history.specs.declared.work.Work.TheVariants.{Statement, Begin, End, Ping, Fetch, Close, Look}

-- Is true if the work hands out rows under this label.
abbrev pub hands_out_as : List ℕ → Work → Bool
hands_out_as label (Statement scope (HandOut own)) = bytes_eq own label
hands_out_as label _ = false

-- Is true if the work begins a transaction under this label.
abbrev pub begins_as : List ℕ → Work → Bool
begins_as label (Begin own level read_only) = bytes_eq own label
begins_as label _ = false

-- Returns the first call whose rows have the label, 0 if there is none.
abbrev pub rows_maker : List Work → List ℕ → ℕ
rows_maker works label = or_zero (position (hands_out_as label) works)

-- Returns the first call whose transaction has the label, 0 if there is none.
abbrev pub tx_maker : List Work → List ℕ → ℕ
tx_maker works label = or_zero (position (begins_as label) works)

abbrev pub scope_of : List Work → Target → Scope
scope_of works targets.Db = Db
scope_of works (targets.Label tx) = Held (tx_maker works tx)

abbrev pub work_of : List Work → Op → Work
work_of works (ops.Exec target text args) = Statement (scope_of works target) Execute
work_of works (ops.Query label target text args) = Statement (scope_of works target) (HandOut label)
work_of works (ops.One target dests text args) = Statement (scope_of works target) (ReadOne dests)
work_of works (ops.Begin label level read_only) = Begin label level read_only
work_of works (ops.Commit tx) = End (tx_maker works tx)
work_of works (ops.Rollback tx) = End (tx_maker works tx)
work_of works ops.Ping = Ping
work_of works (ops.Next rows) = Fetch (rows_maker works rows)
work_of works (ops.RowsClose rows) = Close (rows_maker works rows)
work_of works _ = Look

-- Returns the work of each call, at its number. There is no call 0.
abbrev pub works : List Event → List Work
works [] = Look ∷ []
works (Entered client n op ∷ before) = works before ++ work_of (works before) op ∷ []
works (_ ∷ before) = works before

abbrev pub work : List Event → ℕ → Work
work before n = slice_index_or (works before) n Look

-- Returns the scope in which the work's statement is carried out. It has no meaning for work on rows or on
-- transactions themselves.
abbrev pub scope : Work → Scope
scope (Statement it task) = it
scope _ = Db

-- Is true if the scope is transaction k.
abbrev pub is_in : ℕ → Scope → Bool
is_in k (Held n) = n == k
is_in k Db = false

-- Is true if a call in this scope asks for a connection of its own.
abbrev pub asks_in : Scope → Bool
asks_in Db = true
asks_in (Held k) = false

abbrev pub asks : Work → Bool
asks (Statement it task) = asks_in it
asks (Begin label level read_only) = true
asks Ping = true
asks _ = false

-- Is true if the work hands out rows in transaction k.
abbrev pub hands_out_in : ℕ → Work → Bool
hands_out_in k (Statement it (HandOut label)) = is_in k it
hands_out_in k _ = false

-- Is true if the work fetches a row.
abbrev pub is_fetch : Work → Bool
is_fetch (Fetch k) = true
is_fetch _ = false

-- Returns the aim of the work: what the call does with its text.
abbrev pub aim_of : Work → Aim
aim_of (Statement it (ReadOne dests)) = aims.ReadOne
aim_of (Statement it (HandOut label)) = aims.HandOut
aim_of Ping = aims.Ping
aim_of _ = aims.Execute

-- Returns the call to which the pool lends the connection for the statement of call n. It is call n itself, or the call
-- that began its transaction.
abbrev pub borrower_in : Scope → ℕ → ℕ
borrower_in Db n = n
borrower_in (Held k) n = k

-- Returns the call to which the pool lends the connection that call n uses. For rows it is the borrower of
-- their query, for a transaction the call that began it.
abbrev pub borrower : List Event → ℕ → ℕ
borrower before n = borrower_of before (work before n) n
  where
    borrower_of : List Event → Work → ℕ → ℕ
    borrower_of before (Fetch k) n = borrower_in (scope (work before k)) k
    borrower_of before (Close k) n = borrower_in (scope (work before k)) k
    borrower_of before (End k) n = k
    borrower_of before it n = borrower_in (scope it) n

-- Returns the owner of call n's tenures: the transaction that the call begins, otherwise the call itself.
abbrev pub owner_as : Work → ℕ → Owner
owner_as (Begin label level read_only) n = owners.Tx n
owner_as it n = owners.Call n

abbrev pub owner_of : List Event → ℕ → Owner
owner_of before n = owner_as (work before n) n
