-- The laws of transactions, whatever is called.
use Rattle.std.specs.Prelude.{◌≡◌, ℕ, Bool, true, false, List, [], ◌∷◌, is_some}
use Rattle.std.specs.List.{list_all}
use Rattle.dsql_driver.specs.declared.call.DriverCall.{DriverCall}
use Rattle.dsql_driver.specs.declared.call.DriverCall.TheVariants.{Reset, Begin, Commit, Rollback, Shut}
use Rattle.dsql_driver.specs.declared.call.Level.{Level}
use Rattle.dsql_mem_calls.specs.Effect.{effect}
use Rattle.dsql_mem_store.specs.Entries.{Entries, AreAscending, value_at}
use Rattle.dsql_mem_session.specs.declared.session.MemSession.{MemSession}

-- Is true if the call neither begins a transaction nor ends one.
abbrev pub leaves_transaction : DriverCall → Bool
leaves_transaction Reset = false
leaves_transaction (Begin level read_only) = false
leaves_transaction Commit = false
leaves_transaction Rollback = false
leaves_transaction Shut = false
leaves_transaction _ = true

-- Returns the map and the session after these calls, one after the other, if no other session calls.
abbrev pub after_calls : Entries → MemSession → List DriverCall → Entries × MemSession
after_calls store session [] = (store, session)
after_calls store session (call ∷ calls) =
    let after = effect store session call in after_calls after.store after.session calls

-- Holds if a Rollback restores at each key what was there at the Begin. The session may make any calls in
-- between that neither begin a transaction nor end one, and no other session writes.
abbrev pub RollbackRestores : Type 0
RollbackRestores =
    (store : Entries) (session : MemSession) (level : Level) (read_only : Bool) (calls : List DriverCall)
    (key : List ℕ) → AreAscending store → is_some session.undo ≡ false → list_all leaves_transaction calls ≡ true →
    let begun = effect store session (Begin level read_only) in
    let done = after_calls begun.store begun.session calls in
    value_at key (effect done.0 done.1 Rollback).store ≡ value_at key store
