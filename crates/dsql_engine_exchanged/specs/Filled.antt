-- Defines driver calls with and without the text and the parameters of a statement.
use Rattle.std.specs.Prelude.{ℕ, ◌≡◌, Bool, true, false, List}
use Rattle.dsql_history.specs.value.declared.value.Param.{Param}
use Rattle.dsql_history.specs.driver.declared.call.DriverCall.{DriverCall}
use Rattle.dsql_history.specs.driver.declared.call.DriverCall.TheVariants.{Connect, Reset, Valid, Ping, Prepare, Exec, Query, Next, CloseRows, CloseStmt, Begin, Commit, Rollback, Shut}
use Rattle.dsql_history.specs.driver.declared.call.Input.TheVariants.{Text, Handle}
use Rattle.dsql_history.specs.works.Line.{Asked, run_of}
use Rattle.dsql_engine_exchanged.specs.declared.bare.BareCall.{BareCall}
use Rattle.dsql_engine_exchanged.specs.declared.bare.BareCall.TheVariants as bare

-- Returns the driver call with what is asked.
abbrev pub filled : Asked → BareCall → DriverCall
filled asked bare.Connect = Connect
filled asked bare.Reset = Reset
filled asked bare.Ping = Ping
filled asked bare.Text = run_of asked (Text asked.text)
filled asked bare.Prepare = Prepare asked.text
filled asked (bare.Handle handle) = run_of asked (Handle handle)
filled asked (bare.Next rows) = Next rows
filled asked (bare.CloseRows rows) = CloseRows rows
filled asked (bare.CloseStmt handle) = CloseStmt handle
filled asked (bare.Begin level read_only) = Begin level read_only
filled asked bare.Commit = Commit
filled asked bare.Rollback = Rollback
filled asked bare.Valid = Valid
filled asked bare.Shut = Shut

-- Is true if the driver call is for a statement, so that a text or parameters are copied for it.
abbrev pub has_statement : BareCall → Bool
has_statement bare.Text = true
has_statement bare.Prepare = true
has_statement (bare.Handle handle) = true
has_statement _ = false

-- Is true if the driver call has a text or parameters.
abbrev pub carries_statement : DriverCall → Bool
carries_statement (Exec input params) = true
carries_statement (Query input params) = true
carries_statement (Prepare text) = true
carries_statement _ = false

-- Returns the driver call with this text and these parameters in place of those that it has.
abbrev pub refilled : List ℕ → List Param → DriverCall → DriverCall
refilled text params (Exec (Text own) others) = Exec (Text text) params
refilled text params (Exec (Handle handle) others) = Exec (Handle handle) params
refilled text params (Query (Text own) others) = Query (Text text) params
refilled text params (Query (Handle handle) others) = Query (Handle handle) params
refilled text params (Prepare own) = Prepare text
refilled text params call = call

-- Holds if the text and the parameters of the driver call, if it has them, are those that are asked.
abbrev pub Carries : Asked → DriverCall → Type 0
Carries asked call = refilled asked.text asked.params call ≡ call
