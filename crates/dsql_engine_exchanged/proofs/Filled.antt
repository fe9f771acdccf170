-- Driver calls may be filled anew, and those without a statement are the same whatever fills them.
use Rattle.std.proofs.Common.{◌≡◌, ℕ, true, List, refl}
use Rattle.dsql_history.specs.value.declared.value.Param.{Param}
use Rattle.dsql_history.specs.works.declared.work.Aim.{Aim}
use Rattle.dsql_history.specs.works.declared.work.Aim.TheVariants.{Execute}
use Rattle.dsql_history.specs.driver.declared.call.Input.{Input}
use Rattle.dsql_history.specs.driver.declared.call.Input.TheVariants.{Text, Handle}
use Rattle.dsql_history.specs.works.Line.{Asked, run_for}
use Rattle.dsql_engine_exchanged.specs.Filled.{filled, refilled, has_statement, carries_statement}
use Rattle.dsql_engine_exchanged.specs.declared.bare.BareCall.{BareCall}
use Rattle.dsql_engine_exchanged.specs.declared.bare.BareCall.TheVariants as bare

filled_for : (aim : Aim) (text own : List ℕ) (params others : List Param) (call : BareCall)
    → filled (record { text = text; params = params; aim = aim }) call ≡ refilled text params (filled (record { text = own; params = others; aim = aim }) call)
filled_for aim text own params others bare.Connect = refl
filled_for Execute text own params others bare.Text = refl
filled_for Execute text own params others (bare.Handle handle) = refl
filled_for _ text own params others _ = refl

-- Filling a driver call with another text and other parameters is refilling the one that was filled.
pub filled_anew : (text : List ℕ) (params : List Param) (asked : Asked) (call : BareCall)
    → filled (record { text = text; params = params; aim = asked.aim }) call ≡ refilled text params (filled asked call)
filled_anew text params asked call = filled_for asked.aim text asked.text params asked.params call

-- A run of a statement carries the statement.
runs : (aim : Aim) (input : Input) (params : List Param) → carries_statement (run_for aim input params) ≡ true
runs Execute input params = refl
runs _ input params = refl

-- A driver call that is for a statement carries it when filled.
pub carries : (asked : Asked) (it : BareCall) → has_statement it ≡ true → carries_statement (filled asked it) ≡ true
carries asked bare.Text h = runs asked.aim (Text asked.text) asked.params
carries asked bare.Prepare h = refl
carries asked (bare.Handle handle) h = runs asked.aim (Handle handle) asked.params
carries asked _ h = absurd cc
