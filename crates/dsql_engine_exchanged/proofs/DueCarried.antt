-- What is sent for a due call carries what is asked. The argument goes through the due calls.
use Rattle.std.proofs.Common.{◌≡◌, ℕ, Bool, true, false, cond, List, refl, Option, None, Some}
use Rattle.std.specs.Prelude.{IfSome}
use Rattle.dsql_history.specs.value.declared.value.Param.{Param}
use Rattle.dsql_history.specs.driver.declared.caps.Caps.{Caps}
use Rattle.dsql_history.specs.driver.declared.call.DriverCall.TheVariants.{Valid}
use Rattle.dsql_history.specs.driver.declared.call.Input.TheVariants.{Text, Handle}
use Rattle.dsql_history.specs.course.declared.call.Due.{Due}
use Rattle.dsql_history.specs.course.declared.call.Due.TheVariants as due
use Rattle.dsql_history.specs.works.declared.work.Aim.{Aim}
use Rattle.dsql_history.specs.works.declared.work.Aim.TheVariants.{Execute}
use Rattle.dsql_history.specs.works.Line.{Asked, run_for, sent_as, sent_over, test_of}
use Rattle.dsql_engine_exchanged.specs.Filled.{Carries, refilled}

text_run : (aim : Aim) (text : List ℕ) (params : List Param) → refilled text params (run_for aim (Text text) params) ≡ run_for aim (Text text) params
text_run Execute text params = refl
text_run _ text params = refl

handle_run : (aim : Aim) (handle : ℕ) (text : List ℕ) (params : List Param) → refilled text params (run_for aim (Handle handle) params) ≡ run_for aim (Handle handle) params
handle_run Execute handle text params = refl
handle_run _ handle text params = refl

-- A test of the connection carries whatever is asked, because it has no statement.
pub test_carries : (can : Caps) (asked : Asked) → IfSome (test_of can) (Carries asked)
test_carries can asked = by can.validator
  where
    by : (b : Bool) → IfSome (cond b (Some Valid) None) (Carries asked)
    by true = refl
    by false = tt

-- What is sent for a due call carries what is asked.
pub step_carries : (can : Caps) (asked : Asked) (call : Due) → IfSome (sent_as can asked call) (Carries asked)
step_carries can asked due.Text = text_run asked.aim asked.text asked.params
step_carries can asked (due.Handle handle) = handle_run asked.aim handle asked.text asked.params
step_carries can asked due.Begin = test_carries can asked
step_carries can asked due.Rollback = test_carries can asked
step_carries can asked due.Over = test_carries can asked
step_carries can asked _ = refl

-- What is sent for a due call, if there is one, carries what is asked.
pub over_carries : (can : Caps) (asked : Asked) (call : Option Due) → IfSome (sent_over can asked call) (Carries asked)
over_carries can asked None = tt
over_carries can asked (Some call) = step_carries can asked call
