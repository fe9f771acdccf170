-- Which driver calls the threads of clients make.
use Rattle.std.specs.Prelude.{◌≢◌}
use Rattle.dsql_hall_steps.specs.declared.step.Step.{Step}
use Rattle.dsql_hall_steps.specs.declared.step.Step.TheVariants.{Go}

-- Holds of a step of a client. If it makes a driver call, a call of the client makes it, and not the layer.
abbrev pub IsOfClient : {K W : Type 0} → Step K W → Type 0
IsOfClient (Go it) = it.work.permit.call_no ≢ 0
IsOfClient _ = Unit {0}
