-- Defines the moves that the pool owes: those that it decided at an event and hasn't made yet.
use Rattle.std.specs.Prelude.{ℕ, ℤ, Bool, true, false, cond, List, [], Option, Some, ◌∷◌, drop}
use Rattle.dsql_history_work.specs.driver.declared.answer.DriverAnswer.{DriverAnswer}
use Rattle.dsql_history_work.specs.driver.Fits.{is_done}
use Rattle.dsql_pool.specs.declared.conn.Place.{Place}
use Rattle.dsql_pool.specs.declared.conn.Place.TheVariants.{Opening, Closing}
use Rattle.dsql_pool.specs.declared.moves.Fate.{Fate}
use Rattle.dsql_pool.specs.declared.moves.Fate.TheVariants.{Good, Bad, Invalid}
use Rattle.dsql_pool.specs.declared.moves.Move.{Move}
use Rattle.dsql_pool.specs.Pooled.{Pooled}
use Rattle.dsql_pool.specs.Calls.{moves_opened, moves_failed, moves_gone, moves_open_set, moves_idle_set, moves_lifetime_set, moves_idle_time_set, moves_ticked, moves_given_back, moves_closed}
use Rattle.dsql_history.specs.declared.event.Setting.{Setting}
use Rattle.dsql_history.specs.declared.event.Setting.TheVariants.{MaxOpen, MaxIdle, MaxLife, MaxIdleTime}
use Rattle.dsql_history.specs.declared.event.Control.{Control}
use Rattle.dsql_history.specs.declared.event.Control.TheVariants.{Tick, Set}
use Rattle.dsql_history_work.specs.journal.Readers.{went_bad}
use Rattle.dsql_pool.specs.declared.moves.Move.TheVariants.{Back, CloseStart}
use Rattle.dsql_history_work.specs.Journals.{ends_invalid}
use Rattle.dsql_history.specs.declared.event.Event.{Event}
use Rattle.dsql_history.specs.declared.event.Event.TheVariants.{Entered, Heard, Pool, Ticked, SetLimit, Ended}
use Rattle.dsql_history.specs.declared.event.Op.TheVariants.{DbClose}
use Rattle.dsql_history.specs.Readers.Journals.{journal}
use Rattle.dsql_history.specs.Readers.Pool.{pool, place}

abbrev pub fate_when : Bool → Bool → Fate
fate_when true invalid = Bad
fate_when false true = Invalid
fate_when false false = Good

-- Returns the moves that follow from the driver's answer on connection c in this place. The driver has opened
-- the connection, has failed to open it, or has shut it.
abbrev pub answered : DriverAnswer → ℕ → Pooled → Option Place → List Move
answered answer c p (Some (Opening wanted)) = cond (is_done answer) (moves_opened c p) (moves_failed c p)
answered answer c p (Some Closing) = moves_gone c p
answered answer c p _ = []

abbrev pub limit_set : Setting → ℤ → Pooled → List Move
limit_set MaxOpen n p = moves_open_set n p
limit_set MaxIdle n p = moves_idle_set n p
limit_set MaxLife n p = moves_lifetime_set n p
limit_set MaxIdleTime n p = moves_idle_time_set n p

-- Returns the moves that follow if this moment or limit is set.
abbrev pub controlled : Control → Pooled → List Move
controlled (Tick now) p = moves_ticked now p
controlled (Set setting n) p = limit_set setting n p

-- Returns the fate of connection c by its journal: the driver said that it is bad, or its test has just failed.
abbrev pub fate : List Event → ℕ → Fate
fate before c = fate_when (went_bad (journal before c)) (ends_invalid (journal before c))

-- Returns the moves that follow if connection c is given back.
abbrev pub given_back : List Event → ℕ → List Move
given_back before c = moves_given_back (fate before c) c (pool before)

-- Returns the moves that follow if a connection leaves its call by this move.
abbrev pub leaving : List Event → Move → List Move
leaving before (Back c) = given_back before c
leaving before (CloseStart c cause) = given_back before c
leaving before move = []

-- Returns the moves that remain after a move: of those that the pool owed, or of those that follow if a
-- connection leaves its call.
abbrev pub left_of : List Event → Move → List Move → List Move
left_of before move (due ∷ later) = later
left_of before move [] = drop 1 (leaving before move)

-- Returns the moves that the pool still has to make, in their order. A connection's answer, a moment, a limit,
-- the close or the end of the run made them due.
abbrev pub owed : List Event → List Move
owed [] = []
owed (Entered client n DbClose ∷ before) = moves_closed (pool before)
owed (Heard e ∷ before) = answered e.answer e.conn (pool before) (place before e.conn)
owed (Pool move ∷ before) = left_of before move (owed before)
owed (Ticked now ∷ before) = controlled (Tick now) (pool before)
owed (SetLimit setting n ∷ before) = controlled (Set setting n) (pool before)
owed (Ended ∷ before) = moves_closed (pool before)
owed (_ ∷ before) = []
