-- Defines what is kept of the answers heard on a connection since it was lent, as far as the next driver call
-- depends on them.
use Rattle.std.specs.Prelude.{Bool, ◌||◌, cond, List, [], ◌∷◌}
use Rattle.dsql_history.specs.driver.Kinds.{is_bad, is_valid}
use Rattle.dsql_history.specs.journal.declared.entry.Entry.{Entry}
use Rattle.dsql_history.specs.works.Exchanges.{step_of, with_exchange}
use Rattle.dsql_engine_exchanged.specs.declared.exchanged.Exchanged.{Exchanged}
use Rattle.dsql_engine_exchanged.specs.declared.exchanged.Stage.{Stage}
use Rattle.dsql_engine_exchanged.specs.declared.exchanged.Stage.TheVariants.{Fresh, Going, Over}

abbrev pub unheard : Exchanged
unheard = record { made = []; stage = Fresh }

-- Is true if nothing follows the entry, because its answer is Bad or its driver call is a test.
abbrev pub ends_line : Entry → Bool
ends_line e = is_bad e.answer || is_valid e.call

abbrev pub stage_after : Entry → Stage
stage_after e = cond (ends_line e) Over Going

-- Returns what is kept after one more answer.
abbrev pub then_heard : Entry → Exchanged → Exchanged
then_heard e it = record { made = with_exchange (step_of e.call) e.answer it.made; stage = stage_after e }

-- Returns what is kept after these entries of a tenure, newest first.
abbrev pub exchanged_in : List Entry → Exchanged
exchanged_in [] = unheard
exchanged_in (e ∷ earlier) = then_heard e (exchanged_in earlier)
