-- What was heard on each connection since it was lent, as far as the next driver call depends on it.
use Rattle.std.specs.Prelude.{ℕ, List, [], ◌∷◌, ◌++◌, slice_set}
use Rattle.dsql_engine_exchanged.specs.Exchanged.{unheard, then_heard}
use Rattle.dsql_laws_calls.specs.journal.declared.entry.Entry.{Entry}
use Rattle.dsql_laws_calls.specs.journal.Kinds.{number_of}
use Rattle.dsql_laws_calls.specs.pool.declared.moves.Move.{Move}
use Rattle.dsql_laws_calls.specs.pool.declared.moves.Move.TheVariants.{OpenStart, Lend}
use Rattle.dsql_laws_calls.specs.There.{all_there, there}
use Rattle.dsql_engine_exchanged.specs.Beginning.{unbegun, begun_if}
use Rattle.dsql_engine_exchanged.specs.Ending.{unended, then_ended}
use Rattle.dsql_laws_calls.specs.history.declared.event.Event.{Event}
use Rattle.dsql_engine_lines.specs.declared.there.HeardThere.{HeardThere}

abbrev pub nothing_there : HeardThere
nothing_there = record { made = unheard; beginning = unbegun; ending = unended }

-- Returns the record of the connection with one more answer.
abbrev pub then_there : Entry → HeardThere → HeardThere
then_there e it =
    record {
      made = then_heard e it.made;
      beginning = begun_if (number_of e.owner) e it.beginning;
      ending = then_ended e it.ending;
    }

-- Returns what was heard on each connection since it was lent, by the connection's number.
abbrev pub heard_there : List Event → List HeardThere
heard_there before = all_there nothing_there then_there before

abbrev pub heard_on : List Event → ℕ → HeardThere
heard_on before c = there nothing_there then_there before c

-- Returns what was heard on each connection since it was lent, after a move.
abbrev pub lent_by : Move → List HeardThere → List HeardThere
lent_by (OpenStart c n) heard = heard ++ nothing_there ∷ []
lent_by (Lend c tenure owner n) heard = slice_set heard c nothing_there
lent_by _ heard = heard

abbrev pub lent_by_all : List Move → List HeardThere → List HeardThere
lent_by_all [] heard = heard
lent_by_all (move ∷ moves) heard = lent_by_all moves (lent_by move heard)
