-- Defines the journals of a history, each with its newest entry first.
use Rattle.std.specs.Prelude.{ℕ, ◌==◌, cond, List, [], ◌∷◌}
use Rattle.dsql_history_work.specs.journal.declared.entry.Entry.{Entry}
use Rattle.dsql_history_work.specs.journal.Readers.{of_tenure}
use Rattle.dsql_history.specs.declared.event.Event.{Event}
use Rattle.dsql_history.specs.declared.event.Event.TheVariants.{Heard}

-- Returns the entries of connection c.
abbrev pub journal : List Event → ℕ → List Entry
journal [] c = []
journal (Heard e ∷ before) c = cond (e.conn == c) (e ∷ journal before c) (journal before c)
journal (_ ∷ before) c = journal before c

-- Returns the entries of tenure t of connection c.
abbrev pub heard_in : List Event → ℕ → ℕ → List Entry
heard_in before c t = of_tenure t (journal before c)
