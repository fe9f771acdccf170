-- What is kept for each connection since it was lent. A connection starts with nothing when its opening begins
-- and at each lending; each answer that is heard there adds to it.
use Rattle.std.specs.Prelude.{ℕ, List, [], ◌∷◌, ◌++◌, slice_set, slice_index_or}
use Rattle.dsql_laws.specs.journal.declared.entry.Entry.{Entry}
use Rattle.dsql_laws.specs.pool.declared.moves.Move.TheVariants.{OpenStart, Lend}
use Rattle.dsql_laws.specs.history.declared.event.Event.{Event}
use Rattle.dsql_laws.specs.history.declared.event.Event.TheVariants.{Heard, Pool}

-- Returns what is kept for each connection, by its number.
abbrev pub all_there : {A : Type 0} → A → (Entry → A → A) → List Event → List A
all_there nothing more [] = nothing ∷ []
all_there nothing more (Pool (OpenStart c n) ∷ before) = all_there nothing more before ++ nothing ∷ []
all_there nothing more (Pool (Lend c tenure owner n) ∷ before) = slice_set (all_there nothing more before) c nothing
all_there nothing more (Heard e ∷ before) =
    slice_set (all_there nothing more before) e.conn
    (more e (slice_index_or (all_there nothing more before) e.conn nothing))
all_there nothing more (_ ∷ before) = all_there nothing more before

abbrev pub there : {A : Type 0} → A → (Entry → A → A) → List Event → ℕ → A
there nothing more before c = slice_index_or (all_there nothing more before) c nothing
