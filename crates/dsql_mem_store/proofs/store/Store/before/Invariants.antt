use Rattle.std.proofs.Common.{◌≡◌, reverse, length}
use Rattle.dsql_mem_store.specs.Undo.{rolled_back}
use Rattle.dsql_mem_store.proofs.store.Store.before.Given as goal

-- Restoring the notes that are left in the restored store gives the same store as restoring all notes in
-- `self`.
abbrev pub invariant-loop-newest : goal.invariant-loop-newest
invariant-loop-newest l = rolled_back (reverse l.left) l.restored ≡ rolled_back (reverse l.notes) l.self

abbrev pub decreases-loop-newest : goal.decreases-loop-newest
decreases-loop-newest l = length l.left
