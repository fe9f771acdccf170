-- Defines bounds on how many moves become due at once.
use Rattle.std.specs.Prelude.{ℕ, ◌+◌}
use Rattle.dsql_laws.specs.pool.Pooled.{most_open}

-- Returns the most moves that one event makes due. That is a closing for each connection that may be idle, and an
-- opening for each that may be open.
abbrev pub most_moves : ℕ
most_moves = most_open + most_open

-- Returns the most moves that follow if a connection is given back: it becomes idle, and is lent again.
abbrev pub most_given_back : ℕ
most_given_back = 2
