-- The connections on which the layer tidies up.
use Rattle.std.specs.Prelude.{ℕ, ◌==◌, Bool, false, Option, Some}
use Rattle.dsql_laws.specs.journal.Kinds.{number_of}
use Rattle.dsql_laws.specs.pool.declared.conn.Place.{Place}
use Rattle.dsql_laws.specs.pool.declared.conn.Place.TheVariants.{Lent}

-- Is true if a connection in this place is lent to call n, or to the transaction that call n began.
abbrev pub is_lent_for : ℕ → Option Place → Bool
is_lent_for n (Some (Lent tenure owner)) = number_of owner == n
is_lent_for n _ = false
