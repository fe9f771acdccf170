-- The lent connections except one.
use Rattle.std.specs.Prelude.{ℕ, ◌≡◌, ◌≢◌, true, List, Some}
use Rattle.dsql_laws_calls.specs.journal.declared.entry.Owner.{Owner}
use Rattle.dsql_laws_calls.specs.journal.Kinds.{number_of}
use Rattle.dsql_laws_calls.specs.pool.declared.conn.Place.TheVariants.{Lent}
use Rattle.dsql_laws_calls.specs.history.declared.event.Event.{Event}
use Rattle.dsql_laws_calls.specs.history.Readers.Pool.{place}
use Rattle.dsql_laws_calls.specs.history.Rules.Settled.{is_kept}

-- Holds if each lent connection except c is in use, or a call rests with it.
abbrev pub UsedBeside : List Event → ℕ → Type 0
UsedBeside history c =
    (d u : ℕ) (owner : Owner) → place history d ≡ Some (Lent u owner) → d ≢ c → is_kept history (number_of owner) ≡ true
