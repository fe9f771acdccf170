-- What happens to a connection that is given back: the first cause that holds.
use Rattle.std.specs.Prelude.{◌≡◌, pos, [], ◌∷◌, ◌++◌, Some, Ok}
use Rattle.std.specs.Option.{option_map}
use Rattle.dsql_tenure_journal.specs.declared.entry.Owner.TheVariants.{Call as ForCall, House}
use Rattle.dsql_pool.specs.declared.moves.CloseCause.TheVariants as for
use Rattle.dsql_pool.specs.declared.moves.Move.TheVariants.{Lend, Back, CloseStart}
use Rattle.dsql_pool.specs.declared.moves.Fate.TheVariants as fate
use Rattle.dsql_pool.specs.declared.request.Asked.TheVariants as asked
use Rattle.dsql_pool.specs.Places.{conn_of, lends_of}
use Rattle.dsql_pool.specs.Runs.{GiveBack, LendHouse, SetOpen, SetIdle, SetLifetime, Tick, Close, Becomes, Makes, answer}
use Rattle.dsql_pool.specs.Worked.Words.{try, third_try, two_lent, two_idle, two_wait, from_start}

pub record WorkedReturns : Type 0 where
  -- All causes hold.
  pub bad : answer (GiveBack fate.Bad 1) (from_start (two_lent
      ++ SetOpen (pos 1) ∷ try 3 ∷ SetLifetime (pos 5) ∷ Tick 9 ∷ Close ∷ [])) ≡ Makes (CloseStart 1 for.Bad ∷ [])
  pub invalid : answer (GiveBack fate.Invalid 1) (from_start (two_lent
      ++ SetOpen (pos 1) ∷ try 3 ∷ SetLifetime (pos 5) ∷ Tick 9 ∷ Close ∷ []))
      ≡ Makes (CloseStart 1 for.Invalid ∷ [])
  pub discarded : answer (GiveBack fate.Discarded 1) (from_start (two_lent
      ++ SetOpen (pos 1) ∷ try 3 ∷ SetLifetime (pos 5) ∷ Tick 9 ∷ Close ∷ []))
      ≡ Makes (CloseStart 1 for.Discarded ∷ [])
  pub lifetime : answer (GiveBack fate.Good 1) (from_start (two_lent
      ++ SetOpen (pos 1) ∷ try 3 ∷ SetLifetime (pos 5) ∷ Tick 9 ∷ Close ∷ []))
      ≡ Makes (CloseStart 1 for.Lifetime ∷ [])
  pub closed : answer (GiveBack fate.Good 1) (from_start (two_lent ++ SetOpen (pos 1) ∷ Close ∷ []))
      ≡ Makes (CloseStart 1 for.DbClosed ∷ [])
  -- It closes though a request waits.
  pub over_limit : answer (GiveBack fate.Good 1) (from_start (two_lent ++ SetOpen (pos 1) ∷ try 3 ∷ []))
      ≡ Makes (CloseStart 1 for.OverLimit ∷ [])
  -- The oldest request gets it, though none may be idle.
  pub serves : answer (GiveBack fate.Good 1) (from_start (two_wait ++ SetIdle (pos 0) ∷ []))
      ≡ Makes (Back 1 ∷ Lend 1 3 (ForCall 2) 2 ∷ [])
  pub serves_a_third_try : answer (GiveBack fate.Good 1) (from_start (two_idle
      ++ SetOpen (pos 2) ∷ third_try 3 ∷ try 4 ∷ [])) ≡ Makes (Back 1 ∷ Lend 1 4 (ForCall 3) 3 ∷ [])
  pub rests : answer (GiveBack fate.Good 1) (from_start (two_lent)) ≡ Makes (Back 1 ∷ [])
  -- As many are idle as may be.
  pub idle_full : answer (GiveBack fate.Good 2) (from_start (two_lent
      ++ SetIdle (pos 1) ∷ GiveBack fate.Good 1 ∷ [])) ≡ Makes (CloseStart 2 for.IdleFull ∷ [])
  -- The house borrows an idle connection, and gives it back as the last one.
  pub lent_to_the_house : answer (LendHouse 2) (from_start (two_idle)) ≡ Makes (Lend 2 3 House 0 ∷ [])
  -- The connection is lent once more, and used no oftener.
  pub house_lends : lends_of 2 (from_start (two_idle ++ LendHouse 2 ∷ [])).conns ≡ 2
  pub house_uses_none : option_map (λ conn. conn.uses) (conn_of 2 (from_start (two_idle
      ++ LendHouse 2 ∷ [])).conns) ≡ Some 1
  pub house_gives_back : answer (try 3) (from_start (two_idle ++ LendHouse 2 ∷ GiveBack fate.Good 2 ∷ []))
      ≡ Becomes (Ok (asked.Lent 2 4))
  pub house_serves : answer (GiveBack fate.Good 2) (from_start (two_idle
      ++ SetOpen (pos 2) ∷ third_try 3 ∷ LendHouse 2 ∷ [])) ≡ Makes (Back 2 ∷ Lend 2 4 (ForCall 3) 3 ∷ [])
