-- What the pool promises, as laws.
use Rattle.std.specs.Prelude.{ℕ, ◌≡◌, ◌≤◌, ◌<◌, ◌+◌, Bool, true, false, List, [], ◌∷◌, ◌++◌, count_by, Some, None, Ok, Err}
use Rattle.dsql_wait.specs.declared.request.Request.{Request}
use Rattle.dsql_pool.specs.declared.conn.Place.TheVariants.{Opening}
use Rattle.dsql_pool.specs.declared.moves.CloseCause.TheVariants.{IdleFull, IdleTime, Lifetime}
use Rattle.dsql_pool.specs.declared.moves.Fate.{Fate}
use Rattle.dsql_pool.specs.declared.moves.Move.{Move}
use Rattle.dsql_pool.specs.declared.moves.Move.TheVariants.{Lend, Back, CloseStart}
use Rattle.dsql_pool.specs.declared.moves.Outcome.TheVariants.{Serves, Rests}
use Rattle.dsql_pool.specs.declared.request.Asked.TheVariants as asked
use Rattle.dsql_pool.specs.declared.request.AskFault.TheVariants.{TooMany}
use Rattle.dsql_pool.specs.Counted.{saturated, largest_total}
use Rattle.dsql_pool.specs.Pooled.{Pooled, fresh, place_at, open_count, next_number, next_tenure, is_limited, most_open, most_allowed}
use Rattle.dsql_pool.specs.Moved.{made, begun, joined}
use Rattle.dsql_pool.specs.Decisions.{takes_idle, ask_outcome, due_openings, openings, when_good, when_given_back, when_unwanted, falls_to}
use Rattle.dsql_pool.specs.Calls.{moves_given_back, moves_opened}
use Rattle.dsql_pool.specs.Rest.{AtRest}
use Rattle.dsql_pool.specs.Runs.{Call, May, AllMay, after, after_all}

-- Holds if, after an opening has begun, at most as many connections are open as may be.
pub record OpensAsAllowed : Type 0 where
  -- The opening is one that begins for a request.
  pub for_a_request : (r : Request) (p : Pooled) (c : ℕ) → ask_outcome r p ≡ Ok (asked.Opening c)
      → open_count (begun (Some r.owner) p) ≤ most_allowed p
  -- The opening is any of those that begin for requests that wait.
  pub for_waiting : (p : Pooled) (k : ℕ) → k < due_openings p
      → open_count (made (openings (k + 1) (next_number p)) p) ≤ most_allowed p

-- Holds if a request waits only if it may take no idle connection and as many connections are open as may be.
pub record WaitsOnlyAtTheLimit : Type 0 where
  pub none_idle : (r : Request) (p : Pooled) → ask_outcome r p ≡ Ok asked.Queued → takes_idle r p ≡ false
  pub all_open : (r : Request) (p : Pooled) → ask_outcome r p ≡ Ok asked.Queued → most_allowed p ≤ open_count p
  pub still_open : (r : Request) (p : Pooled) → ask_outcome r p ≡ Ok asked.Queued → p.closed ≡ false
  -- A request is refused only if no limit lets it wait.
  pub refused : (r : Request) (p : Pooled) → ask_outcome r p ≡ Err TooMany → (is_limited p ≡ false)
      × (most_open ≤ open_count p)

-- Holds if a connection that serves a waiting request serves the one that came first.
pub record ServesTheOldest : Type 0 where
  pub given_back : (fate : Fate) (c : ℕ) (p : Pooled) (r : Request) (rs : List Request) → p.waiting ≡ r ∷ rs
      → when_given_back fate c p ≡ Serves → moves_given_back fate c p
      ≡ Back c ∷ Lend c (next_tenure p c) r.owner r.call ∷ []
  pub opened : (c : ℕ) (p : Pooled) (r : Request) (rs : List Request) → p.waiting ≡ r ∷ rs
      → place_at p c ≡ Some (Opening None) → when_unwanted p ≡ Serves
      → moves_opened c p ≡ Lend c (next_tenure p c) r.owner r.call ∷ []
  pub fell : (c : ℕ) (p : Pooled) (r : Request) (rs : List Request) → p.waiting ≡ r ∷ rs
      → place_at p c ≡ Some (Opening None) → falls_to (place_at p c) p ≡ r.call
  -- A request that joins waits after the others.
  pub joins_last : (r : Request) (p : Pooled) → (joined r p).waiting ≡ p.waiting ++ r ∷ []
  -- No connection becomes idle while a request waits.
  pub none_rests : (expired : Bool) (p : Pooled) → when_good expired p ≡ Rests → p.waiting ≡ []

abbrev pub is_idle_full : Move → Bool
is_idle_full (CloseStart c IdleFull) = true
is_idle_full _ = false

abbrev pub is_idle_time : Move → Bool
is_idle_time (CloseStart c IdleTime) = true
is_idle_time _ = false

abbrev pub is_lifetime : Move → Bool
is_lifetime (CloseStart c Lifetime) = true
is_lifetime _ = false

-- Holds if the figures count the moves, each once, and stay at the largest value of their type.
pub record FiguresCountTheMoves : Type 0 where
  pub idle_full : (ms : List Move) (p : Pooled) → p.counts.idle_full ≤ largest_total → (made ms p).counts.idle_full
      ≡ saturated (p.counts.idle_full + count_by is_idle_full ms)
  pub idle_time : (ms : List Move) (p : Pooled) → p.counts.idle_time ≤ largest_total → (made ms p).counts.idle_time
      ≡ saturated (p.counts.idle_time + count_by is_idle_time ms)
  pub lifetime : (ms : List Move) (p : Pooled) → p.counts.lifetime ≤ largest_total → (made ms p).counts.lifetime
      ≡ saturated (p.counts.lifetime + count_by is_lifetime ms)
  -- A request that joins is counted, and no move is.
  pub waits : (ms : List Move) (p : Pooled) → (made ms p).counts.waits ≡ p.counts.waits
  pub joined : (r : Request) (p : Pooled) → (joined r p).counts.waits ≡ saturated (p.counts.waits + 1)

-- Holds if a pool is at rest at first, and after every call that may be made.
pub record RestsAfterEachCall : Type 0 where
  pub at_first : AtRest fresh
  pub after_a_call : (call : Call) (p : Pooled) → AtRest p → May call p → AtRest (after call p)
  pub after_all_calls : (calls : List Call) → AllMay calls fresh → AtRest (after_all calls fresh)
