-- The moves of each call on the pool, and the pool after it.
use Rattle.std.specs.Prelude.{ℕ, ℤ, ◌≡◌, ◌<◌, Bool, false, ◌||◌, List, [], ◌∷◌, ◌++◌, Some, Result, Ok}
use Rattle.std.specs.List.{list_any}
use Rattle.dsql_tenure_journal.specs.declared.entry.Owner.TheVariants.{House}
use Rattle.dsql_tenure_journal.specs.Kinds.{is_house, number_of}
use Rattle.dsql_wait.specs.declared.request.Request.{Request}
use Rattle.dsql_wait.specs.Requests.{waits}
use Rattle.dsql_pool.specs.declared.moves.Move.{Move}
use Rattle.dsql_pool.specs.declared.moves.Move.TheVariants.{OpenStart, Lend, Gone, Fell}
use Rattle.dsql_pool.specs.declared.moves.Fate.{Fate}
use Rattle.dsql_pool.specs.declared.request.Asked.{Asked}
use Rattle.dsql_pool.specs.declared.request.Asked.TheVariants as asked
use Rattle.dsql_pool.specs.declared.request.AskFault.{AskFault}
use Rattle.dsql_pool.specs.Places.{is_for}
use Rattle.dsql_pool.specs.Pooled.{Pooled, place_at, next_tenure}
use Rattle.dsql_pool.specs.Moved.{moved, made, begun, joined, limited, with_open, with_idle, with_lifetime, with_idle_time, ticked, shut}
use Rattle.dsql_pool.specs.Decisions.{ask_outcome, when_given_back, moves_back, when_opened, falls_to, openings_for_waiting, closings_of_setting, closings_of_tick, closings_of_close}

-- Is true if the call waits, or a connection is being opened for it.
abbrev pub wants : ℕ → Pooled → Bool
wants call p = waits call p.waiting || list_any (λ conn. is_for call conn.place) p.conns

-- Holds if the request may be made now: its call is an owner's, and the call wants nothing yet.
pub record MayAsk (r : Request) (p : Pooled) : Type 0 where
  pub owner : is_house r.owner ≡ false
  pub call : number_of r.owner ≡ r.call
  pub numbered : 0 < r.call
  pub new : wants r.call p ≡ false
  pub asked : r.asked ≡ p.moment

-- Returns the moves, followed by the openings that they leave due.
abbrev pub then_openings : List Move → Pooled → List Move
then_openings ms p = ms ++ openings_for_waiting (made ms p)

-- Returns the moves of a request that has this outcome.
abbrev pub moves_asked : Request → Result Asked AskFault → List Move
moves_asked r (Ok (asked.Lent c tenure)) = Lend c tenure r.owner r.call ∷ []
moves_asked r (Ok (asked.Opening c)) = OpenStart c r.call ∷ []
moves_asked r _ = []

-- Returns the pool after a request with this outcome.
abbrev pub after_asked : Request → Result Asked AskFault → Pooled → Pooled
after_asked r (Ok (asked.Lent c tenure)) p = moved (Lend c tenure r.owner r.call) p
after_asked r (Ok (asked.Opening c)) p = begun (Some r.owner) p
after_asked r (Ok asked.Queued) p = joined r p
after_asked r _ p = p

abbrev pub asks : Request → Pooled → Pooled
asks r p = after_asked r (ask_outcome r p) p

abbrev pub moves_opened : ℕ → Pooled → List Move
moves_opened c p = when_opened (place_at p c) c p

abbrev pub moves_failed : ℕ → Pooled → List Move
moves_failed c p = then_openings (Fell c (falls_to (place_at p c) p) ∷ []) p

abbrev pub moves_given_back : Fate → ℕ → Pooled → List Move
moves_given_back fate c p = moves_back c p (when_given_back fate c p)

abbrev pub moves_lent_house : ℕ → Pooled → List Move
moves_lent_house c p = Lend c (next_tenure p c) House 0 ∷ []

abbrev pub moves_gone : ℕ → Pooled → List Move
moves_gone c p = then_openings (Gone c ∷ []) p

-- Returns the pool with the open limit set, before the moves that this causes.
abbrev pub open_set : ℤ → Pooled → Pooled
open_set n p = limited (with_open n p.limits) p

abbrev pub moves_open_set : ℤ → Pooled → List Move
moves_open_set n p = then_openings (closings_of_setting (open_set n p)) (open_set n p)

abbrev pub idle_set : ℤ → Pooled → Pooled
idle_set n p = limited (with_idle n p.limits) p

abbrev pub moves_idle_set : ℤ → Pooled → List Move
moves_idle_set n p = closings_of_setting (idle_set n p)

abbrev pub lifetime_set : ℤ → Pooled → Pooled
lifetime_set d p = limited (with_lifetime d p.limits) p

abbrev pub moves_lifetime_set : ℤ → Pooled → List Move
moves_lifetime_set d p = closings_of_tick (lifetime_set d p)

abbrev pub idle_time_set : ℤ → Pooled → Pooled
idle_time_set d p = limited (with_idle_time d p.limits) p

abbrev pub moves_idle_time_set : ℤ → Pooled → List Move
moves_idle_time_set d p = closings_of_tick (idle_time_set d p)

abbrev pub moves_ticked : ℕ → Pooled → List Move
moves_ticked now p = closings_of_tick (ticked now p)

abbrev pub moves_closed : Pooled → List Move
moves_closed p = closings_of_close (shut p)
