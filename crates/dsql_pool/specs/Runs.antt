-- Calls on the pool, one after another, with their answers.
use Rattle.std.specs.Prelude.{◌≡◌, ℕ, ℤ, Bool, true, ◌&&◌, List, [], ◌∷◌, Result}
use Rattle.dsql_wait.specs.declared.request.Request.{Request}
use Rattle.dsql_pool.specs.declared.moves.Move.{Move}
use Rattle.dsql_pool.specs.declared.moves.Fate.{Fate}
use Rattle.dsql_pool.specs.declared.request.Asked.{Asked}
use Rattle.dsql_pool.specs.declared.request.AskFault.{AskFault}
use Rattle.dsql_pool.specs.declared.stats.Stats.{Stats}
use Rattle.dsql_pool.specs.Places.{is_idle, is_lent, is_opening, is_closing}
use Rattle.dsql_pool.specs.Pooled.{Pooled, place_at, stats}
use Rattle.dsql_pool.specs.Moved.{made, withdrawn, shut, ticked}
use Rattle.dsql_pool.specs.Decisions.{ask_outcome}
use Rattle.dsql_pool.specs.Calls as calls
use Rattle.dsql_pool.specs.Rest.{is_at_rest}

pub data Call : Type 0 where
  Ask : Request → Call
  Opened : ℕ → Call
  OpenFailed : ℕ → Call
  GiveBack : Fate → ℕ → Call
  LendHouse : ℕ → Call
  GoneFrom : ℕ → Call
  Withdraw : ℕ → Call
  SetOpen : ℤ → Call
  SetIdle : ℤ → Call
  SetLifetime : ℤ → Call
  SetIdleTime : ℤ → Call
  Tick : ℕ → Call
  Close : Call
  Read : Call

pub data Answer : Type 0 where
  Becomes : Result Asked AskFault → Answer
  Makes : List Move → Answer
  Wanted : Bool → Answer
  Shows : Stats → Answer

-- Holds if the call may be made now.
abbrev pub May : Call → Pooled → Type 0
May (Ask r) p = calls.MayAsk r p
May (Opened c) p = is_opening (place_at p c) ≡ true
May (OpenFailed c) p = is_opening (place_at p c) ≡ true
May (GiveBack fate c) p = is_lent (place_at p c) ≡ true
May (LendHouse c) p = is_idle (place_at p c) ≡ true
May (GoneFrom c) p = is_closing (place_at p c) ≡ true
May _ p = Unit {0}

abbrev pub answer : Call → Pooled → Answer
answer (Ask r) p = Becomes (ask_outcome r p)
answer (Opened c) p = Makes (calls.moves_opened c p)
answer (OpenFailed c) p = Makes (calls.moves_failed c p)
answer (GiveBack fate c) p = Makes (calls.moves_given_back fate c p)
answer (LendHouse c) p = Makes (calls.moves_lent_house c p)
answer (GoneFrom c) p = Makes (calls.moves_gone c p)
answer (Withdraw n) p = Wanted (calls.wants n p)
answer (SetOpen n) p = Makes (calls.moves_open_set n p)
answer (SetIdle n) p = Makes (calls.moves_idle_set n p)
answer (SetLifetime d) p = Makes (calls.moves_lifetime_set d p)
answer (SetIdleTime d) p = Makes (calls.moves_idle_time_set d p)
answer (Tick now) p = Makes (calls.moves_ticked now p)
answer Close p = Makes (calls.moves_closed p)
answer Read p = Shows (stats p)

-- Returns the pool after a call.
abbrev pub after : Call → Pooled → Pooled
after (Ask r) p = calls.asks r p
after (Opened c) p = made (calls.moves_opened c p) p
after (OpenFailed c) p = made (calls.moves_failed c p) p
after (GiveBack fate c) p = made (calls.moves_given_back fate c p) p
after (LendHouse c) p = made (calls.moves_lent_house c p) p
after (GoneFrom c) p = made (calls.moves_gone c p) p
after (Withdraw n) p = withdrawn n p
after (SetOpen n) p = made (calls.moves_open_set n p) (calls.open_set n p)
after (SetIdle n) p = made (calls.moves_idle_set n p) (calls.idle_set n p)
after (SetLifetime d) p = made (calls.moves_lifetime_set d p) (calls.lifetime_set d p)
after (SetIdleTime d) p = made (calls.moves_idle_time_set d p) (calls.idle_time_set d p)
after (Tick now) p = made (calls.moves_ticked now p) (ticked now p)
after Close p = made (calls.moves_closed p) (shut p)
after Read p = p

-- Holds if each call may be made after those before it.
abbrev pub AllMay : List Call → Pooled → Type 0
AllMay [] p = Unit {0}
AllMay (call ∷ later) p = May call p × AllMay later (after call p)

-- Returns the answer of each call.
abbrev pub answers : List Call → Pooled → List Answer
answers [] p = []
answers (call ∷ later) p = answer call p ∷ answers later (after call p)

-- Returns the pool after all calls.
abbrev pub after_all : List Call → Pooled → Pooled
after_all [] p = p
after_all (call ∷ later) p = after_all later (after call p)

-- Is true if the pool is at rest after each call.
abbrev pub all_rest : List Call → Pooled → Bool
all_rest [] p = true
all_rest (call ∷ later) p = is_at_rest (after call p) && all_rest later (after call p)
