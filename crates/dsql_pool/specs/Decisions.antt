-- What the pool decides.
use Rattle.std.specs.Prelude.{ℕ, Bool, true, false, not, ◌==◌, ◌&&◌, ◌||◌, nat_lt, nat_le, if◌then◌else◌, min, zero, suc, ◌+◌, ◌-◌, List, [], ◌∷◌, map, take, length, Option, Some, None, Result, Ok, Err, slice_index_or}
use Rattle.std.specs.List.{filter_map}
use Rattle.dsql_tenure_journal.specs.Readers.{is_empty}
use Rattle.dsql_time.specs.declared.Limits.{Limits}
use Rattle.dsql_time.specs.Limits.{has_expired, has_idled_out}
use Rattle.dsql_wait.specs.declared.request.Request.{Request}
use Rattle.dsql_pool.specs.declared.conn.Place.{Place}
use Rattle.dsql_pool.specs.declared.conn.Place.TheVariants.{Opening}
use Rattle.dsql_pool.specs.declared.conn.Conn.{Conn}
use Rattle.dsql_pool.specs.declared.moves.CloseCause.{CloseCause}
use Rattle.dsql_pool.specs.declared.moves.CloseCause.TheVariants as for
use Rattle.dsql_pool.specs.declared.moves.Move.{Move}
use Rattle.dsql_pool.specs.declared.moves.Move.TheVariants.{OpenStart, Lend, Back, CloseStart}
use Rattle.dsql_pool.specs.declared.moves.Fate.{Fate}
use Rattle.dsql_pool.specs.declared.moves.Fate.TheVariants as fate
use Rattle.dsql_pool.specs.declared.moves.Outcome.{Outcome}
use Rattle.dsql_pool.specs.declared.moves.Outcome.TheVariants.{Closes, Serves, Rests}
use Rattle.dsql_pool.specs.declared.request.Asked.{Asked}
use Rattle.dsql_pool.specs.declared.request.Asked.TheVariants as asked
use Rattle.dsql_pool.specs.declared.request.AskFault.{AskFault}
use Rattle.dsql_pool.specs.declared.request.AskFault.TheVariants.{TooMany}
use Rattle.dsql_pool.specs.Places.{conn_of}
use Rattle.dsql_tenure_journal.specs.Kinds.{number_of}
use Rattle.dsql_pool.specs.Pooled.{Pooled, open_count, free_openings, next_number, next_tenure, most_open, is_limited, most_allowed}

-- Returns the last number of a list, or 0 if the list is empty.
abbrev pub last : List ℕ → ℕ
last ns = slice_index_or ns (length ns - 1) 0

-- Is true if the request may take the connection that came back last.
abbrev pub takes_idle : Request → Pooled → Bool
takes_idle r p = not r.last && not (is_empty p.idle)

-- Is true if as many connections are open as the pool takes, and no limit makes a request wait.
abbrev pub are_too_many : Pooled → Bool
are_too_many p = nat_le most_open (open_count p) && not (is_limited p)

-- Is true if the open limit allows one more connection.
abbrev pub may_open : Pooled → Bool
may_open p = (p.limits.max_open == 0) || nat_lt (open_count p) p.limits.max_open

-- Returns the outcome of a request that takes no idle connection.
abbrev pub when_none_idle : Pooled → Result Asked AskFault
when_none_idle p =
    if are_too_many p then Err TooMany
    else if may_open p then Ok (asked.Opening (next_number p))
    else Ok asked.Queued

-- Returns the outcome of a request. The last try doesn't look at idle connections.
abbrev pub ask_outcome : Request → Pooled → Result Asked AskFault
ask_outcome r p =
    if p.closed then Ok asked.Closed
    else if takes_idle r p then Ok (asked.Lent (last p.idle) (next_tenure p (last p.idle)))
    else when_none_idle p

-- Is true if the open limit is positive and more connections are open than it allows.
abbrev pub is_over_limit : Pooled → Bool
is_over_limit p = nat_lt 0 p.limits.max_open && nat_lt p.limits.max_open (open_count p)

-- Returns what happens to a connection that nothing closes. The oldest request gets it. If none waits, it
-- becomes idle if fewer are idle than the idle limit.
abbrev pub when_kept : Pooled → Outcome
when_kept p =
    if not (is_empty p.waiting) then Serves
    else if nat_lt (length p.idle) p.limits.max_idle then Rests
    else Closes for.IdleFull

-- Returns what happens to a connection that nothing is said against.
abbrev pub when_good : Bool → Pooled → Outcome
when_good expired p =
    if expired then Closes for.Lifetime
    else if p.closed then Closes for.DbClosed
    else if is_over_limit p then Closes for.OverLimit
    else when_kept p

-- Is true if the connection was opened and has lived longer than it may.
abbrev pub is_expired : Pooled → Option Conn → Bool
is_expired p None = false
is_expired p (Some conn) = has_expired conn.created p.limits.lifetime p.moment

-- Returns what happens to a connection that is given back.
abbrev pub when_given_back : Fate → ℕ → Pooled → Outcome
when_given_back fate.Bad c p = Closes for.Bad
when_given_back fate.Invalid c p = Closes for.Invalid
when_given_back fate.Discarded c p = Closes for.Discarded
when_given_back fate.Good c p = when_good (is_expired p (conn_of c p.conns)) p

-- Returns what happens to a connection that was opened and isn't wanted. It was opened at the present moment,
-- so it hasn't expired.
abbrev pub when_unwanted : Pooled → Outcome
when_unwanted p = when_good false p

-- Returns the move that lends the connection, in this tenure, to the request that has waited longest, if one
-- waits.
abbrev pub lends_to_oldest : ℕ → ℕ → List Request → List Move
lends_to_oldest c tenure [] = []
lends_to_oldest c tenure (r ∷ rs) = Lend c tenure r.owner r.call ∷ []

-- Returns the moves of a connection that was lent: unless it closes, it is given back first.
abbrev pub moves_back : ℕ → Pooled → Outcome → List Move
moves_back c p (Closes cause) = CloseStart c cause ∷ []
moves_back c p Serves = Back c ∷ lends_to_oldest c (next_tenure p c) p.waiting
moves_back c p Rests = Back c ∷ []

-- Returns the moves of a connection that was being opened: if it serves a request, it is lent at once.
abbrev pub moves_unwanted : ℕ → Pooled → Outcome → List Move
moves_unwanted c p (Closes cause) = CloseStart c cause ∷ []
moves_unwanted c p Serves = lends_to_oldest c (next_tenure p c) p.waiting
moves_unwanted c p Rests = Back c ∷ []

-- Returns the moves of an opened connection. It goes to the request for which it was opened, while that wants
-- it.
abbrev pub when_opened : Option Place → ℕ → Pooled → List Move
when_opened (Some (Opening (Some owner))) c p = Lend c (next_tenure p c) owner (number_of owner) ∷ []
when_opened (Some (Opening None)) c p = moves_unwanted c p (when_unwanted p)
when_opened _ c p = []

-- Returns the call of the oldest request, or 0 if none waits.
abbrev pub oldest_call : List Request → ℕ
oldest_call [] = 0
oldest_call (r ∷ rs) = r.call

-- Returns the call to which a refused Connect falls. That is the call for which the connection was opened,
-- while it wants the connection. Otherwise it is the oldest call that waits, and 0 if there is none.
abbrev pub falls_to : Option Place → Pooled → ℕ
falls_to (Some (Opening (Some owner))) p = number_of owner
falls_to (Some (Opening None)) p = oldest_call p.waiting
falls_to _ p = 0

-- Returns openings for no request of their own, numbered from c.
abbrev pub openings : ℕ → ℕ → List Move
openings zero c = []
openings (suc k) c = OpenStart c 0 ∷ openings k (c + 1)

-- Returns how many openings are due. That is the waiting requests less the openings under way for no request of their
-- own, as far as the open limit allows.
abbrev pub due_openings : Pooled → ℕ
due_openings p = min (length p.waiting - free_openings p) (most_allowed p - open_count p)

abbrev pub openings_for_waiting : Pooled → List Move
openings_for_waiting p = openings (due_openings p) (next_number p)

-- Is true if the move begins to close a connection.
abbrev pub starts_closing : Move → Bool
starts_closing (CloseStart c cause) = true
starts_closing _ = false

-- Returns the closings of the idle connections above the idle limit, the longest idle first.
abbrev pub closings_of_setting : Pooled → List Move
closings_of_setting p = map (λ c. CloseStart c for.IdleFull) (take (length p.idle - p.limits.max_idle) p.idle)

-- Returns why a connection is past its time, if it is. The idle time is looked at first.
abbrev pub cause_at : Limits → ℕ → Option Conn → Option CloseCause
cause_at limits moment None = None
cause_at limits moment (Some conn) =
    if has_idled_out conn.returned limits.idle_time moment then Some for.IdleTime
    else if has_expired conn.created limits.lifetime moment then Some for.Lifetime
    else None

abbrev pub closing_for : ℕ → Option CloseCause → Option Move
closing_for c None = None
closing_for c (Some cause) = Some (CloseStart c cause)

abbrev pub closing_at : Limits → ℕ → List Conn → ℕ → Option Move
closing_at limits moment conns c = closing_for c (cause_at limits moment (conn_of c conns))

-- Returns the closings of the idle connections that are past their time, the longest idle first.
abbrev pub closings_of_tick : Pooled → List Move
closings_of_tick p = filter_map (closing_at p.limits p.moment p.conns) p.idle

-- Returns the closings of all idle connections, the longest idle first.
abbrev pub closings_of_close : Pooled → List Move
closings_of_close p = map (λ c. CloseStart c for.DbClosed) p.idle
