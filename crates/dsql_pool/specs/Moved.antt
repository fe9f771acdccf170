-- The pool after each thing that happens.
use Rattle.std.specs.Prelude.{ℕ, ℤ, true, max, ◌+◌, List, [], ◌∷◌, ◌++◌, map, fold, Option, None}
use Rattle.dsql_tenure_journal.specs.declared.entry.Owner.{Owner}
use Rattle.dsql_time.specs.declared.Limits.{Limits}
use Rattle.dsql_time.specs.Limits.{count_limit, duration_limit, idle_limit}
use Rattle.dsql_wait.specs.declared.request.Request.{Request}
use Rattle.dsql_wait.specs.Requests.{request_of, without_call}
use Rattle.dsql_pool.specs.declared.moves.Move.{Move}
use Rattle.dsql_pool.specs.declared.moves.Move.TheVariants.{OpenStart, Lend, Back, CloseStart, Gone, Fell}
use Rattle.dsql_pool.specs.Counted.{closed_for, one_waits, with_wait, wait_over}
use Rattle.dsql_pool.specs.Changes.{conn_changed, opening, lent, back, closing, gone, unwanted_by, unwanted}
use Rattle.dsql_pool.specs.Pooled.{Pooled, next_number, without}

-- Returns the pool after the wait of a call has ended, if it waited.
abbrev pub left : ℕ → Pooled → Pooled
left call p =
    record p { waiting = without_call call p.waiting; counts = wait_over p.moment (request_of call p.waiting) p.counts }

-- Returns the pool after an opening has begun, for the request of an owner or for no request of its own.
abbrev pub begun : Option Owner → Pooled → Pooled
begun wanted p =
    record p { conns = p.conns ++ opening (next_number p) wanted ∷ []; opened = p.opened + 1; drawn = p.drawn + 1 }

-- Returns the pool after connection c was lent, whoever waits.
abbrev pub lent_out : ℕ → ℕ → Owner → Pooled → Pooled
lent_out c tenure owner p =
    record p {
      conns = conn_changed c (lent tenure owner p.moment) p.conns;
      idle = without c p.idle;
      drawn = p.drawn + 1;
    }

-- Returns the pool after a move. An opening that the pool begins by itself is for no request of its own; one
-- for a request is `begun` for its owner.
abbrev pub moved : Move → Pooled → Pooled
moved (OpenStart c n) p = begun None p
moved (Lend c tenure owner n) p = left n (lent_out c tenure owner p)
moved (Back c) p = record p { conns = conn_changed c (back p.moment) p.conns; idle = p.idle ++ c ∷ [] }
moved (CloseStart c cause) p =
    record p { conns = conn_changed c closing p.conns; idle = without c p.idle; counts = closed_for cause p.counts }
moved (Gone c) p = record p { conns = gone c p.conns }
moved (Fell c n) p = left n (record p { conns = gone c p.conns })

-- Returns the pool after the moves, made one after another.
abbrev pub made : List Move → Pooled → Pooled
made [] p = p
made (m ∷ ms) p = made ms (moved m p)

-- Returns the pool after a request has joined those that wait and its wait was counted.
abbrev pub joined : Request → Pooled → Pooled
joined r p = record p { waiting = p.waiting ++ r ∷ []; counts = one_waits p.counts }

-- Returns the pool after the call has stopped wanting a connection.
abbrev pub withdrawn : ℕ → Pooled → Pooled
withdrawn call p = left call (record p { conns = map (unwanted_by call) p.conns })

-- Returns the pool after the database was closed: no request waits, and no opening is for a request.
abbrev pub shut : Pooled → Pooled
shut p =
    record p {
      conns = map unwanted p.conns;
      waiting = [];
      counts = record p.counts { waited = fold (with_wait p.moment) p.counts.waited p.waiting };
      closed = true;
    }

abbrev pub limited : Limits → Pooled → Pooled
limited limits p = record p { limits = limits }

abbrev pub with_open : ℤ → Limits → Limits
with_open n limits = record limits { max_open = count_limit n; max_idle = idle_limit (count_limit n) limits.max_idle }

abbrev pub with_idle : ℤ → Limits → Limits
with_idle n limits = record limits { max_idle = idle_limit limits.max_open (count_limit n) }

abbrev pub with_lifetime : ℤ → Limits → Limits
with_lifetime d limits = record limits { lifetime = duration_limit d }

abbrev pub with_idle_time : ℤ → Limits → Limits
with_idle_time d limits = record limits { idle_time = duration_limit d }

-- Returns the pool at the present moment, which never goes back.
abbrev pub ticked : ℕ → Pooled → Pooled
ticked now p = record p { moment = max p.moment now }
