-- Defines who may go on at a free moment, and whose turn it is.
use Rattle.std.specs.Prelude.{ℕ, ◌==◌, nat_le, Bool, false, cond, List, [], ◌∷◌, Option, Some, None, not, ◌&&◌, ◌||◌, filter, is_none}
use Rattle.dsql_history.specs.journal.Readers.{has, is_empty}
use Rattle.dsql_history.specs.journal.declared.entry.Entry.{Entry}
use Rattle.dsql_history.specs.declared.event.Event.{Event}
use Rattle.dsql_history.specs.declared.event.Event.TheVariants.{Run, Entered, Heard, Ticked, SetLimit, Ended}
use Rattle.dsql_history.specs.Readers.Course.{has_ended}
use Rattle.dsql_history.specs.Readers.Unfinished.{is_unfinished}
use Rattle.dsql_history.specs.Rules.Flights.{is_in_flight, is_blocked}
use Rattle.dsql_history.specs.Rules.Stands.{stand}
use Rattle.dsql_history.specs.Rules.House.{chore_due}
use Rattle.dsql_follows.specs.declared.line.Line.{Line}
use Rattle.dsql_follows.specs.declared.line.Line.TheVariants.{Client, Start}
use Rattle.dsql_history.specs.Readers.Clients.{call_of, is_free, client_of}
use Rattle.dsql_follows.specs.Moments.{Moment, stepping, kept, is_held}

abbrev pub with_client : ℕ → List ℕ → List ℕ
with_client client clients = cond (has client clients) clients (client ∷ clients)

abbrev pub lesser : ℕ → Option ℕ → ℕ
lesser n None = n
lesser n (Some m) = cond (nat_le n m) n m

abbrev pub least : List ℕ → Option ℕ
least [] = None
least (n ∷ rest) = Some (lesser n (least rest))

abbrev pub is_it : Option ℕ → ℕ → Bool
is_it None n = false
is_it (Some m) n = m == n

-- Is true if the call has no reply, and its permit is in flight or it isn't blocked.
abbrev pub can_move : Moment → ℕ → Bool
can_move m n = is_unfinished m.past n && (is_in_flight n m.flights || not (is_blocked m.flights n (stand m.past n)))

-- Returns the connection on which the layer makes its first own driver call, if it has one to make.
abbrev pub first_chore : Moment → Option ℕ
first_chore m = chore_due m.past

-- Is true if the client may go on. A free client goes on by its first kept line. Any other client goes on by
-- its call, unless that is held.
abbrev pub may_go_by : Moment → ℕ → ℕ → Bool
may_go_by m client n = cond (n == 0) (not (is_empty (kept m client))) (can_move m n && not (is_held m client))

abbrev pub may_go : Moment → ℕ → Bool
may_go m client = may_go_by m client (call_of m.past client)

-- Returns the clients that have a line.
abbrev pub clients : List Line → List ℕ
clients [] = []
clients (Client client op ∷ earlier) = with_client client (clients earlier)
clients (Start client op ∷ earlier) = with_client client (clients earlier)
clients (_ ∷ earlier) = clients earlier

-- Returns the smallest client that may go on, if any.
abbrev pub next_client : Moment → Option ℕ
next_client m = least (filter (λ client. may_go m client) (clients m.lines))

-- Is true if it is this client's turn: there is no chore, and it is the smallest client that may go on.
abbrev pub is_turn_of : Moment → ℕ → Bool
is_turn_of m client = is_none (first_chore m) && is_it (next_client m) client

-- Is true if nobody has the turn: there is no chore, and no client may go on.
abbrev pub has_run_out : Moment → Bool
has_run_out m = is_none (first_chore m) && is_none (next_client m)

-- Is true if the entry answers the layer's first own driver call.
abbrev pub is_chore : Moment → Entry → Bool
is_chore m e = (e.call_no == 0) && is_it (first_chore m) e.conn

-- Is true if call n goes on by itself in its client's turn.
abbrev pub goes_in_turn : Moment → ℕ → Bool
goes_in_turn m n = is_turn_of m (client_of m.past n) && not (is_in_flight n m.flights)

-- Is true if a step that begins with this event comes in its turn. The first chore comes first. If there is none, the
-- smallest client that may go on makes a step. It hears an answer to its call, enters its first kept line, or lets its
-- call go on. The run ends after nobody has the turn.
abbrev pub comes_in_turn : Moment → Event → Bool
comes_in_turn m (Heard e) =
    cond (e.call_no == 0) (is_chore m e) (is_turn_of m (client_of m.past e.call_no) && is_unfinished m.past e.call_no)
comes_in_turn m (Entered client n op) = is_turn_of m client && is_free m.past client
comes_in_turn m Ended = m.released && (not (has_ended m.past) && has_run_out m)
comes_in_turn m (Ticked now) = false
comes_in_turn m (SetLimit setting n) = false
comes_in_turn m (Run version caps) = false
comes_in_turn m e = goes_in_turn m (stepping m e)
