-- Defines the lanes of a picture, and the row of each event. Row 0 is above all lanes.
use Rattle.std.specs.Prelude.{ℕ, ◌==◌, ◌+◌, List, length, Option, Some, None, filter, filter_map, find, position}
use Rattle.std.specs.List.{list_any, range_with_len}
use Rattle.dsql_history.specs.pool.declared.moves.Move.{Move}
use Rattle.dsql_history.specs.pool.declared.moves.Move.TheVariants.{OpenStart, Lend, Back, CloseStart, Gone, Fell}
use Rattle.dsql_history.specs.declared.event.Event.{Event}
use Rattle.dsql_history.specs.declared.event.Event.TheVariants.{Entered, Heard, Pool, Waits, Replied}
use Rattle.dsql_timeline_picture.specs.declared.lanes.Caller.{Caller}
use Rattle.dsql_timeline_picture.specs.declared.lanes.TheConstants.{CLIENTS}

-- Returns the connection that a move concerns.
abbrev pub conn_of : Move → ℕ
conn_of (OpenStart conn call) = conn
conn_of (Lend conn tenure owner call) = conn
conn_of (Back conn) = conn
conn_of (CloseStart conn cause) = conn
conn_of (Gone conn) = conn
conn_of (Fell conn call) = conn

-- Returns the connection that an event begins to open.
unfoldable pub opened : Event → Option ℕ
opened (Pool (OpenStart conn call)) = Some conn
opened _ = None

-- Returns the call that an event enters, with its client.
unfoldable pub entered : Event → Option Caller
entered (Entered client n op) = Some (record { call = n; client = client })
entered _ = None

-- Returns the connections that are opened, in this order.
abbrev pub conns_of : List Event → List ℕ
conns_of events = filter_map opened events

-- Returns the calls that enter, with their clients.
abbrev pub callers_of : List Event → List Caller
callers_of events = filter_map entered events

-- Returns the clients of the calls, the smallest first.
abbrev pub clients_of : List Caller → List ℕ
clients_of callers = filter (λ client. list_any (λ caller. caller.client == client) callers) (range_with_len 1 CLIENTS)

-- The connections and the clients that have lanes, from top to bottom, and the calls with their clients.
pub record Rows : Type 0 where
  pub conns : List ℕ
  pub clients : List ℕ
  pub callers : List Caller

-- Returns the lanes of a report.
abbrev pub lanes_of : List Event → Rows
lanes_of events =
    let callers = callers_of events in
    record { conns = conns_of events; clients = clients_of callers; callers = callers }

-- Returns how many rows a picture has: one for each lane, and one above them.
abbrev pub height : Rows → ℕ
height lanes = 1 + length lanes.conns + length lanes.clients

-- Returns the row of the lane at a place of a list, after this many lanes. Without a lane it is row 0.
abbrev pub row_at : ℕ → Option ℕ → ℕ
row_at before None = 0
row_at before (Some place) = 1 + before + place

abbrev pub conn_row : Rows → ℕ → ℕ
conn_row lanes conn = row_at 0 (position (λ other. other == conn) lanes.conns)

abbrev pub client_row : Rows → ℕ → ℕ
client_row lanes client = row_at (length lanes.conns) (position (λ other. other == client) lanes.clients)

-- Returns the row of a call's client. A call that didn't enter has row 0.
abbrev pub caller_row : Rows → Option Caller → ℕ
caller_row lanes None = 0
caller_row lanes (Some caller) = client_row lanes caller.client

abbrev pub call_row : Rows → ℕ → ℕ
call_row lanes n = caller_row lanes (find (λ caller. caller.call == n) lanes.callers)

-- Returns the row of an event: that of its connection, of its client or of its call's client, or row 0.
abbrev pub row_of : Rows → Event → ℕ
row_of lanes (Entered client n op) = client_row lanes client
row_of lanes (Heard entry) = conn_row lanes entry.conn
row_of lanes (Pool step) = conn_row lanes (conn_of step)
row_of lanes (Waits n) = call_row lanes n
row_of lanes (Replied n reply) = call_row lanes n
row_of lanes _ = 0
