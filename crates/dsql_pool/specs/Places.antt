-- The open connections, and the place of each.
use Rattle.std.specs.Prelude.{◌≡◌, ℕ, Bool, true, false, ◌&&◌, ◌==◌, ◌≤◌, nat_le, List, find, Option, Some, None}
use Rattle.std.specs.List.{list_all}
use Rattle.std.specs.Option.{option_map, option_map_or}
use Rattle.dsql_tenure_journal.specs.Kinds.{number_of}
use Rattle.dsql_pool.specs.declared.conn.Place.{Place}
use Rattle.dsql_pool.specs.declared.conn.Place.TheVariants.{Idle, Lent, Opening, Closing}
use Rattle.dsql_pool.specs.declared.conn.Conn.{Conn}

-- What contracts see of the open connections: their list in the order in which their openings began, and how many were
-- opened so far. It also has how many openings and lendings have begun, and for how many connections in all there is
-- memory.
pub record Numbered : Type 0 where
  pub conns : List Conn
  pub opened : ℕ
  pub drawn : ℕ
  pub capacity : ℕ

-- Returns the connection of a number, if it is open.
abbrev pub conn_of : ℕ → List Conn → Option Conn
conn_of c conns = find (λ conn. conn.number == c) conns

-- Returns how often a connection was lent.
abbrev pub lends_of : ℕ → List Conn → ℕ
lends_of c conns = option_map_or (λ conn. conn.lends) (conn_of c conns) 0

-- Returns the place of a connection, if it is open.
abbrev pub place_of : ℕ → List Conn → Option Place
place_of c conns = option_map (λ conn. conn.place) (conn_of c conns)

abbrev pub is_idle : Option Place → Bool
is_idle (Some Idle) = true
is_idle _ = false

abbrev pub is_lent : Option Place → Bool
is_lent (Some (Lent tenure owner)) = true
is_lent _ = false

abbrev pub is_opening : Option Place → Bool
is_opening (Some (Opening wanted)) = true
is_opening _ = false

abbrev pub is_closing : Option Place → Bool
is_closing (Some Closing) = true
is_closing _ = false

-- Is true if the connection is being opened for the request of this call.
abbrev pub is_for : ℕ → Place → Bool
is_for call (Opening (Some owner)) = number_of owner == call
is_for call _ = false

-- Is true if the connection is being opened for no request of its own.
abbrev pub is_free : Place → Bool
is_free (Opening None) = true
is_free _ = false

-- Is true if a connection was lent, and used, no oftener than openings and lendings have begun.
abbrev pub is_drawn : ℕ → Conn → Bool
is_drawn drawn conn = nat_le conn.lends drawn && nat_le conn.uses drawn

-- Holds if each opening and each lending is counted.
pub record AreDrawn (conns : List Conn) (opened drawn : ℕ) : Type 0 where
  pub counted : opened ≤ drawn
  pub lent : list_all (is_drawn drawn) conns ≡ true
