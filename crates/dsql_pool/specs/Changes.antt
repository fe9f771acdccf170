-- How a connection changes.
use Rattle.std.specs.Prelude.{ℕ, ◌==◌, not, cond, ◌+◌, List, [], ◌∷◌, filter, Option, Some, None}
use Rattle.dsql_tenure_journal.specs.declared.entry.Owner.{Owner}
use Rattle.dsql_tenure_journal.specs.Kinds.{is_house}
use Rattle.dsql_pool.specs.declared.conn.Place.TheVariants.{Idle, Lent, Opening, Closing}
use Rattle.dsql_pool.specs.declared.conn.Conn.{Conn}
use Rattle.dsql_pool.specs.Places.{is_opening, is_for}

-- Returns the moment at which a connection was opened: the present one if the connection is leaving opening.
abbrev pub opened_at : ℕ → Conn → ℕ
opened_at moment conn = cond (is_opening (Some conn.place)) moment conn.created

-- Returns a connection of this number that begins to be opened, for the request of an owner or for no request
-- of its own.
abbrev pub opening : ℕ → Option Owner → Conn
opening c wanted = record { number = c; place = Opening wanted; lends = 0; uses = 0; created = 0; returned = 0 }

abbrev pub lent : ℕ → Owner → ℕ → Conn → Conn
lent tenure owner moment conn =
    record {
      number = conn.number;
      place = Lent tenure owner;
      lends = conn.lends + 1;
      uses = cond (is_house owner) conn.uses (conn.uses + 1);
      created = opened_at moment conn;
      returned = conn.returned;
    }

abbrev pub back : ℕ → Conn → Conn
back moment conn = record conn { place = Idle; created = opened_at moment conn; returned = moment }

abbrev pub closing : Conn → Conn
closing conn = record conn { place = Closing }

-- Returns the connection, being opened for no request if it was being opened for the request of this call.
abbrev pub unwanted_by : ℕ → Conn → Conn
unwanted_by call conn = cond (is_for call conn.place) (record conn { place = Opening None }) conn

-- Returns the connection, being opened for no request of its own if it was being opened.
abbrev pub unwanted : Conn → Conn
unwanted conn = cond (is_opening (Some conn.place)) (record conn { place = Opening None }) conn

-- Returns the connections with connection c changed, if it is open.
abbrev pub conn_changed : ℕ → (Conn → Conn) → List Conn → List Conn
conn_changed c change [] = []
conn_changed c change (conn ∷ conns) =
    cond (conn.number == c) (change conn ∷ conns) (conn ∷ conn_changed c change conns)

-- Returns the connections without connection c.
abbrev pub gone : ℕ → List Conn → List Conn
gone c conns = filter (λ conn. not (conn.number == c)) conns
