-- Prepared statements by their numbers, and their live handles.
use Rattle.std.specs.Prelude.{ℕ, ◌≤◌, ℤ, Bool, not, ◌&&◌, ◌==◌, if◌then◌else◌, List, [], ◌∷◌, filter, map, count_by, Option, Some, None, is_none, is_some, Result, Ok, Err}
use Rattle.std.specs.Map.{lookup}
use Rattle.std.specs.List.{list_any}
use Rattle.std.specs.Option.{option_map}
use Rattle.dsql_stmt.specs.declared.fault.StmtClosed.{StmtClosed}
use Rattle.dsql_stmt.specs.declared.stmt.Home.{Home}
use Rattle.dsql_stmt.specs.declared.stmt.Stmt.{Stmt}
use Rattle.dsql_stmt.specs.declared.stmt.Prepared.{Prepared}

-- Returns a statement as it was added.
abbrev pub unclosed : List ℕ → Home → Stmt
unclosed text home = record { text = text; home = home; closed = None }

-- Is true if nothing has closed the statement.
abbrev pub is_open : Stmt → Bool
is_open stmt = is_none stmt.closed

-- Returns the statement closed by this call, if nothing has closed it before. Otherwise returns it as it is.
abbrev pub closed_by : ℕ → Stmt → Stmt
closed_by call stmt = if is_open stmt then record stmt { closed = Some call } else stmt

-- A handle, with the number of its arguments.
abbrev pub HandleInputs : Type 0
HandleInputs = ℕ × ℤ

abbrev pub inputs_of : Prepared → HandleInputs
inputs_of prepared = (prepared.handle, prepared.inputs)

-- Returns the statement's live handle, or the failure that this call closed the statement. The failure takes
-- precedence.
abbrev pub told : Option HandleInputs → Option ℕ → Result (Option HandleInputs) StmtClosed
told live (Some call) = Err (record { call = call })
told live None = Ok live

-- Returns what a run of a statement with this live handle may use, or the failure that the statement was
-- closed.
abbrev pub answer_of : Option HandleInputs → Stmt → Result (Option HandleInputs) StmtClosed
answer_of live stmt = told live stmt.closed

abbrev pub stmt_of : ℕ → List (ℕ × Stmt) → Option Stmt
stmt_of n stmts = lookup (λ k. n == k) stmts

abbrev pub was_added : ℕ → List (ℕ × Stmt) → Bool
was_added n stmts = is_some (stmt_of n stmts)

-- A live handle: the statement, the connection, and what the driver answered.
abbrev pub Live : Type 0
Live = (ℕ × ℕ) × Prepared

abbrev pub live_handle : ℕ → ℕ → ℕ → ℤ → Live
live_handle n conn handle inputs = ((n, conn), record { handle = handle; inputs = inputs })

-- Is true if the handle belongs to this statement.
abbrev pub is_of : ℕ → Live → Bool
is_of n l = n == l.0.0

-- Is true if the handle is on this connection.
abbrev pub is_on : ℕ → Live → Bool
is_on conn l = conn == l.0.1

-- Is true if the handle has this number, on this connection.
abbrev pub is_handle : ℕ → ℕ → Live → Bool
is_handle conn handle l = is_on conn l && (handle == l.1.handle)

abbrev pub is_place : ℕ → ℕ → (ℕ × ℕ) → Bool
is_place n conn place = (n == place.0) && (conn == place.1)

-- Returns what a statement has live on a connection.
abbrev pub prepared_on : ℕ → ℕ → List Live → Option Prepared
prepared_on n conn live = lookup (is_place n conn) live

abbrev pub handle_on : ℕ → ℕ → List Live → Option HandleInputs
handle_on n conn live = option_map inputs_of (prepared_on n conn live)

-- Is true if a statement has a live handle with this number on this connection.
abbrev pub is_live : ℕ → ℕ → List Live → Bool
is_live conn handle live = list_any (is_handle conn handle) live

-- Returns the live handles of a statement, with their connections.
abbrev pub handles_of : ℕ → List Live → List (ℕ × ℕ)
handles_of n live = map (λ l. (l.0.1, l.1.handle)) (filter (is_of n) live)

-- Returns what a close hands out. A second close hands out nothing.
abbrev pub handed_out : ℕ → List Live → Stmt → List (ℕ × ℕ)
handed_out n live stmt = if is_open stmt then handles_of n live else []

abbrev pub without_handle : ℕ → ℕ → List Live → List Live
without_handle conn handle live = filter (λ l. not (is_handle conn handle l)) live

abbrev pub without_conn : ℕ → List Live → List Live
without_conn conn live = filter (λ l. not (is_on conn l)) live

-- Holds if a statement has at most one live handle on a connection, and a number belongs to at most one handle
-- on a connection.
pub record IsOneEach (live : List Live) : Type 0 where
  pub of_statement : (n conn : ℕ) → count_by (λ l. is_place n conn l.0) live ≤ 1
  pub of_number : (conn handle : ℕ) → count_by (is_handle conn handle) live ≤ 1

-- The table: the statements and the live handles, each in the order in which they came. And for how many calls there is
-- memory.
pub record Statements : Type 0 where
  pub stmts : List (ℕ × Stmt)
  pub live : List Live
  pub spare : ℕ
