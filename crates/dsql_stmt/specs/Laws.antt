-- The laws of the table of statements.
use Rattle.std.specs.Prelude.{◌≡◌, ◌≢◌, ℕ, ℤ, true, false, List, [], ◌∷◌, ◌++◌, Option, None, Some, Err, Contains, fold}
use Rattle.std.specs.Option.{option_map}
use Rattle.dsql_stmt.specs.declared.stmt.Home.{Home}
use Rattle.dsql_stmt.specs.declared.stmt.Stmt.{Stmt}
use Rattle.dsql_value_numbered.specs.Numbered.{changed}
use Rattle.dsql_stmt.specs.Statements.{Live, HandleInputs, unclosed, is_open, closed_by, answer_of, stmt_of, was_added, handle_on, is_live, live_handle, handles_of, handed_out, without_handle, without_conn, IsOneEach}

-- Returns the statement after closes by these calls, one after another.
abbrev pub closed_by_all : List ℕ → Stmt → Stmt
closed_by_all calls stmt = fold (λ s call. closed_by call s) stmt calls

-- Holds if the call that closed a statement is the first one that tried to, and never changes afterwards.
pub record FirstCloseStays : Type 0 where
  pub first : (call : ℕ) (stmt : Stmt) → is_open stmt ≡ true → (closed_by call stmt).closed ≡ Some call
  pub stays : (call later : ℕ) (stmt : Stmt) → stmt.closed ≡ Some call → closed_by later stmt ≡ stmt
  pub whatever_comes : (call : ℕ) (later : List ℕ) (stmt : Stmt) → closed_by_all (call ∷ later) stmt
      ≡ closed_by call stmt
  pub told : (call : ℕ) (later : List ℕ) (stmt : Stmt) (live : Option HandleInputs) → is_open stmt ≡ true
      → answer_of live (closed_by_all (call ∷ later) stmt) ≡ Err (record { call = call })

-- Holds if an addition or a close concerns the statement with that number, and no other.
pub record ChangesOneStatement : Type 0 where
  pub added : (n : ℕ) (text : List ℕ) (home : Home) (stmts : List (ℕ × Stmt)) → was_added n stmts ≡ false
      → stmt_of n (stmts ++ (n, unclosed text home) ∷ []) ≡ Some (unclosed text home)
  pub closes : (call n : ℕ) (stmts : List (ℕ × Stmt)) → stmt_of n (changed (closed_by call) n stmts)
      ≡ option_map (closed_by call) (stmt_of n stmts)
  pub others_beside_new : (n other : ℕ) (text : List ℕ) (home : Home) (stmts : List (ℕ × Stmt)) → other ≢ n
      → stmt_of other (stmts ++ (n, unclosed text home) ∷ []) ≡ stmt_of other stmts
  pub others : (call n other : ℕ) (stmts : List (ℕ × Stmt)) → other ≢ n
      → stmt_of other (changed (closed_by call) n stmts) ≡ stmt_of other stmts

-- Holds if a statement has at most one live handle on a connection, and a handle's number there belongs to one
-- statement.
pub record OneHandleEach : Type 0 where
  pub none : IsOneEach []
  pub prepared : (n conn handle : ℕ) (inputs : ℤ) (live : List Live) → handle_on n conn live ≡ None
      → is_live conn handle live ≡ false → IsOneEach live
      → IsOneEach (live ++ live_handle n conn handle inputs ∷ [])
  pub dropped : (conn handle : ℕ) (live : List Live) → IsOneEach live → IsOneEach (without_handle conn handle live)
  pub lost : (conn : ℕ) (live : List Live) → IsOneEach live → IsOneEach (without_conn conn live)
  pub owner : (n other conn handle : ℕ) (inputs others : ℤ) (live : List Live) → IsOneEach live
      → handle_on n conn live ≡ Some (handle, inputs) → handle_on other conn live ≡ Some (handle, others)
      → n ≡ other

-- Holds if a handle is live after it was prepared, only for that statement and on that connection.
pub record PreparedIsLive : Type 0 where
  pub noted : (n conn handle : ℕ) (inputs : ℤ) (live : List Live) → handle_on n conn live ≡ None
      → handle_on n conn (live ++ live_handle n conn handle inputs ∷ []) ≡ Some (handle, inputs)
  pub other_statements : (n conn handle : ℕ) (inputs : ℤ) (other there : ℕ) (live : List Live) → other ≢ n
      → handle_on other there (live ++ live_handle n conn handle inputs ∷ []) ≡ handle_on other there live
  pub other_connections : (n conn handle : ℕ) (inputs : ℤ) (other there : ℕ) (live : List Live) → there ≢ conn
      → handle_on other there (live ++ live_handle n conn handle inputs ∷ []) ≡ handle_on other there live

-- Holds if a first close hands out exactly the live handles of the statement, and a second one none.
pub record HandsOutTheLive : Type 0 where
  pub each : (n conn handle : ℕ) (inputs : ℤ) (live : List Live) (stmt : Stmt) → is_open stmt ≡ true
      → handle_on n conn live ≡ Some (handle, inputs) → Contains (handed_out n live stmt) (conn, handle)
  pub only : (n conn handle : ℕ) (live : List Live) (stmt : Stmt) → IsOneEach live
      → Contains (handed_out n live stmt) (conn, handle) → (inputs : ℤ)
      × (handle_on n conn live ≡ Some (handle, inputs))
  pub then_none : (n call : ℕ) (live : List Live) (stmt : Stmt) → handed_out n live (closed_by call stmt) ≡ []

-- Holds if a dropped handle isn't live any more, and no other handle is lost by the drop.
pub record DropsOneHandle : Type 0 where
  pub gone : (conn handle : ℕ) (live : List Live) → is_live conn handle (without_handle conn handle live) ≡ false
  pub not_on : (n conn handle : ℕ) (inputs : ℤ) (live : List Live) → IsOneEach live → handle_on n conn live
      ≡ Some (handle, inputs) → handle_on n conn (without_handle conn handle live) ≡ None
  pub other_numbers : (n conn handle other : ℕ) (inputs : ℤ) (live : List Live) → other ≢ handle
      → handle_on n conn live ≡ Some (other, inputs) → handle_on n conn (without_handle conn handle live)
      ≡ Some (other, inputs)
  pub other_connections : (n conn there handle : ℕ) (live : List Live) → there ≢ conn
      → handle_on n there (without_handle conn handle live) ≡ handle_on n there live

-- Returns the live handles after these were dropped, one after another.
abbrev pub all_dropped : List (ℕ × ℕ) → List Live → List Live
all_dropped handles live = fold (λ left pair. without_handle pair.0 pair.1 left) live handles

-- Holds if nothing of a statement is live after each handle from its first close was dropped, and no other statement
-- has lost a handle.
pub record DropsWhatWasHandedOut : Type 0 where
  pub nothing_left : (n : ℕ) (live : List Live) (stmt : Stmt) → is_open stmt ≡ true
      → handles_of n (all_dropped (handed_out n live stmt) live) ≡ []
  pub other_statements : (n other conn : ℕ) (live : List Live) (stmt : Stmt) → other ≢ n → IsOneEach live
      → handle_on other conn (all_dropped (handed_out n live stmt) live) ≡ handle_on other conn live

-- Holds if a lost connection takes exactly its handles with it.
pub record LosesOneConnection : Type 0 where
  pub gone : (n conn : ℕ) (live : List Live) → handle_on n conn (without_conn conn live) ≡ None
  pub others : (n conn there : ℕ) (live : List Live) → there ≢ conn → handle_on n there (without_conn conn live)
      ≡ handle_on n there live
