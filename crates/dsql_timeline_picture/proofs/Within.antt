-- Bars are within the picture: a bar ends at a later event or at the last one, and each lane has a row.
use Rattle.std.proofs.Common.{◌≡◌, ℕ, ◌+◌, ◌<◌, ◌≤◌, Bool, true, false, List, [], ◌∷◌, Option, Some, None, All, length, cond, refl, arith, inl, inr, ne_eqb}
use Rattle.std.specs.Prelude.{codes, find, nat_eq, nat_lt, unwrap_or}
use Rattle.std.specs.List.{position_or_len}
use Rattle.std.proofs.lemmas.Bool.{ltb-true, cases_eq}
use Rattle.std.proofs.lemmas.List.Elements.{All-nil, All-cons, All-append}
use Rattle.dsql_history.specs.declared.event.Event.{Event}
use Rattle.dsql_history.specs.declared.event.Event.TheVariants.{Run, Entered, Heard, Pool, Waits, Ticked, SetLimit, Replied, Ended}
use Rattle.dsql_timeline_picture.specs.declared.lanes.Caller.{Caller}
use Rattle.dsql_timeline_picture.specs.Lanes.{Rows, lanes_of, height, row_at, conn_row, client_row, caller_row, call_row, row_of, conn_of}
use Rattle.dsql_timeline_picture.specs.Kinds.{ends, width}
use Rattle.dsql_timeline_picture.specs.Pictures.{IsWithin, lane, lanes_from, lanes_drawn, event_drawn, bars_from, bars_of, drawn_of, rows_from}

unwrap_or-le : (k n : ℕ) (t : Bool) → nat_lt k n ≡ t → unwrap_or (cond t (Some k) None) n ≤ n
unwrap_or-le k n true is = let less = ltb-true k n is in omega arith
unwrap_or-le k n false is = omega arith

width-le : (event : Event) (later : List Event) → width event later ≤ length later + 1
width-le event later =
    let k = position_or_len (λ (other : Event). ends event other) later in
    omega (arith, unwrap_or-le k (length later) (nat_lt k (length later)) refl)

row_at-le : (before k n : ℕ) (t : Bool) → nat_lt k n ≡ t → row_at before (cond t (Some k) None) ≤ before + n
row_at-le before k n true is = let less = ltb-true k n is in omega arith
row_at-le before k n false is = omega arith

conn_row-lt : (lanes : Rows) (conn : ℕ) → conn_row lanes conn < height lanes
conn_row-lt lanes conn =
    let k = position_or_len (λ (other : ℕ). nat_eq other conn) lanes.conns in
    omega (arith, row_at-le 0 k (length lanes.conns) (nat_lt k (length lanes.conns)) refl)

client_row-lt : (lanes : Rows) (client : ℕ) → client_row lanes client < height lanes
client_row-lt lanes client =
    let k = position_or_len (λ (other : ℕ). nat_eq other client) lanes.clients in
    omega (arith, row_at-le (length lanes.conns) k (length lanes.clients) (nat_lt k (length lanes.clients)) refl)

caller_row-lt : (lanes : Rows) (caller : Option Caller) → caller_row lanes caller < height lanes
caller_row-lt lanes None = omega arith
caller_row-lt lanes (Some caller) = client_row-lt lanes caller.client

call_row-lt : (lanes : Rows) (n : ℕ) → call_row lanes n < height lanes
call_row-lt lanes n = caller_row-lt lanes (find (λ (caller : Caller). nat_eq caller.call n) lanes.callers)

row_of-lt : (lanes : Rows) (event : Event) → row_of lanes event < height lanes
row_of-lt lanes (Run version caps) = omega arith
row_of-lt lanes (Entered client n op) = client_row-lt lanes client
row_of-lt lanes (Heard entry) = conn_row-lt lanes entry.conn
row_of-lt lanes (Pool step) = conn_row-lt lanes (conn_of step)
row_of-lt lanes (Waits n) = call_row-lt lanes n
row_of-lt lanes (Ticked now) = omega arith
row_of-lt lanes (SetLimit setting n) = omega arith
row_of-lt lanes (Replied n reply) = call_row-lt lanes n
row_of-lt lanes Ended = omega arith

down : (lanes : Rows) (place : ℕ) → place < height lanes → place + rows_from lanes place ≤ height lanes
down lanes place less =
    elim (cases_eq place 0) [
      | inl top ↦ rw top (omega arith)
      | inr lane ↦ rw (ne_eqb place 0 lane) (omega (arith, less))
    ]

bar_within : (lanes : Rows) (columns i : ℕ) (event : Event) (later : List Event) → i + (length later + 1) ≤ columns → IsWithin columns (height lanes) (event_drawn lanes i event later)
bar_within lanes columns i event later fits = record {
  across = omega (arith, width-le event later, fits);
  down = down lanes (row_of lanes event) (row_of-lt lanes event);
}

bars_within : (lanes : Rows) (columns i : ℕ) (events : List Event) → i + length events ≤ columns → All (IsWithin columns (height lanes)) (bars_from lanes i events)
bars_within lanes columns i [] fits = All-nil (IsWithin columns (height lanes))
bars_within lanes columns i (event ∷ later) fits =
    All-cons (IsWithin columns (height lanes)) (event_drawn lanes i event later) (bars_from lanes (i + 1) later)
    (bar_within lanes columns i event later (omega (arith, fits))) (bars_within lanes columns (i + 1) later (omega (arith, fits)))

lanes_within : (name : List ℕ) (columns rows first : ℕ) (numbers : List ℕ) → first + length numbers ≤ rows → All (IsWithin columns rows) (lanes_from name columns first numbers)
lanes_within name columns rows first [] fits = All-nil (IsWithin columns rows)
lanes_within name columns rows first (x ∷ numbers) fits =
    All-cons (IsWithin columns rows) (lane columns first name x) (lanes_from name columns (first + 1) numbers)
    (record { across = omega arith; down = omega (arith, fits) }) (lanes_within name columns rows (first + 1) numbers (omega (arith, fits)))

pub all_within : (events : List Event) → All (IsWithin (length events) (height (lanes_of events))) (drawn_of events)
all_within events =
    let lanes = lanes_of events in
    let columns = length events in
    let P = IsWithin columns (height lanes) in
    All-append P (lanes_drawn lanes columns) (bars_of events)
    (All-append P (lanes_from (codes "connection") columns 1 lanes.conns) (lanes_from (codes "client") columns (1 + length lanes.conns) lanes.clients)
    (lanes_within (codes "connection") columns (height lanes) 1 lanes.conns (omega arith))
    (lanes_within (codes "client") columns (height lanes) (1 + length lanes.conns) lanes.clients (omega arith)))
    (bars_within lanes columns 0 events (omega arith))
