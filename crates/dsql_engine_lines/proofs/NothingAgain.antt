-- No line of a transaction gives again what was closed, because it opens rows once and prepares once.
use Rattle.std.proofs.Common.{◌≡◌, ℕ, ℤ, Bool, true, false, not, ◌&&◌, ◌||◌, List, [], ◌∷◌, Option, Some, None, is_some, refl, ap, ◌∙◌}
use Rattle.std.specs.List.{list_any}
use Rattle.dsql_laws_calls.specs.course.declared.call.Due.{Due}
use Rattle.dsql_laws_calls.specs.course.declared.call.Due.TheVariants as due
use Rattle.dsql_laws_calls.specs.course.Made.{Exchange, given_cursor, given_handle}
use Rattle.dsql_laws_calls.specs.journal.declared.entry.Owner.TheVariants as owners
use Rattle.dsql_laws_calls.specs.journal.Kinds.{◌⇒◌}
use Rattle.dsql_laws_calls.specs.pool.declared.conn.Place.TheVariants.{Lent}
use Rattle.dsql_laws_calls.specs.works.Exchanges.{exchanges}
use Rattle.dsql_laws_calls.proofs.laws.Tests.{both, together}
use Rattle.dsql_laws_calls.specs.history.declared.event.Event.{Event}
use Rattle.dsql_laws_calls.specs.history.Readers.Course.{caps}
use Rattle.dsql_laws_calls.specs.history.Readers.Journals.{heard_in, journal}
use Rattle.dsql_laws_calls.specs.history.Readers.Lines.{closes_cursor, closes_handle, line_among}
use Rattle.dsql_laws_calls.specs.history.Readers.Pool.{place}
use Rattle.dsql_laws_calls.specs.history.Legal.{Lawful}
use Rattle.dsql_laws_due.proofs.Holds.{Holds, Kept, asked_in}
use Rattle.dsql_laws_due.proofs.Kept.{holds}
use Rattle.dsql_engine_exchanged.specs.Heard.{is_cursor_unclosed, is_handle_unclosed, none_given_again}
use Rattle.dsql_laws_tenures.specs.Orderly.{OpensOnce, PreparesOnce, closes_rows, closes_stmt, gives_cursor, gives_handle, opens_once, prepares_once}
use Rattle.dsql_laws_tenures.proofs.LinesKept.{lines_once, lines_prepare_once}

-- If no exchange closes anything, none closes this number.
none_such : (wide narrow : Exchange → Bool) → ((x : Exchange) → wide x ≡ false → narrow x ≡ false) → (made : List Exchange) → not (list_any wide made) ≡ true → not (list_any narrow made) ≡ true
none_such wide narrow fewer [] h = refl
none_such wide narrow fewer (x ∷ made) h = by (none_such wide narrow fewer made) (wide x) refl h
  where
    by : (not (list_any wide made) ≡ true → not (list_any narrow made) ≡ true) → (b : Bool) → wide x ≡ b → not (b || list_any wide made) ≡ true → not (narrow x || list_any narrow made) ≡ true
    by rest true is k = absurd cc
    by rest false is k = ap (λ b. not (b || list_any narrow made)) (fewer x is) ∙ rest k

later_false : (a b : Bool) → (a || b) ≡ false → b ≡ false
later_false true b h = absurd cc
later_false false b h = h

no_cursor_closed : (rows : ℕ) (x : Exchange) → (gives_cursor x || closes_rows x.0) ≡ false → closes_cursor rows x.0 ≡ false
no_cursor_closed rows x h = by x.0 (later_false (gives_cursor x) (closes_rows x.0) h)
  where
    by : (d : Due) → closes_rows d ≡ false → closes_cursor rows d ≡ false
    by (due.CloseRows other) k = absurd cc
    by d k = refl

no_handle_closed : (handle : ℕ) (x : Exchange) → (gives_handle x || closes_stmt x.0) ≡ false → closes_handle handle x.0 ≡ false
no_handle_closed handle x h = by x.0 (later_false (gives_handle x) (closes_stmt x.0) h)
  where
    by : (d : Due) → closes_stmt d ≡ false → closes_handle handle d ≡ false
    by (due.CloseStmt other) k = absurd cc
    by d k = refl

cursor_unclosed : (given : Option ℕ) (made : List Exchange) → (is_some given ⇒ not (list_any (λ y. gives_cursor y || closes_rows y.0) made)) ≡ true → is_cursor_unclosed given made ≡ true
cursor_unclosed None made h = refl
cursor_unclosed (Some rows) made h = none_such (λ y. gives_cursor y || closes_rows y.0) (λ y. closes_cursor rows y.0) (no_cursor_closed rows) made h

handle_unclosed : (given : Option (ℕ × ℤ)) (made : List Exchange) → (is_some given ⇒ not (list_any (λ y. gives_handle y || closes_stmt y.0) made)) ≡ true → is_handle_unclosed given made ≡ true
handle_unclosed None made h = refl
handle_unclosed (Some handle) made h = none_such (λ y. gives_handle y || closes_stmt y.0) (λ y. closes_handle handle.0 y.0) (no_handle_closed handle.0) made h

nothing_again : (made : List Exchange) → opens_once made ≡ true → prepares_once made ≡ true → none_given_again made ≡ true
nothing_again [] opens prepares = refl
nothing_again (x ∷ earlier) opens prepares =
    let a = both (opens_once earlier) (gives_cursor x ⇒ not (list_any (λ y. gives_cursor y || closes_rows y.0) earlier)) opens in
    let b = both (prepares_once earlier) (gives_handle x ⇒ not (list_any (λ y. gives_handle y || closes_stmt y.0) earlier)) prepares in
    together (is_cursor_unclosed (given_cursor x.1) earlier) (is_handle_unclosed (given_handle x.1) earlier && none_given_again earlier) (cursor_unclosed (given_cursor x.1) earlier a.1)
    (together (is_handle_unclosed (given_handle x.1) earlier) (none_given_again earlier) (handle_unclosed (given_handle x.1) earlier b.1) (nothing_again earlier a.0 b.0))

pub none_again : (H : List Event) (c t k n : ℕ) → Lawful H → place H c ≡ Some (Lent t (owners.Tx k)) → none_given_again (exchanges (line_among n (heard_in H c t))) ≡ true
none_again H c t k n l is =
    let kept = Holds.kept (holds H l) in
    let lines = Kept.lines kept c t (owners.Tx k) is refl in
    nothing_again (exchanges (line_among n (heard_in H c t))) (OpensOnce.line (lines_once (caps H) (asked_in H k) t (journal H c) lines) n) (PreparesOnce.line (lines_prepare_once (caps H) (asked_in H k) t (journal H c) lines) n)
