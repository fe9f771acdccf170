-- A wire and its journal still agree after one more driver call. The proof compares the live handles and cursors of
-- both, for each kind of call.
use Rattle.std.proofs.Common.{◌≡◌, ℕ, Bool, true, false, cond, not, ◌&&◌, ◌||◌, ◌==◌, ◌++◌, Option, Some, None, List, [], ◌∷◌, length, inl, inr, refl, ◌∙◌, ap}
use Rattle.std.specs.Prelude.{option_map, IfSome}
use Rattle.std.specs.List.{filter}
use Rattle.std.proofs.lemmas.Bool.Decides.{nat_tests}
use Rattle.std.proofs.lemmas.Map.Views.{any-filter_same}
use native.Mathlib.Omega.{arith}
use Rattle.dsql_driver.specs.declared.call.DriverCall.{DriverCall}
use Rattle.dsql_driver.specs.declared.call.DriverCall.TheVariants.{Prepare, CloseStmt, Query, Next, CloseRows}
use Rattle.dsql_driver.specs.declared.answer.DriverAnswer.{DriverAnswer}
use Rattle.dsql_driver.specs.declared.answer.DriverAnswer.TheVariants.{Prepared, Cursor, Row, Memory}
use Rattle.dsql_driver.specs.Fits.{is_memory}
use Rattle.dsql_driver.specs.Wires as wires
use Rattle.dsql_driver.specs.Wires.{WireTold, has_number, with_call, told_after, KeepsHandles, KeepsCursors}
use Rattle.dsql_tenure_journal.specs.declared.entry.Entry.{Entry}
use Rattle.dsql_driver.specs.Kinds.{is_close_stmt, is_close_rows}
use Rattle.dsql_tenure_journal.specs.Readers.{LiveHandle, LiveCursor, handles, cursors, handles_after, cursors_after, cursor_changed, after_next}
use Rattle.dsql_tenure_journal.proofs.Conjunctions.{parts2, join2}
use Rattle.dsql_tenure.proofs.Lists.{list_all-filter, list_all-so}
use Rattle.dsql_tenure.specs.Judged.{answered}
use Rattle.dsql_tenure_journal.specs.declared.entry.Permit.{Permit}
use Rattle.dsql_wire.proofs.Answered.{Makes, makes}
use Rattle.dsql_wire.specs.Told.{TellsOf}
use Rattle.dsql_wire.specs.Journaled.{Agrees, has_handles, has_cursor, has_cursors}

same_number : (n : ℕ) → (n == n) ≡ true
same_number n = grind (arith, nat_tests)

first : (a b : Bool) → a ≡ true → (a || b) ≡ true
first true b h = refl
first false b h = let clash : false ≡ true = h in absurd cc

second : (a b : Bool) → b ≡ true → (a || b) ≡ true
second true b h = refl
second false b h = h

-- A handle stays live on the wire over a call that closes no handle.
handle_stays : (call : DriverCall) (answer : DriverAnswer) (before after : List ℕ) → is_close_stmt call ≡ false → KeepsHandles call answer before after → (n : ℕ) → has_number n before ≡ true
    → has_number n after ≡ true
handle_stays call Memory before after none k n h = rw k h
handle_stays call (Prepared handle inputs) before after none k n h = rw k.0 (second (handle == n) (has_number n before) h)
handle_stays (CloseStmt handle) answer before after none k n h = let clash : true ≡ false = none in absurd cc
handle_stays call answer before after none k n h = rw k h

-- A handle stays live on the wire over a CloseStmt of another handle.
handle_left : (m : ℕ) (answer : DriverAnswer) (before after : List ℕ) → KeepsHandles (CloseStmt m) answer before after → (n : ℕ) → not (n == m) ≡ true → has_number n before ≡ true
    → has_number n after ≡ true
handle_left m Memory before after k n other h = rw k h
handle_left m (Prepared handle inputs) before after k n other h = rw k.0 (second (handle == n) (has_number n before) h)
handle_left m answer before after k n other h = elim k [
  | inl e ↦ rw e h
  | inr e ↦ rw e (any-filter_same (λ x. x == n) (λ x. not (x == m)) true (λ x is. let same : x ≡ n = grind (arith, nat_tests, is) in rw same other) before ∙ h)
]

unless : (b c : Bool) → (b ≡ true → c ≡ true) → (not b || c) ≡ true
unless true c so = so refl
unless false c so = refl

closed : (m : ℕ) (before after : List ℕ) (live : List LiveHandle) → ((n : ℕ) → not (n == m) ≡ true → has_number n before ≡ true → has_number n after ≡ true) → has_handles before live ≡ true
    → has_handles after (filter (λ h. not (h.number == m)) live) ≡ true
closed m before after live left all =
    list_all-filter (λ (h : LiveHandle). has_number h.number after) (λ (h : LiveHandle). not (h.number == m)) live
    ∙ list_all-so (λ (h : LiveHandle). has_number h.number before) (λ (h : LiveHandle). not (not (h.number == m)) || has_number h.number after)
    (λ h on. unless (not (h.number == m)) (has_number h.number after) (λ other. left h.number other on)) live all

pub keeps_handles : (e : Entry) (call : DriverCall) (answer : DriverAnswer) (before after : List ℕ) (live : List LiveHandle) → KeepsHandles call answer before after → has_handles before live ≡ true
    → has_handles after (handles_after e call answer live) ≡ true
keeps_handles e (Prepare text) (Prepared handle inputs) before after live k all =
    join2 (has_number handle after) (has_handles after live) (rw k.0 (first (handle == handle) (has_number handle before) (same_number handle)))
    (list_all-so (λ (h : LiveHandle). has_number h.number before) (λ (h : LiveHandle). has_number h.number after) (λ h. handle_stays (Prepare text) (Prepared handle inputs) before after refl k h.number) live all)
keeps_handles e (CloseStmt handle) answer before after live k all = closed handle before after live (handle_left handle answer before after k) all
keeps_handles e call answer before after live k all =
    list_all-so (λ (h : LiveHandle). has_number h.number before) (λ (h : LiveHandle). has_number h.number after) (λ h. handle_stays call answer before after refl k h.number) live all

-- A cursor stays live on the wire over a call that closes no cursor.
cursor_stays : (call : DriverCall) (answer : DriverAnswer) (before after : List wires.LiveCursor) → is_close_rows call ≡ false → KeepsCursors call answer before after → (c : LiveCursor) → has_cursor before c ≡ true
    → has_cursor after c ≡ true
cursor_stays call Memory before after none k c h = rw k h
cursor_stays call (Cursor rows columns) before after none k c h = rw k.0 (second ((rows == c.number) && (length columns == c.columns)) (has_cursor before c) h)
cursor_stays (CloseRows rows) answer before after none k c h = let clash : true ≡ false = none in absurd cc
cursor_stays (Next rows) (Row values) before after none k c h = rw k.0 h
cursor_stays call answer before after none k c h = rw k h

-- A cursor stays live on the wire over a CloseRows of another cursor.
cursor_left : (m : ℕ) (answer : DriverAnswer) (before after : List wires.LiveCursor) → KeepsCursors (CloseRows m) answer before after → (c : LiveCursor) → not (c.number == m) ≡ true → has_cursor before c ≡ true
    → has_cursor after c ≡ true
cursor_left m Memory before after k c other h = rw k h
cursor_left m (Cursor rows columns) before after k c other h = rw k.0 (second ((rows == c.number) && (length columns == c.columns)) (has_cursor before c) h)
cursor_left m answer before after k c other h = elim k [
  | inl e ↦ rw e h
  | inr e ↦ rw e
      (any-filter_same (λ (w : wires.LiveCursor). (w.0 == c.number) && (w.1 == c.columns)) (λ (w : wires.LiveCursor). not (w.0 == m)) true
      (λ w is. let same : w.0 ≡ c.number = grind (arith, nat_tests, (parts2 (w.0 == c.number) (w.1 == c.columns) is).0) in rw same other) before
      ∙ h)
]

rows_closed : (m : ℕ) (before after : List wires.LiveCursor) (live : List LiveCursor) → ((c : LiveCursor) → not (c.number == m) ≡ true → has_cursor before c ≡ true → has_cursor after c ≡ true)
    → has_cursors before live ≡ true → has_cursors after (filter (λ c. not (c.number == m)) live) ≡ true
rows_closed m before after live left all =
    list_all-filter (has_cursor after) (λ (c : LiveCursor). not (c.number == m)) live
    ∙ list_all-so (has_cursor before) (λ (c : LiveCursor). not (not (c.number == m)) || has_cursor after c)
    (λ c on. unless (not (c.number == m)) (has_cursor after c) (λ other. left c other on)) live all

-- A Next changes no cursor's number and no cursor's width.
rows_over : (m : ℕ) (answer : DriverAnswer) (on : List wires.LiveCursor) (live : List LiveCursor) → has_cursors on (cursor_changed m (after_next answer) live) ≡ has_cursors on live
rows_over m answer on [] = refl
rows_over m answer on (c ∷ cs) = go (c.number == m) (rows_over m answer on cs)
  where
    go : (b : Bool) → has_cursors on (cursor_changed m (after_next answer) cs) ≡ has_cursors on cs → has_cursors on (cond b (after_next answer c) c ∷ cursor_changed m (after_next answer) cs) ≡ has_cursors on (c ∷ cs)
    go true h = ap (λ b. has_cursor on c && b) h
    go false h = ap (λ b. has_cursor on c && b) h

all_stay : (call : DriverCall) (answer : DriverAnswer) (before after : List wires.LiveCursor) (live : List LiveCursor) → is_close_rows call ≡ false → KeepsCursors call answer before after → has_cursors before live ≡ true
    → has_cursors after live ≡ true
all_stay call answer before after live none k all = list_all-so (has_cursor before) (has_cursor after) (cursor_stays call answer before after none k) live all

pub keeps_cursors : (e : Entry) (call : DriverCall) (answer : DriverAnswer) (before after : List wires.LiveCursor) (live : List LiveCursor) → KeepsCursors call answer before after → has_cursors before live ≡ true
    → has_cursors after (cursors_after e call answer live) ≡ true
keeps_cursors e (Query input params) (Cursor rows columns) before after live k all =
    let c : LiveCursor = record { number = rows; tenure = e.tenure; tx = e.tx; columns = length columns; over = false } in
    let same : (rows == rows) && (length columns == length columns) ≡ true = join2 (rows == rows) (length columns == length columns) (same_number rows) (same_number (length columns)) in
    join2 (has_cursor after c) (has_cursors after live) (rw k.0 (first ((rows == rows) && (length columns == length columns)) (has_cursor before c) same))
    (all_stay (Query input params) (Cursor rows columns) before after live refl k all)
keeps_cursors e (Next rows) answer before after live k all = rows_over rows answer after live ∙ all_stay (Next rows) answer before after live refl k all
keeps_cursors e (CloseRows rows) answer before after live k all = rows_closed rows before after live (cursor_left rows answer before after k) all
keeps_cursors e call answer before after live k all = all_stay call answer before after live refl k all

-- After a call whose answer isn't `Memory`, the wire's report is the earlier one with this call and its answer
-- at the end.
pub told_heard : (call : DriverCall) (answer : DriverAnswer) (told : Option WireTold) → is_memory answer ≡ false → told_after call answer told ≡ option_map (with_call (call, answer)) told
told_heard call Memory told h = absurd cc
told_heard call _ told h = refl

tells_more : (told : Option WireTold) (conn : ℕ) (journal : List Entry) (e : Entry) → IfSome told (TellsOf conn journal) → IfSome (option_map (with_call (e.call, e.answer)) told) (TellsOf conn (e ∷ journal))
tells_more None conn journal e h = tt
tells_more (Some told) conn journal e h = record { number = h.number; calls = ap (λ t. t ++ (e.call, e.answer) ∷ []) h.calls }

-- A wire that agrees with its journal still agrees with it after one more call.
pub agrees_then : (told told2 : Option WireTold) (hs hs2 : List ℕ) (cs cs2 : List wires.LiveCursor) (conn : ℕ) (journal : List Entry) (e : Entry) → Agrees told hs cs conn journal → is_memory e.answer ≡ false
    → told2 ≡ told_after e.call e.answer told → KeepsHandles e.call e.answer hs hs2 → KeepsCursors e.call e.answer cs cs2 → Agrees told2 hs2 cs2 conn (e ∷ journal)
agrees_then told told2 hs hs2 cs cs2 conn journal e a m more kh kc = record {
  started = refl;
  tells = let is : told2 ≡ option_map (with_call (e.call, e.answer)) told = more ∙ told_heard e.call e.answer told m in rw is (tells_more told conn journal e a.tells);
  handles_live = keeps_handles e e.call e.answer hs hs2 (handles journal) kh a.handles_live;
  cursors_live = keeps_cursors e e.call e.answer cs cs2 (cursors journal) kc a.cursors_live;
}

-- The wire also agrees with its journal if the new entry is given as what an answer makes of a permit.
pub agrees_made : (told told2 : Option WireTold) (hs hs2 : List ℕ) (cs cs2 : List wires.LiveCursor) (conn : ℕ) (journal : List Entry) (p : Permit) (a : DriverAnswer) (e : Entry) → e ≡ answered p a → Agrees told hs cs conn journal
    → is_memory a ≡ false → told2 ≡ told_after p.call a told → KeepsHandles p.call a hs hs2 → KeepsCursors p.call a cs cs2 → Agrees told2 hs2 cs2 conn (e ∷ journal)
agrees_made told told2 hs hs2 cs cs2 conn journal p a e is agrees m more kh kc =
    let made : Makes p a e = makes p a e is in
    agrees_then told told2 hs hs2 cs cs2 conn journal e agrees (rw made.answer m) (rw (made.call, made.answer) more) (rw (made.call, made.answer) kh) (rw (made.call, made.answer) kc)
