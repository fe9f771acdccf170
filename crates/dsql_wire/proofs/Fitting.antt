-- An answer of a wire fits at its place in the journal that agrees with the wire. Each condition on the answer follows
-- from what is live on the wire.
use Rattle.std.proofs.Common.{◌≡◌, ℕ, true, false, not, Option, Some, None, List, [], ◌∷◌, length, refl, ◌∙◌, ap}
use Rattle.std.specs.List.{list_all}
use Rattle.dsql_driver.specs.declared.call.DriverCall.{DriverCall}
use Rattle.dsql_driver.specs.declared.call.DriverCall.TheVariants.{Next, CloseRows}
use Rattle.dsql_driver.specs.declared.answer.DriverAnswer.{DriverAnswer}
use Rattle.dsql_driver.specs.declared.answer.DriverAnswer.TheVariants.{Prepared, Cursor, Row}
use Rattle.dsql_driver.specs.Fits.{fits_of, is_memory}
use Rattle.dsql_driver.specs.Wires as wires
use Rattle.dsql_driver.specs.Wires.{WireTold, KeepsHandles, KeepsCursors}
use Rattle.dsql_tenure_journal.specs.declared.entry.Entry.{Entry}
use Rattle.dsql_tenure_journal.specs.Kinds.{if_any}
use Rattle.dsql_driver.specs.Kinds.{cursor_of, given_handle, given_cursor}
use Rattle.dsql_tenure_journal.specs.Readers.{is_empty, LiveCursor, handles, cursors, handles_named, cursors_named}
use Rattle.dsql_tenure_journal.specs.HandlesAndCursors.{fits_at_its_place, is_heard, is_fitting, gives_new_handle, gives_new_cursor, has_width_of_cursor, is_as_wide}
use Rattle.dsql_tenure_journal.proofs.Conjunctions.{join5}
use Rattle.dsql_tenure.specs.Beginnings.{is_beginning_of, IsBeginningOf}
use Rattle.dsql_tenure.specs.Judged.{answered}
use Rattle.dsql_tenure_journal.specs.declared.entry.Permit.{Permit}
use Rattle.dsql_wire.proofs.Answered.{Makes, makes}
use Rattle.dsql_wire.specs.Journaled.{Agrees, has_handles, has_cursors}
use Rattle.dsql_wire.proofs.Lists.{no_handle, no_cursor, as_wide}

new_handle : (journal : List Entry) (call : DriverCall) (answer : DriverAnswer) (before after : List ℕ) → has_handles before (handles journal) ≡ true → KeepsHandles call answer before after
    → if_any (given_handle answer) (λ h. is_empty (handles_named h journal)) ≡ true
new_handle journal call (Prepared handle inputs) before after live k = no_handle handle before (handles journal) k.1 live
new_handle journal call _ before after live k = refl

new_cursor : (journal : List Entry) (call : DriverCall) (answer : DriverAnswer) (before after : List wires.LiveCursor) → has_cursors before (cursors journal) ≡ true → KeepsCursors call answer before after
    → if_any (given_cursor answer) (λ r. is_empty (cursors_named r journal)) ≡ true
new_cursor journal call (Cursor rows columns) before after live k = no_cursor rows before (cursors journal) k.1 live
new_cursor journal call _ before after live k = refl

width_of_row : (journal : List Entry) (call : DriverCall) (values : _) (before after : List wires.LiveCursor) → has_cursors before (cursors journal) ≡ true → fits_of call (Row values) ≡ true
    → KeepsCursors call (Row values) before after → if_any (cursor_of call) (λ r. list_all (is_as_wide (Row values)) (cursors_named r journal)) ≡ true
width_of_row journal (Next rows) values before after live fits k = as_wide rows (length values) before (cursors journal) k.1 live
width_of_row journal (CloseRows rows) values before after live fits k = let clash : false ≡ true = fits in absurd cc
width_of_row journal _ values before after live fits k = refl

any_width : (journal : List Entry) (answer : DriverAnswer) (o : Option ℕ) → ((c : LiveCursor) → is_as_wide answer c ≡ true) → if_any o (λ r. list_all (is_as_wide answer) (cursors_named r journal)) ≡ true
any_width journal answer None wide = refl
any_width journal answer (Some r) wide = all_wide (cursors_named r journal)
  where
    all_wide : (cs : List LiveCursor) → list_all (is_as_wide answer) cs ≡ true
    all_wide [] = refl
    all_wide (c ∷ cs) = rw (wide c) (all_wide cs)

width : (journal : List Entry) (call : DriverCall) (answer : DriverAnswer) (before after : List wires.LiveCursor) → has_cursors before (cursors journal) ≡ true → fits_of call answer ≡ true
    → KeepsCursors call answer before after → if_any (cursor_of call) (λ r. list_all (is_as_wide answer) (cursors_named r journal)) ≡ true
width journal call (Row values) before after live fits k = width_of_row journal call values before after live fits k
width journal call answer before after live fits k = any_width journal answer (cursor_of call) (λ c. refl)

heard_answer : (answer : DriverAnswer) → is_memory answer ≡ false → not (is_memory answer) ≡ true
heard_answer answer h = rw h refl

-- An entry whose answer the wire may give fits at its place in the journal.
pub fits_there : (told : Option WireTold) (hs hs2 : List ℕ) (cs cs2 : List wires.LiveCursor) (conn : ℕ) (journal : List Entry) (e : Entry) → Agrees told hs cs conn journal
    → is_memory e.answer ≡ false → fits_of e.call e.answer ≡ true → KeepsHandles e.call e.answer hs hs2 → KeepsCursors e.call e.answer cs cs2 → fits_at_its_place journal e ≡ true
fits_there told hs hs2 cs cs2 conn journal e a m f kh kc =
    join5 (is_heard e) (is_fitting e) (gives_new_handle journal e) (gives_new_cursor journal e) (has_width_of_cursor journal e)
    (heard_answer e.answer m) f (new_handle journal e.call e.answer hs hs2 a.handles_live kh) (new_cursor journal e.call e.answer cs cs2 a.cursors_live kc) (width journal e.call e.answer cs cs2 a.cursors_live f kc)

-- The entry that such an answer makes of a permit fits at its place.
pub fits_made : (told : Option WireTold) (hs hs2 : List ℕ) (cs cs2 : List wires.LiveCursor) (conn : ℕ) (journal : List Entry) (p : Permit) (a : DriverAnswer) (e : Entry) → e ≡ answered p a → Agrees told hs cs conn journal
    → is_memory a ≡ false → fits_of p.call a ≡ true → KeepsHandles p.call a hs hs2 → KeepsCursors p.call a cs cs2 → fits_at_its_place journal e ≡ true
fits_made told hs hs2 cs cs2 conn journal p a e is agrees m f kh kc =
    let made : Makes p a e = makes p a e is in
    fits_there told hs hs2 cs cs2 conn journal e agrees (rw made.answer m) (rw (made.call, made.answer) f) (rw (made.call, made.answer) kh) (rw (made.call, made.answer) kc)

-- A journal with equal parts begins a connection if the other does.
pub same_beginning : (c d : ℕ) (e f : Entry) (j k : List Entry) → c ≡ d → e ≡ f → j ≡ k → IsBeginningOf d (f ∷ k) → IsBeginningOf c (e ∷ j)
same_beginning c d e f j k conns entries journals h =
    ap (λ n. is_beginning_of n (e ∷ j)) conns
    ∙ ap (λ (x : Entry). is_beginning_of d (x ∷ j)) entries
    ∙ ap (λ (x : List Entry). is_beginning_of d (f ∷ x)) journals
    ∙ h
