-- What is sent over rows that were made carries no statement. Therefore neither does what ends a transaction or
-- what the layer tidies up.
use Rattle.std.proofs.Common.{◌≡◌, ℕ, ◌==◌, ◌+◌, Bool, true, false, not, ◌||◌, cond, List, [], ◌∷◌, Option, Some, None, is_some, refl, sym, ap, ◌∙◌}
use Rattle.std.specs.List.{list_any}
use Rattle.dsql_laws_calls.specs.driver.declared.call.DriverCall.{DriverCall}
use Rattle.dsql_laws_calls.specs.driver.Kinds.{is_ending, is_valid}
use Rattle.dsql_laws_calls.specs.course.declared.course.Wish.{Wish}
use Rattle.dsql_laws_calls.specs.course.declared.course.Wish.TheVariants as wishes
use Rattle.dsql_laws_calls.specs.course.Made.{or_else}
use Rattle.dsql_laws_calls.specs.journal.declared.entry.Entry.{Entry}
use Rattle.dsql_laws_calls.specs.journal.declared.entry.Owner.{Owner}
use Rattle.dsql_laws_calls.specs.journal.Kinds.{is_call, number_of}
use Rattle.dsql_laws_calls.specs.journal.Readers.{went_bad}
use Rattle.dsql_laws_calls.specs.pool.declared.conn.Place.{Place}
use Rattle.dsql_laws_calls.specs.pool.declared.conn.Place.TheVariants.{Lent}
use Rattle.dsql_laws_calls.specs.tx.declared.end.TxEnd.{TxEnd}
use Rattle.dsql_laws_calls.specs.tx.declared.end.TxEnd.TheVariants as ends
use Rattle.dsql_laws_calls.specs.works.Exchanges.{exchanges}
use Rattle.dsql_laws_calls.specs.works.Line.{handed, line_after, test_of}
use Rattle.dsql_laws_calls.specs.history.Readers.HandedOut.{are_over, ender, rows_by}
use Rattle.dsql_laws_calls.proofs.laws.Tests.{same_itself, same_number}
use Rattle.dsql_engine_exchanged.specs.Filled.{carries_statement}
use Rattle.dsql_laws_calls.specs.history.declared.event.Event.{Event}
use Rattle.dsql_laws_calls.specs.history.declared.work.Scope.TheVariants.{Db, Held}
use Rattle.dsql_laws_calls.specs.history.declared.work.Work.{Work}
use Rattle.dsql_laws_calls.specs.history.declared.work.Task.TheVariants.{HandOut}
use Rattle.dsql_laws_calls.specs.history.declared.work.Work.TheVariants.{Statement}
use Rattle.dsql_laws_calls.specs.history.Readers.Calls.{site}
use Rattle.dsql_laws_calls.specs.history.Readers.Course.{caps}
use Rattle.dsql_laws_calls.specs.history.Readers.Journals.{heard_in, journal}
use Rattle.dsql_laws_calls.specs.history.Readers.Lines.{line_among}
use Rattle.dsql_laws_calls.specs.history.Readers.Pool.{home, place}
use Rattle.dsql_laws_calls.specs.history.Readers.Transactions.{is_begun, tx_end, tx_ender}
use Rattle.dsql_laws_calls.specs.history.Readers.Works.{aim_of, borrower, hands_out_in, owner_as, owner_of, scope, work, works}
use Rattle.dsql_laws_calls.specs.history.Rules.Ending.{end_after, ended_by_call, ending, ending_at, ending_with, first_closing}
use Rattle.dsql_laws_calls.specs.history.Rules.Line.{tidying}
use Rattle.dsql_laws_calls.specs.history.Rules.Sent.{asked_by, close_due, is_reset_due, line_at, line_of, sent_for, untested}
use Rattle.dsql_laws_calls.specs.history.Legal.{Lawful}
use Rattle.dsql_laws_calls.proofs.Beginnings.{begin_owner}
use Rattle.dsql_laws_calls.proofs.Begun.{begun_begins}
use Rattle.dsql_laws_calls.proofs.CallTenures.{line_of_call}
use Rattle.dsql_laws_calls.proofs.DueWay.{inner_is}
use Rattle.dsql_laws_calls.proofs.HandedRows.{rows_begun}
use Rattle.dsql_laws_calls.proofs.Lines.{line_there}
use Rattle.dsql_laws_calls.proofs.LiveRows.{over_some}
use Rattle.dsql_laws_calls.proofs.Makers.{hands_out, rows_hand_out}
use Rattle.dsql_laws_calls.proofs.Owners.{owner_is_of}
use Rattle.dsql_laws_calls.proofs.Plain.{begins}
use Rattle.dsql_laws_calls.proofs.RowsNew.{held}
use Rattle.dsql_laws_due.proofs.Holds.{Holds, Kept}
use Rattle.dsql_laws_due.proofs.Kept.{holds}
use Rattle.dsql_engine_lines.proofs.Unstated.{inner_unstated, is_unstated, line_unstated, test_unstated, unstated_either}

-- What is sent in the line of a query that handed out its rows.

in_tx : (H : List Event) (n c t k : ℕ) (own : Owner) (wish : Wish) → Lawful H → place H c ≡ Some (Lent t own) → number_of own ≡ k → scope (work H n) ≡ Held k → hands_out_in k (work H n) ≡ true → is_some (rows_by H n) ≡ true
    → is_unstated (line_there H c t own n wish) ≡ true
in_tx H n c t k own wish l is number inner hands made =
    let begins_it = begun_begins H k l (rows_begun H n k l made hands) in
    let other : is_call own ≡ false = begin_owner H c t own l is (ap (λ j. begins (work H j)) number ∙ begins_it) in
    let kept = Holds.kept (holds H l) in
    let given = Kept.handed kept c t own is n (ap (λ j. hands_out_in j (work H n)) number ∙ hands) made in
    let line = exchanges (line_among n (heard_in H c t)) in
    ap is_unstated (inner_is H c t own n wish k other inner)
    ∙ inner_unstated (untested (caps H)) (went_bad (journal H c)) (asked_by H n) wish line (handed (asked_by H n).aim line) given

on_db : (H : List Event) (n c t : ℕ) (own : Owner) (label : List ℕ) (wish : Wish) → Lawful H → place H c ≡ Some (Lent t own) → number_of own ≡ n → work H n ≡ Statement Db (HandOut label) → is_some (rows_by H n) ≡ true
    → is_unstated (line_there H c t own n wish) ≡ true
on_db H n c t own label wish l is number hands made =
    let of_it = owner_is_of H c t own l is in
    let call : is_call own ≡ true = ap is_call of_it.1 ∙ ap (λ j. is_call (owner_of H j)) number ∙ ap (λ w. is_call (owner_as w n)) hands in
    let given = held H c t own l is (ap (λ j. is_some (rows_by H j)) number ∙ made) in
    let aimed : is_some (handed (asked_by H n).aim (exchanges (heard_in H c t))) ≡ true = ap (λ w. is_some (handed (aim_of w) (exchanges (heard_in H c t)))) hands ∙ given in
    ap (λ j. is_unstated (line_there H c t own j wish)) (sym number)
    ∙ (ap is_unstated (line_of_call H c t own wish l is call)
    ∙ (ap (λ j. is_unstated (line_after (caps H) (is_reset_due H c) (asked_by H j) wish (heard_in H c t))) number
    ∙ line_unstated (caps H) (is_reset_due H c) (asked_by H n) wish (heard_in H c t) aimed))

pub rows_unstated : (H : List Event) (n : ℕ) (wish : Wish) → Lawful H → is_some (rows_by H n) ≡ true → is_unstated (line_of H n wish) ≡ true
rows_unstated H n wish l made = at (site H n) (place H (site H n)) refl
  where
    there : (c t : ℕ) (own : Owner) → place H c ≡ Some (Lent t own) → number_of own ≡ borrower H n → (w : Work) → work H n ≡ w → hands_out w ≡ true → is_unstated (line_there H c t own n wish) ≡ true
    there c t own is number (Statement Db (HandOut label)) its h = on_db H n c t own label wish l is (number ∙ rw its refl) its made
    there c t own is number (Statement (Held k) (HandOut label)) its h =
        in_tx H n c t k own wish l is (number ∙ rw its refl) (ap scope its) (ap (hands_out_in k) its ∙ same_itself k) made
    there c t own is number w its h = absurd cc

    lent : (c t : ℕ) (own : Owner) → place H c ≡ Some (Lent t own) → (b : Bool) → (number_of own == borrower H n) ≡ b → is_unstated (cond b (line_there H c t own n wish) None) ≡ true
    lent c t own is true same = there c t own is (same_number (number_of own) (borrower H n) same) (work H n) refl (rows_hand_out H n made)
    lent c t own is false other = refl

    at : (c : ℕ) (p : Option Place) → place H c ≡ p → is_unstated (line_at H n wish c p) ≡ true
    at c (Some (Lent t own)) is = lent c t own is (number_of own == borrower H n) refl
    at c _ is = refl

pub sent_unstated : (H : List Event) (k : ℕ) (wish : Wish) → Lawful H → is_some (rows_by H k) ≡ true → is_unstated (sent_for H k wish) ≡ true
sent_unstated H k wishes.Nothing l made = refl
sent_unstated H k wishes.Fetch l made = rows_unstated H k wishes.Fetch l made
sent_unstated H k wishes.Close l made = rows_unstated H k wishes.Close l made

-- What ends a transaction, and what the layer tidies up.

closing_unstated : (H : List Event) (n : ℕ) → Lawful H → is_unstated (close_due H n) ≡ true
closing_unstated H n l = by (are_over H n) refl
  where
    by : (b : Bool) → are_over H n ≡ b → is_unstated (cond b (line_of H n wishes.Close) None) ≡ true
    by true is = rows_unstated H n wishes.Close l (over_some (rows_by H n) is)
    by false is = refl

or_unstated : (one other : Option DriverCall) → is_unstated one ≡ true → is_unstated other ≡ true → is_unstated (or_else one other) ≡ true
or_unstated None other h k = k
or_unstated (Some call) other h k = h

first_unstated : (H : List Event) (k n : ℕ) (ws : List Work) → Lawful H → is_unstated (first_closing H k n ws) ≡ true
first_unstated H k n [] l = refl
first_unstated H k n (it ∷ later) l =
    or_unstated (cond (hands_out_in k it) (close_due H n) None) (first_closing H k (n + 1) later)
    (unstated_either (hands_out_in k it) (close_due H n) None (closing_unstated H n l) refl) (first_unstated H k (n + 1) later l)

call_unstated : (end : TxEnd) → is_unstated (Some (ended_by_call end)) ≡ true
call_unstated ends.Commit = refl
call_unstated end = refl

end_unstated : (H : List Event) (bad : Bool) (end : TxEnd) (heard : List Entry) → is_unstated (end_after H bad end heard) ≡ true
end_unstated H bad end heard =
    unstated_either (list_any (λ e. is_ending e.call) heard) (cond (bad || list_any (λ e. is_valid e.call) heard) None (test_of (caps H))) (Some (ended_by_call end))
    (unstated_either (bad || list_any (λ e. is_valid e.call) heard) None (test_of (caps H)) refl (test_unstated (caps H))) (call_unstated end)

pub ending_unstated : (H : List Event) (k : ℕ) → Lawful H → is_unstated (ending H k) ≡ true
ending_unstated H k l = by (tx_end H k)
  where
    at : (c : ℕ) (end : TxEnd) (p : Option Place) → is_unstated (ending_at H k c end p) ≡ true
    at c end (Some (Lent t own)) =
        unstated_either (number_of own == k) (or_else (first_closing H k 0 (works H)) (end_after H (went_bad (journal H c)) end (heard_in H c t))) None
        (or_unstated (first_closing H k 0 (works H)) (end_after H (went_bad (journal H c)) end (heard_in H c t)) (first_unstated H k 0 (works H) l)
        (end_unstated H (went_bad (journal H c)) end (heard_in H c t))) refl
    at c end _ = refl

    by : (end : Option TxEnd) → is_unstated (ending_with H k end) ≡ true
    by None = refl
    by (Some end) = at (home H k) end (place H (home H k))

tidying_unstated : (H : List Event) (n : ℕ) → Lawful H → is_unstated (tidying H n) ≡ true
tidying_unstated H n l =
    unstated_either (is_begun H n) (cond (tx_ender H n == 0) (ending H n) None) (cond (ender H n == 0) (close_due H n) None)
    (unstated_either (tx_ender H n == 0) (ending H n) None (ending_unstated H n l) refl)
    (unstated_either (ender H n == 0) (close_due H n) None (closing_unstated H n l) refl)

-- The same, stated of the driver call itself.

unstated : (o : Option DriverCall) (call : DriverCall) → is_unstated o ≡ true → o ≡ Some call → carries_statement call ≡ false
unstated o call h is = by (carries_statement call) (sym (ap is_unstated is) ∙ h)
  where
    by : (b : Bool) → not b ≡ true → b ≡ false
    by true k = absurd cc
    by false k = refl

pub over_rows : (H : List Event) (n : ℕ) (wish : Wish) (call : DriverCall) → Lawful H → is_some (rows_by H n) ≡ true → line_of H n wish ≡ Some call → carries_statement call ≡ false
over_rows H n wish call l made is = unstated (line_of H n wish) call (rows_unstated H n wish l made) is

pub to_end : (H : List Event) (k : ℕ) (call : DriverCall) → Lawful H → ending H k ≡ Some call → carries_statement call ≡ false
to_end H k call l is = unstated (ending H k) call (ending_unstated H k l) is

pub to_tidy : (H : List Event) (n : ℕ) (call : DriverCall) → Lawful H → tidying H n ≡ Some call → carries_statement call ≡ false
to_tidy H n call l is = unstated (tidying H n) call (tidying_unstated H n l) is
