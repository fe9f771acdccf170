-- A call that has its reply settled when it enters has nothing to send. It has no connection, wants nothing of
-- rows, and ends no transaction.
use Rattle.std.proofs.Common.{◌≡◌, ◌≢◌, ℕ, ◌==◌, Bool, true, false, not, ◌&&◌, ◌||◌, cond, List, ◌∷◌, Option, Some, None, is_some, is_none, refl, sym, ap, subst, ◌∙◌, arith}
use Rattle.dsql_laws_calls.specs.course.declared.course.Wish.TheVariants as wishes
use Rattle.dsql_laws_calls.specs.numbered.Numbered.{thing_of, changed}
use Rattle.dsql_laws_calls.specs.rows.declared.end.RowsEnd.TheVariants as ends
use Rattle.dsql_laws_calls.specs.rows.declared.rows.Rows.{Rows}
use Rattle.dsql_laws_calls.specs.rows.OpenRows.{ended_by, rows_of}
use Rattle.dsql_laws_calls.specs.tx.declared.end.TxEnd.{TxEnd}
use Rattle.dsql_laws_calls.specs.tx.declared.end.TxEnd.TheVariants as tx_ends
use Rattle.dsql_laws_calls.specs.tx.Transactions.{ended_by as ended_tx}
use Rattle.dsql_laws_calls.specs.history.Readers.HandedOut.{live, handed_out, rows_by, are_live, ended_at, ender}
use Rattle.dsql_laws_calls.specs.history.Rules.Wishes.{wish_as}
use Rattle.dsql_laws_calls.proofs.laws.Tests.{both, same_number}
use Rattle.dsql_laws_calls.proofs.laws.Tried.{lent_count}
use Rattle.dsql_laws_calls.specs.history.declared.event.Event.{Event}
use Rattle.dsql_laws_calls.specs.history.declared.event.Event.TheVariants.{Entered}
use Rattle.dsql_laws_calls.specs.history.declared.event.Op.{Op}
use Rattle.dsql_laws_calls.specs.history.declared.event.Op.TheVariants as ops
use Rattle.dsql_laws_calls.specs.history.declared.event.Target.TheVariants as targets
use Rattle.dsql_laws_calls.specs.history.declared.reply.Reply.{Reply}
use Rattle.dsql_laws_calls.specs.history.declared.reply.Reply.TheVariants.{Absent}
use Rattle.dsql_laws_calls.specs.history.declared.reply.Reply.TheVariants as reply
use Rattle.dsql_laws_calls.specs.history.declared.work.Scope.TheVariants.{Held}
use Rattle.dsql_laws_calls.specs.history.Readers.Calls.{told_at_entry, done_with, tx_refused, site, decided}
use Rattle.dsql_laws_calls.specs.history.Readers.Decisions.{rows_reply}
use Rattle.dsql_laws_calls.specs.history.Readers.Journals.{journal}
use Rattle.dsql_laws_calls.specs.history.Readers.Lines.{has_sent}
use Rattle.dsql_laws_calls.specs.history.Readers.Pool.{pool}
use Rattle.dsql_laws_calls.specs.history.Readers.Transactions.{transactions, tx_by, tx_end, is_begun, is_over, goes_on, tx_ender}
use Rattle.dsql_laws_calls.specs.history.Readers.Unfinished.{is_unfinished}
use Rattle.dsql_laws_calls.specs.history.Readers.Works.{works, work, work_of, is_fetch, asks, rows_maker, tx_maker}
use Rattle.dsql_laws_calls.specs.history.Rules.Ending.{ending}
use Rattle.dsql_laws_calls.specs.history.Rules.Line.{due_inside, due_in, due_for}
use Rattle.dsql_laws_calls.specs.history.Rules.Sent.{line_of, closes, wish, sent_for}
use Rattle.dsql_laws_calls.specs.history.Legal.{Allowed, Lawful}
use Rattle.dsql_laws_calls.proofs.AtEnd.{no_work_yet}
use Rattle.dsql_laws_calls.proofs.Enders.{same_ender}
use Rattle.dsql_laws_calls.proofs.Ends.{new_unlent}
use Rattle.dsql_laws_calls.proofs.Idle.{due_lent}
use Rattle.dsql_laws_calls.proofs.Rows.{is_worker, ender_works}
use Rattle.dsql_laws_calls.proofs.TxEnders.{tx_ender_works, same_going, sent_entered}
use Rattle.dsql_laws_calls.proofs.UnderWay.{clash}
use Rattle.dsql_laws_calls.proofs.Works.{enters_next, new_record, new_work}
use Rattle.dsql_laws_others.proofs.Alike.{same_tx_ender}

-- A call that enters and has its reply settled at once.
record Told (H : List Event) (client n : ℕ) (op : Op) : Type 0 where
  lawful : Lawful (Entered client n op ∷ H)
  number : n ≢ 0
  told : is_some (told_at_entry H op) ≡ true

entered_told : (H : List Event) (client n : ℕ) (op : Op) → Allowed H (Entered client n op) → decided (Entered client n op ∷ H) n ≡ told_at_entry H op
entered_told H client n op a = ap (λ r. r.decided) (new_record H client n op (enters_next H client n op a))

unsettled : (o : Option Reply) → is_some o ≡ true → is_none o ≡ false
unsettled None h = absurd cc
unsettled (Some r) h = refl

undecided_not : (H : List Event) (client n : ℕ) (op : Op) → Told H client n op → is_none (decided (Entered client n op ∷ H) n) ≡ false
undecided_not H client n op s = let l = s.lawful in ap (λ o. is_none o) (entered_told H client n op l.1) ∙ unsettled (told_at_entry H op) s.told

-- The call ended nothing before.

works_before : (H : List Event) (client n : ℕ) (op : Op) → Allowed H (Entered client n op) → is_worker (work H n) ≡ false
works_before H client n op a = let new = enters_next H client n op a in ap is_worker (no_work_yet H n (omega (arith, new)))

no_ender : (H : List Event) (client n : ℕ) (op : Op) (k : ℕ) → Told H client n op → ender H k ≡ n → ⊥
no_ender H client n op k s its =
    let l = s.lawful in
    let works_it : is_worker (work H n) ≡ true = subst (λ i. is_worker (work H i) ≡ true) its (ender_works H k l.0 (λ none. s.number (sym its ∙ none))) in
    clash (sym works_it ∙ works_before H client n op l.1)

no_tx_ender : (H : List Event) (client n : ℕ) (op : Op) (k : ℕ) → Told H client n op → tx_ender H k ≡ n → ⊥
no_tx_ender H client n op k s its =
    let l = s.lawful in
    let works_it : is_worker (work H n) ≡ true = subst (λ i. is_worker (work H i) ≡ true) its (tx_ender_works H k l.0 (λ none. s.number (sym its ∙ none))) in
    clash (sym works_it ∙ works_before H client n op l.1)

-- The call has no connection, and has sent nothing in a transaction.

own_silent : (H : List Event) (client n : ℕ) (op : Op) → Told H client n op → pool (Entered client n op ∷ H) ≡ pool H → asks (work (Entered client n op ∷ H) n) ≡ true
    → is_some (due_in (Entered client n op ∷ H) n (work (Entered client n op ∷ H) n)) ≡ true → ⊥
own_silent H client n op s same asking due =
    let l = s.lawful in
    let many = due_lent (Entered client n op ∷ H) n asking due in
    let none = new_unlent H client n op l.0 l.1 in
    let as_before : lent_count n (pool (Entered client n op ∷ H)) ≡ lent_count n (pool H) = ap (lent_count n) same in
    absurd (omega (arith, many, none, as_before))

inner_silent : (H : List Event) (client n : ℕ) (op : Op) (k : ℕ) → Told H client n op → is_some (due_inside (Entered client n op ∷ H) n (Held k)) ≡ true → ⊥
inner_silent H client n op k s due = by (has_sent n (journal H (site K n))) refl due
  where
    K : List Event
    K = Entered client n op ∷ H

    last : (g : Bool) → (g && false) ≡ false
    last true = refl
    last false = refl

    by : (b : Bool) → has_sent n (journal H (site K n)) ≡ b → is_some (cond (b || (goes_on K k && is_none (decided K n))) (line_of K n wishes.Nothing) None) ≡ true → ⊥
    by true sent x = let l = s.lawful in let old = sent_entered H (site K n) n l.0 s.number sent in let new = enters_next H client n op l.1 in absurd (omega (arith, old, new))
    by false sent x =
        let none : (goes_on K k && is_none (decided K n)) ≡ false = ap (λ b. goes_on K k && b) (undecided_not H client n op s) ∙ last (goes_on K k) in
        clash (sym x ∙ ap (λ b. is_some (cond b (line_of K n wishes.Nothing) None)) none)

-- The call wants nothing of rows, and ends no transaction.

rows_silent : (H : List Event) (client n : ℕ) (op : Op) (k : ℕ) → Told H client n op → (ender (Entered client n op ∷ H) k ≡ n → ⊥) → is_some (sent_for (Entered client n op ∷ H) k (wish (Entered client n op ∷ H) n k)) ≡ true → ⊥
rows_silent H client n op k s never due = by (closes K n k) (is_fetch (work K n) && (are_live K k && is_none (decided K n))) refl refl due
  where
    K : List Event
    K = Entered client n op ∷ H

    by : (a b : Bool) → closes K n k ≡ a → (is_fetch (work K n) && (are_live K k && is_none (decided K n))) ≡ b → is_some (sent_for K k (wish_as a b)) ≡ true → ⊥
    by true b ended fetches x = let e = both (ender K k == n) _ ended in never (same_number (ender K k) n e.0)
    by false true ended fetches x =
        let f = both (is_fetch (work K n)) (are_live K k && is_none (decided K n)) fetches in
        let g = both (are_live K k) (is_none (decided K n)) f.1 in
        clash (sym g.1 ∙ undecided_not H client n op s)
    by false false ended fetches x = absurd cc

close_ends_none : (H : List Event) (client n : ℕ) (label : List ℕ) → Told H client n (ops.RowsClose label) → ender (Entered client n (ops.RowsClose label) ∷ H) (rows_maker (works H) label) ≡ n → ⊥
close_ends_none H client n label s its = by (is_unfinished H k) (are_live H k) refl refl
  where
    K : List Event
    K = Entered client n (ops.RowsClose label) ∷ H

    k : ℕ
    k = rows_maker (works H) label

    untold : (o : Option Rows) → live o ≡ true → is_some (rows_reply o (ops.RowsClose label)) ≡ false
    untold None h = absurd cc
    untold (Some r) h = ap (λ b. is_some (cond b None (Some reply.Ok))) h

    by : (u b : Bool) → is_unfinished H k ≡ u → are_live H k ≡ b → ⊥
    by u false unfinished lives = no_ender H client n (ops.RowsClose label) k s (sym (ap (λ b. cond b (ended_at (Entered client n (ops.RowsClose label)) (are_live K k)) (ender H k)) lives) ∙ its)
    by true true unfinished lives =
        let same : are_live K k ≡ are_live H k = ap (λ b. live (rows_of k (cond b (handed_out H) (changed (ended_by ends.Close) k (handed_out H))))) unfinished in
        no_ender H client n (ops.RowsClose label) k s (sym (same_ender H (Entered client n (ops.RowsClose label)) k same) ∙ its)
    by false true unfinished lives =
        clash (sym s.told ∙ (ap (λ b. is_some (rows_reply (cond b None (rows_by H k)) (ops.RowsClose label))) unfinished ∙ untold (rows_by H k) lives))

tx_ends_none : (H : List Event) (client n : ℕ) (op : Op) (tx : List ℕ) → Told H client n op → is_some (tx_refused H tx) ≡ true
    → (is_unfinished H (tx_maker (works H) tx) ≡ true → tx_by (Entered client n op ∷ H) (tx_maker (works H) tx) ≡ tx_by H (tx_maker (works H) tx)) → tx_ender (Entered client n op ∷ H) (tx_maker (works H) tx) ≡ n → ⊥
tx_ends_none H client n op tx s told kept its = by (is_unfinished H k) (goes_on H k) refl refl
  where
    K : List Event
    K = Entered client n op ∷ H

    k : ℕ
    k = tx_maker (works H) tx

    unended : (o : Option TxEnd) → not (is_some o) ≡ true → is_some (done_with o) ≡ false
    unended None h = refl
    unended (Some end) h = absurd cc

    by : (u g : Bool) → is_unfinished H k ≡ u → goes_on H k ≡ g → ⊥
    by u false unfinished goes = no_tx_ender H client n op k s (sym (ap (λ b. cond b (cond (goes_on K k) 0 n) (tx_ender H k)) goes) ∙ its)
    by true true unfinished goes = no_tx_ender H client n op k s (sym (same_tx_ender H (Entered client n op) k (same_going (tx_by H k) (tx_by K k) (kept unfinished))) ∙ its)
    by false true unfinished goes =
        let g = both (is_begun H k) (not (is_over H k)) goes in
        clash (sym told
        ∙ (ap (λ b. is_some (cond (b && not (is_unfinished H k)) (done_with (tx_end H k)) (Some (Absent tx)))) g.0
        ∙ (ap (λ b. is_some (cond (not b) (done_with (tx_end H k)) (Some (Absent tx)))) unfinished ∙ unended (tx_end H k) g.1)))

ends_silent : (H : List Event) (n k : ℕ) (K : List Event) → (tx_ender K k ≡ n → ⊥) → is_some (cond (tx_ender K k == n) (ending K k) None) ≡ true → ⊥
ends_silent H n k K never due = by (tx_ender K k == n) refl due
  where
    by : (b : Bool) → (tx_ender K k == n) ≡ b → is_some (cond b (ending K k) None) ≡ true → ⊥
    by true is x = never (same_number (tx_ender K k) n is)
    by false is x = absurd cc

pub told_sends_nothing : (H : List Event) (client n : ℕ) (op : Op) → Lawful (Entered client n op ∷ H) → n ≢ 0 → is_some (decided (Entered client n op ∷ H) n) ≡ true → is_some (due_for (Entered client n op ∷ H) n) ≡ true → ⊥
told_sends_nothing H client n op l some settled due =
    started op (record { lawful = l; number = some; told = ap (λ o. is_some o) (sym (entered_told H client n op l.1)) ∙ settled }) (new_work H client n op (enters_next H client n op l.1)) (is_unfinished (Entered client n op ∷ H) n) due
  where
    by : (it : Op) → Told H client n it → work (Entered client n it ∷ H) n ≡ work_of (works H) it → is_some (due_in (Entered client n it ∷ H) n (work (Entered client n it ∷ H) n)) ≡ true → is_some (due_in (Entered client n it ∷ H) n (work_of (works H) it)) ≡ true → ⊥
    by (ops.Exec targets.Db text args) s new x y = own_silent H client n (ops.Exec targets.Db text args) s refl (ap asks new) x
    by (ops.Query label targets.Db text args) s new x y = own_silent H client n (ops.Query label targets.Db text args) s refl (ap asks new) x
    by (ops.One targets.Db dests text args) s new x y = own_silent H client n (ops.One targets.Db dests text args) s refl (ap asks new) x
    by (ops.Begin label level read_only) s new x y = own_silent H client n (ops.Begin label level read_only) s refl (ap asks new) x
    by ops.Ping s new x y = own_silent H client n ops.Ping s refl (ap asks new) x
    by (ops.Exec (targets.Label tx) text args) s new x y = inner_silent H client n (ops.Exec (targets.Label tx) text args) (tx_maker (works H) tx) s y
    by (ops.Query label (targets.Label tx) text args) s new x y = inner_silent H client n (ops.Query label (targets.Label tx) text args) (tx_maker (works H) tx) s y
    by (ops.One (targets.Label tx) dests text args) s new x y = inner_silent H client n (ops.One (targets.Label tx) dests text args) (tx_maker (works H) tx) s y
    by (ops.Next label) s new x y =
        rows_silent H client n (ops.Next label) (rows_maker (works H) label) s
        (λ its. no_ender H client n (ops.Next label) (rows_maker (works H) label) s (sym (same_ender H (Entered client n (ops.Next label)) (rows_maker (works H) label) refl) ∙ its)) y
    by (ops.RowsClose label) s new x y = rows_silent H client n (ops.RowsClose label) (rows_maker (works H) label) s (close_ends_none H client n label s) y
    by (ops.Commit tx) s new x y = ends_silent H n (tx_maker (works H) tx) (Entered client n (ops.Commit tx) ∷ H) (tx_ends_none H client n (ops.Commit tx) tx s s.told (λ u. unfinished_tx u)) y
      where
        unfinished_tx : is_unfinished H (tx_maker (works H) tx) ≡ true → tx_by (Entered client n (ops.Commit tx) ∷ H) (tx_maker (works H) tx) ≡ tx_by H (tx_maker (works H) tx)
        unfinished_tx u = ap (λ b. thing_of (tx_maker (works H) tx) (cond b (transactions H) (changed (ended_tx tx_ends.Commit) (tx_maker (works H) tx) (transactions H)))) u
    by (ops.Rollback tx) s new x y = ends_silent H n (tx_maker (works H) tx) (Entered client n (ops.Rollback tx) ∷ H) (tx_ends_none H client n (ops.Rollback tx) tx s s.told (λ u. unfinished_tx u)) y
      where
        unfinished_tx : is_unfinished H (tx_maker (works H) tx) ≡ true → tx_by (Entered client n (ops.Rollback tx) ∷ H) (tx_maker (works H) tx) ≡ tx_by H (tx_maker (works H) tx)
        unfinished_tx u = ap (λ b. thing_of (tx_maker (works H) tx) (cond b (transactions H) (changed (ended_tx tx_ends.Rollback) (tx_maker (works H) tx) (transactions H)))) u
    by it s new x y = absurd cc

    started : (it : Op) → Told H client n it → work (Entered client n it ∷ H) n ≡ work_of (works H) it → (b : Bool) → is_some (cond b (due_in (Entered client n it ∷ H) n (work (Entered client n it ∷ H) n)) None) ≡ true → ⊥
    started it s new true x = by it s new x (sym (ap (λ w. is_some (due_in (Entered client n it ∷ H) n w)) new) ∙ x)
    started it s new false x = absurd cc
