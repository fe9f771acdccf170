-- The argument that a transaction's own tenure that isn't whole can work on in it, or close a statement after
-- its end.
use Rattle.std.proofs.Common.{◌≡◌, ◌≢◌, ℕ, Bool, true, false, not, ◌&&◌, ◌||◌, ◌==◌, List, [], ◌∷◌, refl, sym, ◌∙◌, subst, eqb→eq}
use Rattle.std.specs.List.{list_all, list_any}
use native.Mathlib.Omega.{arith}
use Rattle.std.proofs.lemmas.Bool.Decides.{nat_tests}
use Rattle.dsql_driver.specs.declared.call.DriverCall.{DriverCall}
use Rattle.dsql_driver.specs.declared.call.DriverCall.TheVariants.{CloseStmt, Exec}
use Rattle.dsql_driver.specs.declared.call.Input.TheVariants.{Text}
use Rattle.dsql_tenure_journal.specs.declared.entry.Entry.{Entry}
use Rattle.dsql_tenure_journal.specs.declared.entry.Owner.{Owner}
use Rattle.dsql_tenure_journal.specs.declared.entry.Owner.TheVariants.{Tx}
use Rattle.dsql_tenure_journal.specs.Kinds.{◌⇒◌, if_any, is_number, is_call, is_house, is_pin, is_tx_number, same_owner}
use Rattle.dsql_driver.specs.Kinds.{is_begin, is_ending, is_work, is_close_stmt, handle_of, given_handle}
use Rattle.dsql_tenure_journal.specs.Readers.{LiveHandle, LiveCursor, is_empty, has, of_tenure, of_transaction, handles, handles_named, cursors, begun, ended}
use Rattle.dsql_tenure_journal.specs.Tenure.{is_whole_tenure, has_ended_transactions, has_closed_cursors, has_closed_handles, body}
use Rattle.dsql_tenure_journal.specs.Facts.{KeepsBody, KeepsTransaction}
use Rattle.dsql_tenure_journal.proofs.Conjunctions.{parts2, join2}
use Rattle.dsql_tenure_journal.proofs.Numbers.{handles_named-one}
use Rattle.dsql_tenure.specs.Open.{open_in}
use Rattle.dsql_tenure.specs.Ends.{HasWholeEnd}
use Rattle.dsql_tenure.proofs.Lists.{is_empty-filter, list_all-none, list_all-so, list_any-both, list_any-so}
use Rattle.dsql_tenure.proofs.Given.{list_any-filter, eqb-refl}
use Rattle.dsql_tenure.proofs.Transactions.{has-open, has-ended, of_transaction-begun}
use Rattle.dsql_tenure.proofs.Places.{begun-in, has-all, open-in_last, has_ended-last, one_tenure}
use Rattle.dsql_tenure.proofs.Rollbacks.{open_owner}
use Rattle.dsql_tenure.proofs.BadEnds.{same_owners, unrefused}
use Rattle.dsql_tenure.proofs.Partly.{Partly, spoiled, spoiled_end}
use Rattle.dsql_tenure.proofs.Members.{pick_in, clash, not_all, only-one}
use Rattle.dsql_tenure.proofs.CallEnds.{open-number}
use Rattle.dsql_tenure.proofs.TxWork.{stands, gives, cursor_of_it, handle_of_it, cursors_of_it, handles_of_it, ended-closed}

module _ (before : List Entry) (e : Entry) (p : Partly before e) (n : ℕ) (is : e.owner ≡ Tx n) where
  -- Transaction n has entries in the tenure, and goes on in it.
  module _ (some : n ≢ 0) (here : list_any (stands n e.tenure) (e ∷ before) ≡ true) where
    some_false : (n == 0) ≡ false
    some_false = go (n == 0) refl
      where
        go : (b : Bool) → (n == 0) ≡ b → b ≡ false
        go true z = absurd (some (eqb→eq n 0 (grind (arith, nat_tests, z))))
        go false z = refl

    of_it : list_any (λ x. x.tenure == e.tenure) (of_transaction n (e ∷ before)) ≡ true
    of_it = list_any-filter (λ x. x.tenure == e.tenure) (λ x. x.tx == n) (e ∷ before) ∙ here

    numbered : list_any (λ x. not (x.tx == 0)) (of_tenure e.tenure (e ∷ before)) ≡ true
    numbered =
        list_any-filter (λ x. not (x.tx == 0)) (λ x. x.tenure == e.tenure) (e ∷ before)
        ∙ list_any-so (stands n e.tenure) (λ x. (x.tenure == e.tenure) && not (x.tx == 0))
        (λ x k.
        let q = parts2 (x.tx == n) (x.tenure == e.tenure) k in
        let num : x.tx ≡ n = eqb→eq x.tx n (grind (arith, nat_tests, q.0)) in
        join2 (x.tenure == e.tenure) (not (x.tx == 0)) q.1 (rw (num, some_false) refl))
        (e ∷ before) here

    own : list_all (λ x. same_owner x.owner (Tx n)) (of_tenure e.tenure (e ∷ before)) ≡ true
    own = subst (λ (o : Owner). list_all (λ x. same_owner x.owner o) (of_tenure e.tenure (e ∷ before)) ≡ true) is (same_owners before e p.beginning)

    body_kept : (q : DriverCall) → KeepsBody e.owner (e ∷ before) (spoiled e n q)
    body_kept q =
        subst (λ (o : Owner). KeepsBody o (e ∷ before) (spoiled e n q)) (sym is)
        (rw (unrefused e.tenure n (e ∷ before) p.beginning own numbered, some_false, eqb-refl n) (last (is_empty (body (e ∷ before) (spoiled e n q)) && (is_begin q && true && false))))
      where
        last : (b : Bool) → (b || true) ≡ true
        last true = refl
        last false = refl

    has_some : is_empty (of_transaction n (e ∷ before)) ≡ false
    has_some = go (of_transaction n (e ∷ before)) of_it
      where
        go : (xs : List Entry) → list_any (λ x. x.tenure == e.tenure) xs ≡ true → is_empty xs ≡ false
        go [] k = sym k
        go (x ∷ xs) k = refl

    transaction_kept : (q : DriverCall) → is_begin q ≡ false → is_work q ≡ true → is_ending q ≡ false
        → (list_any (λ x. is_ending x.call) (of_transaction n (e ∷ before)) ⇒ is_close_stmt q) ≡ true
        → (list_any (λ x. is_ending x.call) (of_transaction n (e ∷ before)) ⇒ if_any (handle_of q) (λ m. list_any (λ x. is_number (given_handle x.answer) m) (of_transaction n (e ∷ before)))) ≡ true
        → KeepsTransaction (e ∷ before) (spoiled e n q)
    transaction_kept q begin work ending closes own_close =
        record {
          one_tenure = one_tenure n e.tenure (e ∷ before) p.beginning some of_it;
          owner = rw (is, eqb-refl n) refl;
          begin_first = rw has_some refl;
          begin_once = rw begin refl;
          kind = rw (has_some, begin, work) refl;
          end_once = rw ending (either (list_any (λ x. is_ending x.call) (of_transaction n (e ∷ before))));
          close_after_end = closes;
          own_close = own_close;
          no_cursors = rw ending refl;
        }
      where
        either : (b : Bool) → (b ⇒ true) ≡ true
        either true = refl
        either false = refl

  -- If the transaction is open, it can work on, and the beginning has a whole end.
  open_end : (m : ℕ) → has m (open_in (e ∷ before)) ≡ true → HasWholeEnd (e ∷ before)
  open_end m open_one =
      let some : m ≢ 0 = open-number (e ∷ before) p.beginning m open_one in
      let owner : (is_tx_number m (Tx n) || is_pin (Tx n)) ≡ true = rw is at (open_owner before e p.beginning m open_one some) in
      let num : m ≡ n = eqb→eq m n (grind (arith, nat_tests, owner)) in
      work_on (subst (λ (k : ℕ). k ≢ 0) num some) (subst (λ (k : ℕ). has k (open_in (e ∷ before)) ≡ true) num open_one)
    where
      work_on : n ≢ 0 → has n (open_in (e ∷ before)) ≡ true → HasWholeEnd (e ∷ before)
      work_on some open_one =
          let here : list_any (stands n e.tenure) (e ∷ before) ≡ true =
          sym (list_any-filter (λ x. x.tenure == e.tenure) (λ x. x.tx == n) (e ∷ before))
          ∙ begun-in n e.tenure (e ∷ before) (has-all (λ k. has k (begun (of_tenure e.tenure (e ∷ before)))) n (open_in (e ∷ before)) (open-in_last (e ∷ before) p.beginning) open_one) in
          spoiled_end before e p n (Exec (Text []) []) (record { connect = refl; reset = refl; valid = refl; fails = refl })
          (body_kept some here (Exec (Text []) []))
          (λ number. transaction_kept some here (Exec (Text []) []) refl refl refl (rw never_ended refl) (rw never_ended refl))
          (record { live_handle = refl; live_cursor = refl; not_over = refl; transaction_of_handle = refl; transaction_of_cursor = refl; cursor_tenure = refl; handle_tenure = refl; call_handle = refl })
          refl
        where
          flip : (b : Bool) → not b ≡ true → b ≡ false
          flip true k = sym k
          flip false k = refl

          never_ended : list_any (λ x. is_ending x.call) (of_transaction n (e ∷ before)) ≡ false
          never_ended =
              sym (has-ended n (e ∷ before))
              ∙ flip (has n (ended (e ∷ before))) (parts2 (has n (begun (e ∷ before))) (not (has n (ended (e ∷ before)))) (sym (has-open n (e ∷ before) p.beginning) ∙ open_one)).1

  nonzero : not (n == 0) ≡ true → n ≢ 0
  nonzero k z = let same : (n == 0) ≡ true = rw z refl in grind (arith, k, same)

  module _ (none : open_in (e ∷ before) ≡ []) where
    -- If no transaction is open, no cursor is live.
    closed_cursors : list_any (λ c. c.tenure == e.tenure) (cursors (e ∷ before)) ≡ false
    closed_cursors = go (list_any (λ c. c.tenure == e.tenure) (cursors (e ∷ before))) refl
      where
        both : (a b c : Bool) → (a && (not a || (b && c))) ≡ true → (b ≡ true) × (c ≡ true)
        both true b c k = parts2 b c k
        both false b c k = grind (arith, k)

        has_ended : n ≢ 0 → list_any (stands n e.tenure) (e ∷ before) ≡ true → has n (ended (e ∷ before)) ≡ true
        has_ended some here =
            known (has n (begun (e ∷ before))) (has n (ended (e ∷ before)))
            (sym (of_transaction-begun n (e ∷ before) p.beginning some) ∙ has_some some here)
            (sym (has-open n (e ∷ before) p.beginning) ∙ rw none refl)
          where
            known : (a b : Bool) → not a ≡ false → (a && not b) ≡ false → b ≡ true
            known true true x y = refl
            known true false x y = sym y
            known false b x y = grind (arith, x)

        never : (c : LiveCursor) → (((c.tenure == e.tenure) && cursor_of_it n e.tenure (e ∷ before) c) ≡ true)
            → ((q : LiveCursor → Bool) → q c ≡ true → list_any q (cursors (e ∷ before)) ≡ true) → true ≡ false
        never c k found =
            let a = both (c.tenure == e.tenure) (not (n == 0) && (c.tx == n)) (list_any (stands n e.tenure) (e ∷ before)) k in
            let b = parts2 (not (n == 0)) (c.tx == n) a.0 in
            let some : n ≢ 0 = nonzero b.0 in
            absurd (clash (λ (d : LiveCursor). d.tx == n) (λ d. not (d.tx == n)) (cursors (e ∷ before)) (λ d x y. grind (arith, x, y))
            (found (λ d. d.tx == n) b.1) (ended-closed n (e ∷ before) p.beginning p.not_bad some (has_ended some a.1)))

        go : (b : Bool) → list_any (λ c. c.tenure == e.tenure) (cursors (e ∷ before)) ≡ b → b ≡ false
        go false live = refl
        go true live =
            pick_in (true ≡ false) (λ c. (c.tenure == e.tenure) && cursor_of_it n e.tenure (e ∷ before) c)
            (cursors (e ∷ before))
            (list_any-both (λ c. c.tenure == e.tenure) (cursor_of_it n e.tenure (e ∷ before))
            (cursors (e ∷ before)) live (cursors_of_it before e p.beginning n is))
            never

    -- So a handle is live.
    live_handle : list_any (λ l. not ((l.tenure == e.tenure) ⇒ is_call l.owner)) (handles (e ∷ before)) ≡ true
    live_handle = not_all (λ l. (l.tenure == e.tenure) ⇒ is_call l.owner) (handles (e ∷ before)) (go (has_closed_handles e.tenure (e ∷ before)) refl)
      where
        go : (b : Bool) → has_closed_handles e.tenure (e ∷ before) ≡ b → b ≡ false
        go false closed = refl
        go true closed =
            let over : has_ended_transactions e.tenure (e ∷ before) ≡ true = has_ended-last (e ∷ before) p.beginning ∙ rw none refl in
            let no_cursor : has_closed_cursors e.tenure (e ∷ before) ≡ true = list_all-none (λ c. c.tenure == e.tenure) (cursors (e ∷ before)) ∙ rw closed_cursors refl in
            let whole : is_whole_tenure e.tenure (e ∷ before) ≡ true = rw (over, p.not_bad, no_cursor, closed) refl in
            sym whole ∙ p.partly

    -- That handle can be closed, and the beginning has a whole end.
    close_end : HasWholeEnd (e ∷ before)
    close_end =
        pick_in (HasWholeEnd (e ∷ before))
        (λ l. not ((l.tenure == e.tenure) ⇒ is_call l.owner) && handle_of_it n e.tenure (e ∷ before) l)
        (handles (e ∷ before))
        (list_any-both (λ l. not ((l.tenure == e.tenure) ⇒ is_call l.owner))
        (handle_of_it n e.tenure (e ∷ before))
        (handles (e ∷ before)) live_handle (handles_of_it before e p.beginning n is))
        (λ l k found.
        let a = parts2 (not ((l.tenure == e.tenure) ⇒ is_call l.owner)) (handle_of_it n e.tenure (e ∷ before) l) k in
        let b = not_so (l.tenure == e.tenure) (is_call l.owner) a.0 in
        let c = parts2 (not (n == 0) && (l.tx == n)) (list_any (gives n e.tenure l.number) (e ∷ before)) (rw b.0 at a.1) in
        let d = parts2 (not (n == 0)) (l.tx == n) c.0 in
        close l (nonzero d.0) (join2 (l.tx == n) ((l.tenure == e.tenure) && not (is_call l.owner)) d.1 (join2 (l.tenure == e.tenure) (not (is_call l.owner)) b.0 b.1)) c.1 found)
      where
        not_so : (a b : Bool) → not (a ⇒ b) ≡ true → (a ≡ true) × (not b ≡ true)
        not_so true b k = (refl, k)
        not_so false b k = grind (arith, k)

        close : (l : LiveHandle) → n ≢ 0 → ((l.tx == n) && ((l.tenure == e.tenure) && not (is_call l.owner))) ≡ true
            → list_any (gives n e.tenure l.number) (e ∷ before) ≡ true
            → ((q : LiveHandle → Bool) → q l ≡ true → list_any q (handles (e ∷ before)) ≡ true) → HasWholeEnd (e ∷ before)
        close l some k gave found =
            let here : list_any (stands n e.tenure) (e ∷ before) ≡ true =
            list_any-so (gives n e.tenure l.number) (stands n e.tenure)
            (λ x z. first_two (x.tx == n) (x.tenure == e.tenure) (is_number (given_handle x.answer) l.number) z) (e ∷ before) gave in
            let prepared : list_any (λ x. is_number (given_handle x.answer) l.number) (of_transaction n (e ∷ before)) ≡ true =
            list_any-filter (λ x. is_number (given_handle x.answer) l.number) (λ x. x.tx == n) (e ∷ before)
            ∙ list_any-so (gives n e.tenure l.number) (λ x. (x.tx == n) && is_number (given_handle x.answer) l.number)
            (λ x z. outer_two (x.tx == n) (x.tenure == e.tenure) (is_number (given_handle x.answer) l.number) z) (e ∷ before) gave in
            let all : list_all (λ m. (m.tx == n) && ((m.tenure == e.tenure) && not (is_call m.owner))) (handles_named l.number (e ∷ before)) ≡ true =
            only-one (λ m. m.number == l.number) (λ m. (m.tx == n) && ((m.tenure == e.tenure) && not (is_call m.owner))) (handles (e ∷ before)) (handles_named-one l.number (e ∷ before) p.beginning)
            (found (λ m. (m.number == l.number) && ((m.tx == n) && ((m.tenure == e.tenure) && not (is_call m.owner)))) (join2 (l.number == l.number) _ (eqb-refl l.number) k)) in
            let live : list_any (λ m. m.number == l.number) (handles (e ∷ before)) ≡ true = found (λ m. m.number == l.number) (eqb-refl l.number) in
            spoiled_end before e p n (CloseStmt l.number) (record { connect = refl; reset = refl; valid = refl; fails = refl })
            (body_kept some here (CloseStmt l.number))
            (λ number. transaction_kept some here (CloseStmt l.number) refl refl refl (so (list_any (λ x. is_ending x.call) (of_transaction n (e ∷ before))) refl) (so (list_any (λ x. is_ending x.call) (of_transaction n (e ∷ before))) prepared))
            (record {
              live_handle = rw (is_empty-filter (λ m. m.number == l.number) (handles (e ∷ before)), live) refl;
              live_cursor = refl;
              not_over = refl;
              transaction_of_handle = list_all-so (λ m. (m.tx == n) && ((m.tenure == e.tenure) && not (is_call m.owner))) (λ m. m.tx == n) (λ m z. (parts2 (m.tx == n) ((m.tenure == e.tenure) && not (is_call m.owner)) z).0) (handles_named l.number (e ∷ before)) all;
              transaction_of_cursor = refl;
              cursor_tenure = refl;
              handle_tenure = list_all-so (λ m. (m.tx == n) && ((m.tenure == e.tenure) && not (is_call m.owner))) (λ m. not (is_call m.owner) ⇒ m.tenure == e.tenure) (λ m z. (rules (m.tx == n) (m.tenure == e.tenure) (is_call m.owner) z).0) (handles_named l.number (e ∷ before)) all;
              call_handle = list_all-so (λ m. (m.tx == n) && ((m.tenure == e.tenure) && not (is_call m.owner))) (λ m. is_call m.owner ⇒ is_call e.owner || is_house e.owner && true) (λ m z. off (is_call m.owner) _ (rules (m.tx == n) (m.tenure == e.tenure) (is_call m.owner) z).1) (handles_named l.number (e ∷ before)) all;
            })
            refl
          where
            so : (b : Bool) {c : Bool} → c ≡ true → (b ⇒ c) ≡ true
            so true k = k
            so false k = refl

            first_two : (a b c : Bool) → (a && (b && c)) ≡ true → (a && b) ≡ true
            first_two true true c z = refl
            first_two true false c z = z
            first_two false b c z = z

            outer_two : (a b c : Bool) → (a && (b && c)) ≡ true → (a && c) ≡ true
            outer_two true true c z = z
            outer_two true false c z = grind (arith, z)
            outer_two false b c z = z

            rules : (a b c : Bool) → (a && (b && not c)) ≡ true → ((not c ⇒ b) ≡ true) × (not c ≡ true)
            rules true true true z = grind (arith, z)
            rules true true false z = (refl, refl)
            rules true false c z = grind (arith, z)
            rules false b c z = grind (arith, z)

            off : (a b : Bool) → not a ≡ true → (a ⇒ b) ≡ true
            off true b z = grind (arith, z)
            off false b z = refl

  pub tx_end : HasWholeEnd (e ∷ before)
  tx_end = go (open_in (e ∷ before)) refl
    where
      go : (ns : List ℕ) → open_in (e ∷ before) ≡ ns → HasWholeEnd (e ∷ before)
      go [] none = close_end none
      go (m ∷ ns) some = open_end m (rw (some, eqb-refl m) refl)
