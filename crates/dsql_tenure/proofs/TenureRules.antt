-- The rules of a tenure, by what is kept of it and by what is live.
use Rattle.std.proofs.Common.{◌≡◌, ℕ, ◌≤◌, Bool, true, false, cond, not, ◌&&◌, ◌||◌, ◌==◌, nat_lt, Option, None, Some, List, [], ◌∷◌, refl, sym, ap, is_none}
use Rattle.std.specs.List.{filter, list_all, list_any}
use Rattle.dsql_tenure_journal.specs.declared.entry.Entry.{Entry}
use Rattle.dsql_tenure_journal.specs.declared.entry.Owner.{Owner}
use Rattle.dsql_tenure_journal.specs.declared.entry.Owner.TheVariants.{Call, Tx}
use Rattle.dsql_tenure_journal.specs.Kinds.{◌⇒◌, if_any, is_number, is_house}
use Rattle.dsql_driver.specs.Kinds.{is_connect, is_reset, is_ping, is_prepare, runs_handle, is_next, is_close_stmt, is_shut, handle_of, given_handle}
use Rattle.dsql_tenure_journal.specs.Readers.{is_empty, of_tenure, last_tenure, last_owner, handles, went_bad}
use Rattle.dsql_tenure_journal.specs.Tenure.{place, is_body, keeps_tenure}
use Rattle.dsql_tenure_journal.specs.Tenure as tenure
use Rattle.dsql_tenure_journal.specs.Journal.{IsJournalPrefix}
use Rattle.dsql_tenure.specs.SoFar.{so_far, last_place}
use Rattle.dsql_tenure.specs.TenureParts as part
use Rattle.dsql_tenure.proofs.Lists.{is_empty-filter}
use Rattle.dsql_tenure.proofs.SoFarRules.{is_none-owner, one_owner, in_order, prepared-allows, ran-none, pinged-worked}
use Rattle.dsql_tenure.proofs.Owned.{of_one_owner, Served, closes_own-is, own_cursor}

if_same : (a b c : Bool) → (a ≡ true → b ≡ c) → (a ⇒ b) ≡ (a ⇒ c)
if_same true b c h = h refl
if_same false b c h = refl

any_same : (o : Option ℕ) (f g : ℕ → Bool) → ((n : ℕ) → f n ≡ g n) → if_any o f ≡ if_any o g
any_same None f g same = refl
any_same (Some n) f g same = same n

module _ (before : List Entry) (e : Entry) where
  abbrev earlier : List Entry
  earlier = of_tenure e.tenure before

  -- A call on the database keeps its order.
  pub in_order-is : (tenure.is_call_body e && tenure.pings_alone before e && tenure.goes_in_order before e) ≡ part.goes_in_order (so_far earlier) e
  in_order-is =
      go (is_ping e.call) (nat_lt 0 (place e.call)) (list_any (λ x. is_ping x.call) earlier) (list_any is_body earlier)
      refl (is_empty-filter is_body earlier) (pinged-worked earlier) (in_order e.call earlier)
    where
      order : Bool
      order = list_all (λ x. nat_lt (place x.call) (place e.call) || is_next x.call && is_next e.call) (filter is_body earlier)

      go : (p q r w : Bool) → q ≡ nat_lt 0 (place e.call) → is_empty (filter is_body earlier) ≡ not w → (r ≡ true → w ≡ true)
          → (nat_lt 0 (place e.call) ≡ true → list_all (λ x. nat_lt (place x.call) (place e.call) || is_next x.call && is_next e.call) (filter is_body earlier) ≡ (nat_lt (last_place earlier) (place e.call) || is_next e.call && (last_place earlier == 4)))
          → ((p || q) && (p || r ⇒ is_empty (filter is_body earlier)) && list_all (λ x. nat_lt (place x.call) (place e.call) || is_next x.call && is_next e.call) (filter is_body earlier))
          ≡ cond p (not w) (q && not r && (nat_lt (last_place earlier) (place e.call) || is_next e.call && (last_place earlier == 4)))
      go true q r w qis worked so ordered = alone (filter is_body earlier) w worked
        where
          alone : (xs : List Entry) (w : Bool) → is_empty xs ≡ not w → (is_empty xs && list_all (λ x. nat_lt (place x.call) (place e.call) || is_next x.call && is_next e.call) xs) ≡ not w
          alone [] w h = h
          alone (x ∷ xs) w h = h
      go false false r w qis worked so ordered = refl
      go false true true w qis worked so ordered = rw (worked, so refl) refl
      go false true false w qis worked so ordered = ordered (sym qis)

  -- An entry prepares, runs and goes on well.
  pub runs_well-is : (tenure.follows_skip before e && tenure.runs_own_handle before e && tenure.follows_no_bad before e) ≡ part.runs_well (so_far earlier) e
  runs_well-is =
      three _ _ _ _ (not (went_bad earlier))
      (if_same (is_prepare e.call || runs_handle e.call) _ _ (λ is. ran-none earlier))
      (if_same (runs_handle e.call) _ _ (λ is. any_same (handle_of e.call) _ _ (λ n. prepared-allows n earlier)))
    where
      three : (a b x y c : Bool) → a ≡ x → b ≡ y → (a && b && c) ≡ (x && y && c)
      three a b x y c h k = rw (h, k) refl

  module _ (h : IsJournalPrefix before) (last : last_tenure before ≤ e.tenure) (s : Served before e) where
    -- An entry closes its own handle.
    pub closes_own : tenure.closes_own_handle before e ≡ part.closes_own before e
    closes_own = if_same (is_close_stmt e.call) _ _ (λ is. go (handle_of e.call) s.handle)
      where
        go : (o : Option ℕ) → if_any o (λ n. list_any (λ x. x.number == n) (handles before)) ≡ true
            → if_any o (λ n. list_any (λ x. is_number (given_handle x.answer) n) (of_tenure e.tenure before)) ≡ if_any o (λ n. list_all (λ x. not (x.number == n) || (x.tenure == e.tenure)) (handles before))
        go None live = refl
        go (Some n) live = closes_own-is n e.tenure before h last live

    ten : (a b c d f g k i j l x y z : Bool) → d ≡ true → (a && b && c) ≡ x → f ≡ y → (g && k && i) ≡ z
        → (a && b && c && d && f && g && k && i && j && l) ≡ (x && y && z && j && l)
    ten a b c d f g k i j l x y z one p q r = rw (one, p, q) (regroup x y)
      where
        regroup : (x y : Bool) → (x && true && y && g && k && i && j && l) ≡ (x && y && z && j && l)
        regroup true true = ap (λ m. m && j && l) r
        regroup true false = nothing z
          where
            nothing : (z : Bool) → (false && g && k && i && j && l) ≡ (false && z && j && l)
            nothing z = refl
        regroup false y = refl

    -- The rules for the body of a tenure of a call on the database agree.
    pub keeps_call-is : tenure.keeps_call_body before e ≡ part.keeps_call (so_far earlier) before e
    keeps_call-is =
        ten (tenure.is_call_body e) (tenure.pings_alone before e) (tenure.goes_in_order before e) (tenure.uses_own_cursor before e) (tenure.closes_own_handle before e)
        (tenure.follows_skip before e) (tenure.runs_own_handle before e) (tenure.follows_no_bad before e) (tenure.closes_rows_first before e) (tenure.is_outside_transactions e)
        (part.goes_in_order (so_far earlier) e) (part.closes_own before e) (part.runs_well (so_far earlier) e)
        (own_cursor before e s) in_order-is closes_own runs_well-is

    tx_body-is : (n : ℕ) → tenure.is_tx_body n before e ≡ part.keeps_tx (so_far earlier) n e
    tx_body-is n = rw (is_empty-filter is_body earlier) refl

    pub keeps_body-is : (o : Owner) → tenure.keeps_body o before e ≡ part.keeps_body (so_far earlier) o before e
    keeps_body-is (Call n) = keeps_call-is
    keeps_body-is (Tx n) = tx_body-is n
    keeps_body-is _ = refl

    shape : (hs c1 n1 n2 empty reset : Bool) (a x v w rest : Bool) → a ≡ x → empty ≡ w
        → (x && (hs ⇒ empty) && (hs ⇒ c1) && (hs ⇒ n1 && n2) && (reset ⇒ empty) && v)
        ≡ (a && (hs ⇒ w && c1 && n1 && n2) && (reset ⇒ w) && v)
    shape hs c1 n1 n2 empty reset a x v w rest p q = rw (p, q) (go hs x)
      where
        five : (x w c1 n1 n2 r v : Bool) → (x && w && c1 && (n1 && n2) && r && v) ≡ (x && (w && c1 && n1 && n2) && r && v)
        five true true true n1 n2 r v = refl
        five true true false n1 n2 r v = refl
        five true false c1 n1 n2 r v = refl
        five false w c1 n1 n2 r v = refl

        go : (hs x : Bool) → (x && (hs ⇒ w) && (hs ⇒ c1) && (hs ⇒ n1 && n2) && (reset ⇒ w) && v) ≡ (x && (hs ⇒ w && c1 && n1 && n2) && (reset ⇒ w) && v)
        go true x = five x w c1 n1 n2 (reset ⇒ w) v
        go false true = refl
        go false false = refl

    shape-is : (tenure.has_one_owner before e && tenure.is_alone_of_house before e && tenure.is_house_call e && tenure.has_house_numbers e && tenure.resets_first before e && tenure.has_no_valid_before before e)
        ≡ part.keeps_shape (so_far earlier) e
    shape-is =
        shape (is_house e.owner) (is_connect e.call || is_close_stmt e.call || is_shut e.call) (e.call_no == 0) (e.tx == 0) (is_empty earlier) (is_reset e.call)
        (part.has_owner (last_owner earlier) e.owner) (tenure.has_one_owner before e) (tenure.has_no_valid_before before e) (is_none (last_owner earlier)) true
        (one_owner earlier e.owner (of_one_owner e.tenure before h last)) (sym (is_none-owner earlier))

    tests_and_body-is : (tenure.tests_without_transaction e && tenure.follows_no_bad_reset before e && (is_body e ⇒ tenure.keeps_body e.owner before e)) ≡ part.keeps_tests_and_body (so_far earlier) before e
    tests_and_body-is = ap (λ b. tenure.tests_without_transaction e && tenure.follows_no_bad_reset before e && b) (if_same (is_body e) _ _ (λ is. keeps_body-is e.owner))

    -- The rules of a tenure agree with those in groups.
    pub keeps_tenure-groups : keeps_tenure before e ≡ (part.keeps_shape (so_far earlier) e && part.keeps_rest (so_far earlier) before e)
    keeps_tenure-groups =
        all_ten (tenure.has_one_owner before e && tenure.is_alone_of_house before e && tenure.is_house_call e && tenure.has_house_numbers e && tenure.resets_first before e && tenure.has_no_valid_before before e)
        (tenure.is_whole_at_valid before e) (tenure.tests_without_transaction e) (tenure.follows_no_bad_reset before e) (is_body e ⇒ tenure.keeps_body e.owner before e)
        (part.keeps_shape (so_far earlier) e) (part.keeps_tests_and_body (so_far earlier) before e) shape-is tests_and_body-is
      where
        all_ten : (a w t b k x y : Bool) → a ≡ x → (t && b && k) ≡ y → (a && w && t && b && k) ≡ (x && (w && y))
        all_ten a w t b k x y p q = rw p (go x w)
          where
            go : (m n : Bool) → (m && n && t && b && k) ≡ (m && (n && y))
            go true true = q
            go true false = refl
            go false n = refl
