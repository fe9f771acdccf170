-- A fetch that has nothing to send has a settled reply.
use Rattle.std.proofs.Common.{◌≡◌, ◌≢◌, ℕ, ◌==◌, inl, inr, Bool, true, false, not, ◌&&◌, ◌||◌, cond, List, Option, Some, None, is_some, is_none, refl, sym, ap, subst, ◌∙◌}
use Rattle.dsql_laws_calls.specs.course.declared.course.Wish.TheVariants as wishes
use Rattle.dsql_laws_calls.specs.course.Made.{Exchange, or_else, own_cursor}
use Rattle.dsql_laws_calls.specs.journal.declared.entry.Owner.{Owner}
use Rattle.dsql_laws_calls.specs.journal.Kinds.{is_call, number_of}
use Rattle.dsql_laws_calls.specs.journal.Readers.{went_bad}
use Rattle.dsql_laws_calls.specs.pool.declared.conn.Place.TheVariants.{Lent}
use Rattle.dsql_laws_calls.specs.rows.declared.rows.Rows.{Rows}
use Rattle.dsql_laws_calls.specs.rows.OpenRows.{is_live}
use Rattle.dsql_laws_calls.specs.works.Exchanges.{exchanges}
use Rattle.dsql_laws_calls.specs.works.Line.{handed}
use Rattle.dsql_laws_calls.specs.history.Readers.HandedOut.{live, over, are_live, is_late, rows_by}
use Rattle.dsql_laws_calls.specs.history.Rules.Wishes.{wish_as}
use Rattle.dsql_laws_calls.proofs.laws.Tests.{other_number, same_itself}
use Rattle.dsql_laws_calls.specs.history.declared.event.Event.{Event}
use Rattle.dsql_laws_calls.specs.history.declared.reply.Reply.{Reply}
use Rattle.dsql_laws_calls.specs.history.declared.reply.Reply.TheVariants.{Truth}
use Rattle.dsql_laws_calls.specs.history.declared.work.Scope.TheVariants.{Db, Held}
use Rattle.dsql_laws_calls.specs.history.declared.work.Work.{Work}
use Rattle.dsql_laws_calls.specs.history.declared.work.Task.TheVariants.{HandOut}
use Rattle.dsql_laws_calls.specs.history.declared.work.Work.TheVariants.{Statement, Fetch}
use Rattle.dsql_laws_calls.specs.history.Readers.Calls.{decided, has_begun_to_send, reply_due, site, told_at_lending, told_of_work}
use Rattle.dsql_laws_calls.specs.history.Readers.Course.{caps}
use Rattle.dsql_laws_calls.specs.history.Readers.Journals.{heard_in, journal}
use Rattle.dsql_laws_calls.specs.history.Readers.Pool.{place}
use Rattle.dsql_laws_calls.specs.history.Readers.Transactions.{is_begun}
use Rattle.dsql_laws_calls.specs.history.Readers.Unfinished.{is_unfinished}
use Rattle.dsql_laws_calls.specs.history.Readers.Works.{aim_of, borrower, hands_out_in, is_fetch, scope, work}
use Rattle.dsql_laws_calls.specs.history.Rules.Line.{due_for, due_in}
use Rattle.dsql_laws_calls.specs.history.Rules.Sent.{asked_by, closes, is_reset_due, line_of, sent_for, untested, wish}
use Rattle.dsql_laws_calls.specs.history.Legal.{Lawful}
use Rattle.dsql_laws_tenures.specs.Tenures.{made_by}
use Rattle.dsql_laws_calls.specs.Kept.{KeepsItsConnection}
use Rattle.dsql_laws_calls.proofs.CallTenures.{line_of_call}
use Rattle.dsql_laws_calls.proofs.DueWay.{inner_is}
use Rattle.dsql_laws_calls.proofs.EndedRows.{live_no_ender}
use Rattle.dsql_laws_calls.proofs.HandedRows.{rows_begun}
use Rattle.dsql_laws_calls.proofs.Lines.{line_here, line_there}
use Rattle.dsql_laws_calls.proofs.Makers.{hands_out, rows_hand_out}
use Rattle.dsql_laws_calls.proofs.Nowhere.{others_settled, own_settled}
use Rattle.dsql_laws_calls.proofs.Plain.{begins}
use Rattle.dsql_laws_calls.proofs.RowsKept.{rows_keep}
use Rattle.dsql_laws_calls.proofs.RowsNew.{held}
use Rattle.dsql_laws_calls.proofs.laws.Numbered.{unfinished_from_one}
use Rattle.dsql_laws_replies.proofs.Fetches.{Finds, finds}
use Rattle.dsql_laws_due.proofs.CallWays.{call_unbegun}
use Rattle.dsql_laws_due.proofs.Holds.{Kept}
use Rattle.dsql_laws_due.proofs.Kept.{holds}
use Rattle.dsql_laws_due.proofs.LiveCalls.{going_line, live_going}
use Rattle.dsql_laws_due.proofs.LiveLines.{live_open}
use Rattle.dsql_laws_due.proofs.OpenLines.{open_inner}
use Rattle.dsql_laws_due.proofs.Ways.{owner_begins}

-- From live rows a fetch sends a Next, as long as it has decided nothing.

pub some_cursor : (o : Option ℕ) → is_some o ≡ true → (r : ℕ) × (o ≡ Some r)
some_cursor None h = absurd cc
some_cursor (Some r) h = (r, refl)

pub handed_from : (w : Work) (xs : List Exchange) → hands_out w ≡ true → is_some (own_cursor xs) ≡ true → is_some (handed (aim_of w) xs) ≡ true
handed_from (Statement s (HandOut label)) xs x y = y
handed_from w xs x y = absurd cc

module _ (H : List Event) (k c t : ℕ) (own : Owner) (l : Lawful H) (is : place H c ≡ Some (Lent t own)) (borrowed : number_of own ≡ borrower H k) (some : is_some (rows_by H k) ≡ true) (lives : are_live H k ≡ true) where
  call_fetches : is_call own ≡ true → is_some (line_there H c t own k wishes.Fetch) ≡ true
  call_fetches call = subst (λ j. is_some (line_there H c t own j wishes.Fetch) ≡ true) itself there
    where
      itself : number_of own ≡ k
      itself = by (work H k) refl (rows_hand_out H k some)
        where
          by : (w : Work) → work H k ≡ w → hands_out w ≡ true → number_of own ≡ k
          by (Statement Db (HandOut label)) its x = borrowed ∙ rw its refl
          by (Statement (Held j) (HandOut label)) its x =
              let at : number_of own ≡ j = borrowed ∙ rw its refl in
              call_unbegun H c t own l is call (ap (is_begun H) at ∙ rows_begun H k j l some (ap (hands_out_in j) its ∙ same_itself j))
          by w its x = absurd cc

      made : is_some (rows_by H (number_of own)) ≡ true
      made = ap (λ j. is_some (rows_by H j)) itself ∙ some

      there : is_some (line_there H c t own (number_of own) wishes.Fetch) ≡ true
      there =
          let r = some_cursor (handed (aim_of (work H (number_of own))) (exchanges (heard_in H c t))) (handed_from (work H (number_of own)) (exchanges (heard_in H c t)) (rows_hand_out H (number_of own) made) (held H c t own l is made)) in
          ap (λ d. is_some d)
          (line_of_call H c t own wishes.Fetch l is call
          ∙ going_line (caps H) (is_reset_due H c) (asked_by H (number_of own)) wishes.Fetch (heard_in H c t) r.0 r.1 (live_going H c t own l is call (ap (are_live H) itself ∙ lives)))

  tx_fetches : is_call own ≡ false → is_some (line_there H c t own k wishes.Fetch) ≡ true
  tx_fetches other = by (work H k) refl (rows_hand_out H k some)
    where
      kept : Kept H
      kept = let h = holds H l in h.kept

      from : hands_out_in (number_of own) (work H k) ≡ true → (j : ℕ) → scope (work H k) ≡ Held j → is_some (line_there H c t own k wishes.Fetch) ≡ true
      from hands j scoped =
          let r = some_cursor (handed (aim_of (work H k)) (made_by k t (journal H c))) (kept.handed c t own is k hands some) in
          ap (λ d. is_some d)
          (inner_is H c t own k wishes.Fetch j other scoped
          ∙ open_inner (untested (caps H)) (went_bad (journal H c)) (asked_by H k) wishes.Fetch (made_by k t (journal H c)) r.0 r.1 (live_open H c t own l is other k hands lives))

      by : (w : Work) → work H k ≡ w → hands_out w ≡ true → is_some (line_there H c t own k wishes.Fetch) ≡ true
      by (Statement Db (HandOut label)) its x =
          let itself : number_of own ≡ k = borrowed ∙ rw its refl in
          let wrong : true ≡ false = sym (owner_begins H c t own l is other) ∙ (ap (λ j. begins (work H j)) itself ∙ ap begins its) in
          absurd cc
      by (Statement (Held j) (HandOut label)) its x =
          let at : number_of own ≡ j = borrowed ∙ rw its refl in
          from (ap (λ i. hands_out_in i (work H k)) at ∙ (ap (hands_out_in j) its ∙ same_itself j)) j (ap scope its)
      by w its x = absurd cc

fetch_sends : (H : List Event) (k : ℕ) (r : Rows) → Lawful H → rows_by H k ≡ Some r → is_live r ≡ true → is_some (line_of H k wishes.Fetch) ≡ true
fetch_sends H k r l is lives =
    let keeps = rows_keep H k r l is lives in
    let live_here : are_live H k ≡ true = ap live is ∙ lives in
    let some : is_some (rows_by H k) ≡ true = ap (λ o. is_some o) is in
    ap (λ d. is_some d) (line_here H (site H k) keeps.tenure keeps.owner k wishes.Fetch l keeps.lent (sym keeps.borrowed)) ∙ by keeps (is_call keeps.owner) refl some live_here
  where
    by : (x : KeepsItsConnection H k) → (b : Bool) → is_call x.owner ≡ b → is_some (rows_by H k) ≡ true → are_live H k ≡ true → is_some (line_there H (site H k) x.tenure x.owner k wishes.Fetch) ≡ true
    by x true call some live_here = call_fetches H k (site H k) x.tenure x.owner l x.lent x.borrowed some live_here call
    by x false call some live_here = tx_fetches H k (site H k) x.tenure x.owner l x.lent x.borrowed some live_here call

wishes_fetch : (H : List Event) (n k : ℕ) → n ≢ 0 → work H n ≡ Fetch k → are_live H k ≡ true → decided H n ≡ None → wish H n k ≡ wishes.Fetch
wishes_fetch H n k some it lives none =
    let ended : closes H n k ≡ false = ap (λ b. b && (not (is_late H (scope (work H k))) || has_begun_to_send H n)) (ap (λ j. j == n) (live_no_ender H k lives) ∙ other_number 0 n (λ is. some (sym is))) in
    let fetches : (is_fetch (work H n) && (are_live H k && is_none (decided H n))) ≡ true =
    ap (λ w. is_fetch w && (are_live H k && is_none (decided H n))) it ∙ ap (λ (b : Bool). b && is_none (decided H n)) lives ∙ ap (λ o. is_none o) none
    in
    ap (λ b. wish_as b (is_fetch (work H n) && (are_live H k && is_none (decided H n)))) ended ∙ ap (λ b. wish_as false b) fetches

fetch_due : (H : List Event) (n k : ℕ) (r : Rows) → Lawful H → is_unfinished H n ≡ true → work H n ≡ Fetch k → rows_by H k ≡ Some r → is_live r ≡ true → decided H n ≡ None → is_some (due_for H n) ≡ true
fetch_due H n k r l u it is lives none =
    let wanted = wishes_fetch H n k (unfinished_from_one H n l u) it (ap live is ∙ lives) none in
    let its : due_for H n ≡ line_of H k wishes.Fetch =
    ap (λ (b : Bool). cond b (due_in H n (work H n)) None) u ∙ ap (due_in H n) it ∙ ap (sent_for H k) wanted
    in
    ap (λ d. is_some d) its ∙ fetch_sends H k r l is lives

pub fetch_replies : (H : List Event) (n k : ℕ) → Lawful H → is_unfinished H n ≡ true → work H n ≡ Fetch k → is_some (due_for H n) ≡ false → is_some (reply_due H n) ≡ true
fetch_replies H n k l u it none = by (finds H n k l u it)
  where
    never : (b : Bool) → b ≡ true → b ≡ false → ⊥
    never b x y = cc

    undecided : (r : Rows) → rows_by H k ≡ Some r → is_live r ≡ true → (o : Option Reply) → decided H n ≡ o → is_some (or_else (or_else o (told_of_work H n (work H n))) (told_at_lending H n)) ≡ true
    undecided r is lives (Some reply) d = refl
    undecided r is lives None d = absurd (never (is_some (due_for H n)) (fetch_due H n k r l u it is lives d) none)

    with_rows : (r : Rows) (b : Bool) → rows_by H k ≡ Some r → is_live r ≡ b → is_some (reply_due H n) ≡ true
    with_rows r true is lives = undecided r is lives (decided H n) refl
    with_rows r false is ended =
        others_settled (decided H n) (told_of_work H n (work H n)) (told_at_lending H n)
        (ap (λ w. is_some (told_of_work H n w)) it ∙ ap (λ o. is_some (cond (over o) (Some (Truth false)) None)) is ∙ ap (λ b. is_some (cond (not b) (Some (Truth false)) None)) ended)

    made : (o : Option Rows) → rows_by H k ≡ o → is_some o ≡ true → is_some (reply_due H n) ≡ true
    made None is h = absurd cc
    made (Some r) is h = with_rows r (is_live r) is refl

    by : Finds H n k → is_some (reply_due H n) ≡ true
    by (inl d) = own_settled (decided H n) (told_of_work H n (work H n)) (told_at_lending H n) d
    by (inr some) = made (rows_by H k) refl some
