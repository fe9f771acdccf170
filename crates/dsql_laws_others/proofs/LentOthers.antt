-- A lending leaves what is due for each other call, because no other call uses the connection that is lent.
use Rattle.std.proofs.Common.{◌≡◌, ◌≢◌, ℕ, ◌==◌, ◌⊎◌, inl, inr, Bool, true, false, not, ◌&&◌, ◌||◌, cond, List, Option, Some, None, is_some, is_none, refl, sym, ap, ◌∙◌}
use Rattle.dsql_laws_calls.specs.course.declared.course.Wish.{Wish}
use Rattle.dsql_laws_calls.specs.course.declared.course.Wish.TheVariants as wishes
use Rattle.dsql_laws_calls.specs.journal.declared.entry.Owner.{Owner}
use Rattle.dsql_laws_calls.specs.rows.declared.rows.Rows.{Rows}
use Rattle.dsql_laws_calls.specs.pool.declared.moves.Move.TheVariants.{Lend}
use Rattle.dsql_laws_calls.specs.history.Readers.HandedOut.{live, over, is_late, rows_by, are_live, ender}
use Rattle.dsql_laws_calls.specs.history.Rules.Wishes.{wish_as}
use Rattle.dsql_laws_calls.proofs.laws.Tests.{other_number}
use Rattle.dsql_laws_calls.proofs.DueWay.{borrow_same}
use Rattle.dsql_laws_calls.proofs.laws_work.Rows.{same_or_not}
use Rattle.dsql_laws_calls.specs.history.declared.event.Event.{Event}
use Rattle.dsql_laws_calls.specs.history.declared.event.Event.TheVariants.{Pool}
use Rattle.dsql_laws_calls.specs.history.declared.work.Scope.TheVariants.{Db, Held}
use Rattle.dsql_laws_calls.specs.history.declared.work.Work.{Work}
use Rattle.dsql_laws_calls.specs.history.declared.work.Work.TheVariants.{Statement, Begin, End, Ping, Fetch, Close, Look}
use Rattle.dsql_laws_calls.specs.history.Readers.Calls.{decided, site, has_begun_to_send}
use Rattle.dsql_laws_calls.specs.history.Readers.Journals.{journal}
use Rattle.dsql_laws_calls.specs.history.Readers.Lines.{has_sent}
use Rattle.dsql_laws_calls.specs.history.Readers.Pool.{place, home}
use Rattle.dsql_laws_calls.specs.history.Readers.Transactions.{is_begun, is_over, goes_on, tx_ender}
use Rattle.dsql_laws_calls.specs.history.Readers.Unfinished.{is_unfinished}
use Rattle.dsql_laws_calls.specs.history.Readers.Works.{work, scope, is_fetch, asks, borrower}
use Rattle.dsql_laws_calls.specs.history.Rules.Ending.{ending}
use Rattle.dsql_laws_calls.specs.history.Rules.Line.{due_inside, due_in, due_for}
use Rattle.dsql_laws_calls.specs.history.Rules.Sent.{line_at, line_of, wish, sent_for}
use Rattle.dsql_laws_calls.specs.history.Legal.{Lawful}
use Rattle.dsql_laws_calls.proofs.laws.Numbered.{unfinished_from_one}
use Rattle.dsql_laws_calls.proofs.Enders.{unended}
use Rattle.dsql_laws_calls.proofs.Inside.{inside, inside_uses}
use Rattle.dsql_laws_calls.proofs.Makers.{rows_hand_out}
use Rattle.dsql_laws_calls.proofs.Own.{asks_own}
use Rattle.dsql_laws_others.proofs.Alike.{Concerns, Alike, due_alike, same_tx_ender}
use Rattle.dsql_laws_others.proofs.Homes.{HomeStays, HomeUnlent, move_alike, no_line}
use Rattle.dsql_laws_others.proofs.Lends.{lends, lent_unbegun}
use Rattle.dsql_laws_others.proofs.LentBeside.{other_home, other_line, rows_elsewhere, ending_same}

-- For a call that uses another connection, and works only on rows of such calls, the histories before and after
-- are alike.

beside_alike : (H : List Event) (c t : ℕ) (own : Owner) (n m : ℕ) → Lawful (lends H c t own n) → borrower H m ≢ n → ((x : ℕ) → (work H m ≡ Fetch x) ⊎ (work H m ≡ Close x) → borrower H x ≢ n) → Alike H (lends H c t own n) m
beside_alike H c t own n m l apart rows = move_alike H (Lend c t own n) m (λ j. ending_same H c t own n j l) lines (sent (other_home H c t own n (borrower H m) l apart))
  where
    K : List Event
    K = lends H c t own n

    lines : (j : ℕ) (w : Wish) → Concerns H m j → line_of K j w ≡ line_of H j w
    lines j w (inl same) = other_line H c t own n j w l (λ uses. apart (sym (ap (borrower H) same) ∙ uses))
    lines j w (inr its) = other_line H c t own n j w l (rows j its)

    sent : HomeStays H K (borrower H m) ⊎ HomeUnlent H K (borrower H m) → (has_begun_to_send K m ≡ has_begun_to_send H m) ⊎ ((j : ℕ) (w : Wish) → borrower H j ≡ borrower H m → line_of H j w ≡ None)
    sent (inl s) = inl (ap (λ d. has_sent m (journal H d)) s.homes)
    sent (inr u) = inr (λ j w same. ap (λ b. line_at H j w (home H b) (place H (home H b))) same ∙ no_line H j w (home H (borrower H m)) (place H (home H (borrower H m))) u.before)

-- Rows that weren't made.

pub none_made : (o : Option Rows) → is_some o ≡ false → o ≡ None
none_made None h = refl
none_made (Some r) h = absurd cc

pub no_wish : (L : List Event) (m j : ℕ) → m ≢ 0 → rows_by L j ≡ None → wish L m j ≡ wishes.Nothing
no_wish L m j some none =
    let unended_so : ender L j ≡ 0 = unended L j (ap over none) in
    ap (λ e. wish_as ((e == m) && rest) (is_fetch (work L m) && (are_live L j && is_none (decided L m)))) unended_so
    ∙ (ap (λ b. wish_as (b && rest) (is_fetch (work L m) && (are_live L j && is_none (decided L m)))) (other_number 0 m (λ same. some (sym same)))
    ∙ (ap (λ o. wish_as false (is_fetch (work L m) && (live o && is_none (decided L m)))) none ∙ nothing (is_fetch (work L m))))
  where
    rest : Bool
    rest = not (is_late L (scope (work L j))) || has_begun_to_send L m

    nothing : (b : Bool) → wish_as false (b && false) ≡ wishes.Nothing
    nothing true = refl
    nothing false = refl

pub unmade : (L : List Event) (n j : ℕ) → n ≢ 0 → is_some (rows_by L j) ≡ false → sent_for L j (wish L n j) ≡ None
unmade L n j some none = ap (sent_for L j) (no_wish L n j some (none_made (rows_by L j) none))

-- A call in a transaction that wasn't begun has sent nothing.
pub unbegun_silent : (H : List Event) (m n c : ℕ) → Lawful H → is_begun H n ≡ false → scope (work H m) ≡ Held n → has_sent m (journal H c) ≡ false
unbegun_silent H m n c l unbegun is = by (has_sent m (journal H c)) refl
  where
    never : true ≡ false → ⊥
    never x = cc

    by : (b : Bool) → has_sent m (journal H c) ≡ b → b ≡ false
    by false h = refl
    by true h = let i = inside H l in absurd (never (sym (i.sent m n c h is) ∙ unbegun))

pub nothing_in : (L : List Event) (m n : ℕ) → has_begun_to_send L m ≡ false → is_begun L n ≡ false → due_inside L m (Held n) ≡ None
nothing_in L m n unsent unbegun =
    ap (λ b. cond (b || (goes_on L n && is_none (decided L m))) (line_of L m wishes.Nothing) None) unsent
    ∙ ap (λ b. cond ((b && not (is_over L n)) && is_none (decided L m)) (line_of L m wishes.Nothing) None) unbegun

abbrev pub is_rows : Work → Bool
is_rows (Fetch j) = true
is_rows (Close j) = true
is_rows it = false

abbrev pub rows_in : Work → ℕ
rows_in (Fetch j) = j
rows_in (Close j) = j
rows_in it = 0

pub due_others : (H : List Event) (c t : ℕ) (own : Owner) (n m : ℕ) → Lawful (lends H c t own n) → m ≢ n → due_for (lends H c t own n) m ≡ due_for H m
due_others H c t own n m l apart = by_unfinished (is_unfinished H m) refl
  where
    K : List Event
    K = lends H c t own n

    over : (j : ℕ) → (work H m ≡ Fetch j) ⊎ (work H m ≡ Close j) → sent_for K j (wish K m j) ≡ sent_for H j (wish H m j) → due_for K m ≡ due_for H m
    over j (inl is) none = ap (λ d. cond (is_unfinished H m) d None) (ap (due_in K m) is ∙ (none ∙ sym (ap (due_in H m) is)))
    over j (inr is) none = ap (λ d. cond (is_unfinished H m) d None) (ap (due_in K m) is ∙ (none ∙ sym (ap (due_in H m) is)))

    over_rows : (j : ℕ) → m ≢ 0 → (work H m ≡ Fetch j) ⊎ (work H m ≡ Close j) → ((x : ℕ) → (work H m ≡ Fetch x) ⊎ (work H m ≡ Close x) → x ≡ j) → (b : Bool) → is_some (rows_by H j) ≡ b → due_for K m ≡ due_for H m
    over_rows j some its one false none = over j its (unmade K m j some none ∙ sym (unmade H m j some none))
    over_rows j some its one true made =
        let away = rows_elsewhere H c t own n j l made in
        let user = borrow_same H m j its (rows_hand_out H j made) in
        due_alike H K m (beside_alike H c t own n m l (λ uses. away (sym user ∙ uses)) (λ x which uses. away (sym (ap (borrower H) (one x which)) ∙ uses)))

    own_line : asks (work H m) ≡ true → ((x : ℕ) → (work H m ≡ Fetch x) ⊎ (work H m ≡ Close x) → ⊥) → due_for K m ≡ due_for H m
    own_line asking none = due_alike H K m (beside_alike H c t own n m l (λ uses. apart (sym (asks_own H m asking) ∙ uses)) (λ x which. absurd (none x which)))

    in_tx : (k : ℕ) → scope (work H m) ≡ Held k → ((x : ℕ) → (work H m ≡ Fetch x) ⊎ (work H m ≡ Close x) → ⊥) → ((L : List Event) → due_in L m (work H m) ≡ due_inside L m (Held k)) → (k ≡ n) ⊎ (k ≢ n) → due_for K m ≡ due_for H m
    in_tx k is none inner (inr away) = due_alike H K m (beside_alike H c t own n m l (λ uses. away (sym (inside_uses H m k is) ∙ uses)) (λ x which. absurd (none x which)))
    in_tx k is none inner (inl same) =
        let unbegun : is_begun H k ≡ false = ap (is_begun H) same ∙ lent_unbegun H c t own n l in
        ap (λ d. cond (is_unfinished H m) d None)
        (inner K ∙ (nothing_in K m k (unbegun_silent H m k (site K m) l.0 unbegun is) unbegun ∙ sym (inner H ∙ nothing_in H m k (unbegun_silent H m k (site H m) l.0 unbegun is) unbegun)))

    neither : (it : Work) → work H m ≡ it → ((x : ℕ) → (it ≡ Fetch x) ⊎ (it ≡ Close x) → ⊥) → (x : ℕ) → (work H m ≡ Fetch x) ⊎ (work H m ≡ Close x) → ⊥
    neither it is none x (inl w) = none x (inl (sym is ∙ w))
    neither it is none x (inr w) = none x (inr (sym is ∙ w))

    apart_from : (it : Work) → is_rows it ≡ false → (x : ℕ) → (it ≡ Fetch x) ⊎ (it ≡ Close x) → ⊥
    apart_from it other x (inl w) = let clash : true ≡ false = sym (ap is_rows w) ∙ other in cc
    apart_from it other x (inr w) = let clash : true ≡ false = sym (ap is_rows w) ∙ other in cc

    by : (it : Work) → work H m ≡ it → m ≢ 0 → due_for K m ≡ due_for H m
    by (Fetch j) is some = over_rows j some (inl is) (λ x which. fetched x which) (is_some (rows_by H j)) refl
      where
        fetched : (x : ℕ) → (work H m ≡ Fetch x) ⊎ (work H m ≡ Close x) → x ≡ j
        fetched x (inl w) = ap rows_in (sym w ∙ is)
        fetched x (inr w) = ap rows_in (sym w ∙ is)
    by (Close j) is some = over_rows j some (inr is) (λ x which. closed x which) (is_some (rows_by H j)) refl
      where
        closed : (x : ℕ) → (work H m ≡ Fetch x) ⊎ (work H m ≡ Close x) → x ≡ j
        closed x (inl w) = ap rows_in (sym w ∙ is)
        closed x (inr w) = ap rows_in (sym w ∙ is)
    by (End k) is some = let e = ending_same H c t own n k l in let d = same_tx_ender H (Pool (Lend c t own n)) k refl in ap (λ x. cond (is_unfinished H m) x None) (ap (due_in K m) is ∙ (ap (λ i. cond (i == m) (ending K k) None) d ∙ (ap (λ q. cond (tx_ender H k == m) q None) e ∙ sym (ap (due_in H m) is))))
    by Look is some = ap (λ x. cond (is_unfinished H m) x None) (ap (due_in K m) is ∙ sym (ap (due_in H m) is))
    by (Statement Db task) is some = own_line (ap asks is) (neither (Statement Db task) is (apart_from (Statement Db task) refl))
    by (Begin label level read_only) is some = own_line (ap asks is) (neither (Begin label level read_only) is (apart_from (Begin label level read_only) refl))
    by Ping is some = own_line (ap asks is) (neither Ping is (apart_from Ping refl))
    by (Statement (Held k) task) is some = in_tx k (ap scope is) (neither (Statement (Held k) task) is (apart_from (Statement (Held k) task) refl)) (λ L. ap (due_in L m) is) (same_or_not k n)

    by_unfinished : (b : Bool) → is_unfinished H m ≡ b → due_for K m ≡ due_for H m
    by_unfinished false u = ap (λ (b : Bool). cond b (due_in K m (work H m)) None) u ∙ sym (ap (λ (b : Bool). cond b (due_in H m (work H m)) None) u)
    by_unfinished true u = by (work H m) refl (unfinished_from_one H m l.0 u)
