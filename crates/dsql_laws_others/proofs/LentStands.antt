-- Each call that stood somewhere does so after a lending, and so does the call that is lent the connection.
use Rattle.std.proofs.Common.{◌≡◌, ◌≢◌, ℕ, ◌==◌, ◌⊎◌, inl, inr, Bool, true, false, ◌&&◌, ◌||◌, cond, List, [], ◌∷◌, Some, None, is_some, is_none, refl, sym, ap, ◌∙◌}
use Rattle.std.specs.Prelude.{find}
use Rattle.std.specs.Option.{option_map}
use Rattle.dsql_laws_calls.specs.journal.declared.entry.Owner.{Owner}
use Rattle.dsql_laws_calls.specs.journal.Kinds.{number_of}
use Rattle.dsql_laws_calls.specs.journal.Readers.{is_empty}
use Rattle.dsql_laws_calls.specs.pool.declared.conn.Conn.{Conn}
use Rattle.dsql_laws_calls.specs.pool.declared.conn.Place.{Place}
use Rattle.dsql_laws_calls.specs.pool.declared.conn.Place.TheVariants.{Idle, Lent, Opening, Closing}
use Rattle.dsql_laws_calls.specs.pool.Changes.{lent, conn_changed}
use Rattle.dsql_laws_calls.specs.pool.Places.{conn_of, is_for}
use Rattle.dsql_laws_calls.specs.history.declared.record.Try.TheVariants.{Served}
use Rattle.dsql_laws_calls.specs.history.Readers.Pool.{is_home, or_none, smallest, pool, place, home}
use Rattle.dsql_laws_calls.specs.history.Readers.Tries.{with_try, tries}
use Rattle.dsql_laws_calls.proofs.laws.Tests.{same_number, other_number}
use Rattle.dsql_laws_calls.proofs.laws_work.Rows.{same_or_not}
use Rattle.dsql_laws_others.proofs.Lends.{still_waits, lends, lent_unbegun, stands_lent}
use Rattle.dsql_laws_others.proofs.Meant.{is_meant, meant}
use Rattle.dsql_laws_others.proofs.Settling.{each_stands}
use Rattle.dsql_laws_others.proofs.Untouched.{still_stands}
use Rattle.dsql_laws_calls.specs.history.declared.event.Event.{Event}
use Rattle.dsql_laws_calls.specs.history.declared.work.Scope.{Scope}
use Rattle.dsql_laws_calls.specs.history.declared.work.Scope.TheVariants.{Db, Held}
use Rattle.dsql_laws_calls.specs.history.declared.work.Work.{Work}
use Rattle.dsql_laws_calls.specs.history.declared.work.Work.TheVariants.{Statement, Begin, End, Ping, Fetch, Close, Look}
use Rattle.dsql_laws_calls.specs.history.Readers.Calls.{site, decided, has_begun_to_send, done_with, told_by_tries, told_by_scope, told_of_work, told_by_others, rests, rests_with}
use Rattle.dsql_laws_calls.specs.history.Readers.Journals.{journal}
use Rattle.dsql_laws_calls.specs.history.Readers.Lines.{has_sent}
use Rattle.dsql_laws_calls.specs.history.Readers.Owed.{owed}
use Rattle.dsql_laws_calls.specs.history.Readers.Transactions.{is_begun, tx_end}
use Rattle.dsql_laws_calls.specs.history.Readers.Unfinished.{unfinished}
use Rattle.dsql_laws_calls.specs.history.Readers.Works.{work, scope, borrower}
use Rattle.dsql_laws_calls.specs.history.Rules.Settled.{calls_stand, calls_stand_but}
use Rattle.dsql_laws_calls.specs.history.Rules.Stands.{is_own_step, is_settled_for, stand}
use Rattle.dsql_laws_calls.specs.history.Legal.{Lawful}
use Rattle.dsql_laws_calls.proofs.laws.Tried.{lends_to}
use Rattle.dsql_laws_calls.proofs.Inside.{inside_uses}
use Rattle.dsql_laws_others.proofs.LentBeside.{free_before, rests_other}
use Rattle.dsql_laws_others.proofs.LentOthers.{unbegun_silent, due_others}

-- A search for another call finds the same connection before and after.

pub found_same : (q : Conn → Bool) (c : ℕ) (f : Conn → Conn) (conns : List Conn) → ((x : Conn) → conn_of c conns ≡ Some x → q x ≡ false) → ((x : Conn) → q (f x) ≡ false) → find q (conn_changed c f conns) ≡ find q conns
found_same q c f [] before after = refl
found_same q c f (x ∷ xs) before after = by (x.number == c) before (found_same q c f xs)
  where
    by : (b : Bool) → ((y : Conn) → cond b (Some x) (conn_of c xs) ≡ Some y → q y ≡ false) → (((y : Conn) → conn_of c xs ≡ Some y → q y ≡ false) → ((y : Conn) → q (f y) ≡ false) → find q (conn_changed c f xs) ≡ find q xs)
        → find q (cond b (f x ∷ xs) (x ∷ conn_changed c f xs)) ≡ find q (x ∷ xs)
    by true was rest = ap (λ b. cond b (Some (f x)) (find q xs)) (after x) ∙ sym (ap (λ b. cond b (Some x) (find q xs)) (was x refl))
    by false was rest = ap (λ o. cond (q x) (Some x) o) (rest was after)

unopened : (n j : ℕ) (p : Place) → j ≢ n → is_meant n (Some p) ≡ true → is_for j p ≡ false
unopened n j (Opening None) apart h = refl
unopened n j (Opening (Some owner)) apart h = other_number (number_of owner) j (λ same. apart (sym same ∙ same_number (number_of owner) n h))
unopened n j _ apart h = refl

place_of_found : (H : List Event) (c : ℕ) (x : Conn) → conn_of c (pool H).conns ≡ Some x → place H c ≡ Some x.place
place_of_found H c x is = ap (option_map (λ y. y.place)) is

not_for : (H : List Event) (c t : ℕ) (own : Owner) (n j : ℕ) → Lawful (lends H c t own n) → j ≢ n → (x : Conn) → conn_of c (pool H).conns ≡ Some x → is_for j x.place ≡ false
not_for H c t own n j l apart x is = unopened n j x.place apart (ap (is_meant n) (sym (place_of_found H c x is)) ∙ meant H c t own n l)

not_home : (H : List Event) (c t : ℕ) (own : Owner) (n j : ℕ) → Lawful (lends H c t own n) → j ≢ n → (x : Conn) → conn_of c (pool H).conns ≡ Some x → is_home j x.place ≡ false
not_home H c t own n j l apart x is = by x.place refl
  where
    by : (p : Place) → x.place ≡ p → is_home j p ≡ false
    by (Lent u o) at = absurd (free_before H c t own n u o l (place_of_found H c x is ∙ ap Some at))
    by Idle at = refl
    by Closing at = refl
    by (Opening o) at = sym (ap (is_for j) at) ∙ not_for H c t own n j l apart x is

opening_same : (H : List Event) (c t : ℕ) (own : Owner) (n j : ℕ) → Lawful (lends H c t own n) → j ≢ n → smallest (is_for j) (pool (lends H c t own n)) ≡ smallest (is_for j) (pool H)
opening_same H c t own n j l apart =
    ap (option_map (λ (conn : Conn). conn.number)) (found_same (λ conn. is_for j conn.place) c (lent t own (pool H).moment) (pool H).conns (not_for H c t own n j l apart) (λ x. refl))

pub home_same : (H : List Event) (c t : ℕ) (own : Owner) (n j : ℕ) → Lawful (lends H c t own n) → j ≢ n → smallest (is_home j) (pool (lends H c t own n)) ≡ smallest (is_home j) (pool H)
home_same H c t own n j l apart =
    ap (option_map (λ (conn : Conn). conn.number))
    (found_same (λ conn. is_home j conn.place) c (lent t own (pool H).moment) (pool H).conns (not_home H c t own n j l apart)
    (λ x. other_number (number_of own) j (λ same. apart (sym same ∙ sym (lends_to H c t own n l.1)))))

-- What others have settled stays settled.

fewer_sent : (H : List Event) (c t : ℕ) (own : Owner) (n m k : ℕ) → Lawful (lends H c t own n) → scope (work H m) ≡ Held k → has_begun_to_send (lends H c t own n) m ≡ true → has_begun_to_send H m ≡ true
fewer_sent H c t own n m k l is h = by (same_or_not k n)
  where
    never : false ≡ true → ⊥
    never x = cc

    homes : borrower H m ≢ n → home (lends H c t own n) (borrower H m) ≡ home H (borrower H m)
    homes away = ap or_none (home_same H c t own n (borrower H m) l away)

    by : (k ≡ n) ⊎ (k ≢ n) → has_begun_to_send H m ≡ true
    by (inl same) = absurd (never (sym (unbegun_silent H m k (site (lends H c t own n) m) l.0 (ap (is_begun H) same ∙ lent_unbegun H c t own n l) is) ∙ h))
    by (inr away) = sym (ap (λ d. has_sent m (journal H d)) (homes (λ uses. away (sym (inside_uses H m k is) ∙ uses)))) ∙ h

pub tries_same : (H : List Event) (c t : ℕ) (own : Owner) (n m : ℕ) → m ≢ n → tries (lends H c t own n) m ≡ tries H m
tries_same H c t own n m apart = ap (λ b. with_try b Served (tries H m)) (other_number n m (λ same. apart (sym same)))

told_inside : (H : List Event) (c t : ℕ) (own : Owner) (n m : ℕ) (w : Work) (s : Scope) → Lawful (lends H c t own n) → m ≢ n → scope (work H m) ≡ s → is_some (told_by_scope H m w s) ≡ true → is_some (told_by_scope (lends H c t own n) m w s) ≡ true
told_inside H c t own n m w Db l apart is h = ap (λ ts. is_some (told_by_tries H w ts)) (tries_same H c t own n m apart) ∙ h
told_inside H c t own n m w (Held k) l apart is h = by (has_begun_to_send (lends H c t own n) m) (has_begun_to_send H m) (fewer_sent H c t own n m k l is) h
  where
    by : (now was : Bool) → (now ≡ true → was ≡ true) → is_some (cond was None (done_with (tx_end H k))) ≡ true → is_some (cond now None (done_with (tx_end H k))) ≡ true
    by now true f x = absurd cc
    by true false f x = let clash : false ≡ true = f refl in absurd cc
    by false false f x = x

told_lent : (H : List Event) (c t : ℕ) (own : Owner) (n m : ℕ) → Lawful (lends H c t own n) → m ≢ n → is_some (told_by_others H m) ≡ true → is_some (told_by_others (lends H c t own n) m) ≡ true
told_lent H c t own n m l apart h = by (work H m) refl h
  where
    by : (w : Work) → work H m ≡ w → is_some (told_of_work H m w) ≡ true → is_some (told_of_work (lends H c t own n) m w) ≡ true
    by (Fetch k) is x = x
    by (Close k) is x = x
    by (End k) is x = absurd cc
    by Look is x = absurd cc
    by (Statement s task) is x = told_inside H c t own n m (Statement s task) s l apart (ap scope is) x
    by (Begin label level read_only) is x = told_inside H c t own n m (Begin label level read_only) Db l apart (ap scope is) x
    by Ping is x = told_inside H c t own n m Ping Db l apart (ap scope is) x

settled_lent : (H : List Event) (c t : ℕ) (own : Owner) (n m : ℕ) → Lawful (lends H c t own n) → m ≢ n → is_settled_for H m ≡ true → is_settled_for (lends H c t own n) m ≡ true
settled_lent H c t own n m l apart h =
    let K = lends H c t own n in
    ap (λ o. is_some (cond (rests K m) o None) || (is_none (decided H m) && is_some (told_by_others K m))) (home_same H c t own n m l apart)
    ∙ (ap (λ b. is_some (cond b (smallest (is_home m) (pool H)) None) || (is_none (decided H m) && is_some (told_by_others K m))) (rests_other H c t own n m apart)
    ∙ either (is_some (rests_with H m)) (is_none (decided H m)) (is_some (told_by_others H m)) (is_some (told_by_others K m)) (told_lent H c t own n m l apart) h)
  where
    either : (r d a b : Bool) → (a ≡ true → b ≡ true) → (r || (d && a)) ≡ true → (r || (d && b)) ≡ true
    either true d a b so x = refl
    either false true a b so x = so x
    either false false a b so x = x

own_still : (H : List Event) (c t : ℕ) (own : Owner) (n m : ℕ) → m ≢ n → is_own_step (lends H c t own n) m ≡ true → is_own_step H m ≡ true
own_still H c t own n m apart h = by (is_empty (owed H)) (sym (ap (λ b. cond (is_empty (owed H)) b (is_own_step H m)) (other_number n m (λ same. apart (sym same)))) ∙ h)
  where
    by : (b : Bool) → cond b false (is_own_step H m) ≡ true → is_own_step H m ≡ true
    by true x = absurd cc
    by false x = x

pub stand_other : (H : List Event) (c t : ℕ) (own : Owner) (n m : ℕ) → Lawful (lends H c t own n) → m ≢ n → is_some (stand H m) ≡ true → is_some (stand (lends H c t own n) m) ≡ true
stand_other H c t own n m l apart h =
    still_stands H (lends H c t own n) m (tries_same H c t own n m apart) (still_waits m n (pool H).waiting apart) (λ x. ap (λ o. is_some o) (opening_same H c t own n m l apart) ∙ x)
    (λ x. ap (λ d. is_some d) (due_others H c t own n m l apart) ∙ x) (own_still H c t own n m apart) (settled_lent H c t own n m l apart) h

some_stand : (H : List Event) (c t : ℕ) (own : Owner) (n m : ℕ) → Lawful (lends H c t own n) → (rests (lends H c t own n) n ≡ true → is_own_step (lends H c t own n) n ≡ false) → (m ≢ n → is_some (stand H m) ≡ true) → is_some (stand (lends H c t own n) m) ≡ true
some_stand H c t own n m l step so = by (same_or_not m n)
  where
    by : (m ≡ n) ⊎ (m ≢ n) → is_some (stand (lends H c t own n) m) ≡ true
    by (inl same) = ap (λ k. is_some (stand (lends H c t own n) k)) same ∙ ap (λ s. is_some s) (stands_lent H c t own n l step)
    by (inr apart) = stand_other H c t own n m l apart (so apart)

pub itself_lent : (H : List Event) (c t : ℕ) (own : Owner) (n : ℕ) → Lawful (lends H c t own n) → (rests (lends H c t own n) n ≡ true → is_own_step (lends H c t own n) n ≡ false) → calls_stand_but n H ≡ true → calls_stand (lends H c t own n) ≡ true
itself_lent H c t own n l step h = each_stands n 0 (unfinished H) H (lends H c t own n) (λ j u some was. some_stand H c t own n j l step was) h

pub somewhere_lent : (H : List Event) (c t : ℕ) (own : Owner) (n k : ℕ) → Lawful (lends H c t own n) → (rests (lends H c t own n) n ≡ true → is_own_step (lends H c t own n) n ≡ false) → calls_stand_but k H ≡ true → calls_stand_but k (lends H c t own n) ≡ true
somewhere_lent H c t own n k l step h = each_stands k k (unfinished H) H (lends H c t own n) (λ j u apart was. some_stand H c t own n j l step (λ other. was apart)) h
