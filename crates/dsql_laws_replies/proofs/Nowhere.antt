-- A call has a settled reply if it has nothing to send, wants no connection and may not ask for one. Fetches from live
-- rows are the exception.
use Rattle.std.proofs.Common.{◌≡◌, ℕ, ◌==◌, Bool, true, false, not, ◌&&◌, ◌||◌, cond, List, [], ◌∷◌, Option, Some, None, is_some, refl, sym, ap, ◌∙◌}
use Rattle.std.specs.Prelude.{find, option_map}
use Rattle.std.specs.List.{list_all, list_any}
use Rattle.dsql_laws_calls.specs.course.declared.course.Wish.TheVariants as wishes
use Rattle.dsql_laws_calls.specs.driver.declared.caps.Caps.{Caps}
use Rattle.dsql_laws_calls.specs.journal.Kinds.{number_of}
use Rattle.dsql_laws_calls.specs.wait.Requests.{waits}
use Rattle.dsql_laws_calls.specs.pool.declared.conn.Conn.{Conn}
use Rattle.dsql_laws_calls.specs.pool.declared.conn.Place.{Place}
use Rattle.dsql_laws_calls.specs.pool.declared.conn.Place.TheVariants.{Lent}
use Rattle.dsql_laws_calls.specs.pool.Calls.{wants}
use Rattle.dsql_laws_calls.specs.pool.Places.{is_for}
use Rattle.dsql_laws_calls.specs.rows.declared.rows.Rows.{Rows}
use Rattle.dsql_laws_calls.specs.history.declared.record.Try.{Try}
use Rattle.dsql_laws_calls.specs.history.declared.record.Try.TheVariants.{Served}
use Rattle.dsql_laws_calls.specs.history.Readers.HandedOut.{live, are_live, rows_by}
use Rattle.dsql_laws_calls.specs.history.Readers.Pool.{is_home, pool}
use Rattle.dsql_laws_calls.specs.history.Readers.Tries.{was_served, tries}
use Rattle.dsql_laws_calls.proofs.laws.Places.{neither}
use Rattle.dsql_laws_calls.proofs.laws.Tests.{both, same_number}
use Rattle.dsql_laws_calls.specs.history.declared.event.Event.{Event}
use Rattle.dsql_laws_calls.specs.history.declared.reply.Reply.{Reply}
use Rattle.dsql_laws_calls.specs.history.declared.work.Scope.{Scope}
use Rattle.dsql_laws_calls.specs.history.declared.work.Scope.TheVariants.{Db, Held}
use Rattle.dsql_laws_calls.specs.history.declared.work.Work.{Work}
use Rattle.dsql_laws_calls.specs.history.declared.work.Work.TheVariants.{Ping, Fetch, Close, End, Look}
use Rattle.dsql_laws_calls.specs.history.Readers.Calls.{asks_nothing, decided, reply_due, rests, told_at_lending, told_by_others, told_of_work}
use Rattle.dsql_laws_calls.specs.history.Readers.Course.{caps}
use Rattle.dsql_laws_calls.specs.history.Readers.Transactions.{is_begun, is_over}
use Rattle.dsql_laws_calls.specs.history.Readers.Unfinished.{is_unfinished}
use Rattle.dsql_laws_calls.specs.history.Readers.Works.{asks, asks_in, scope, work}
use Rattle.dsql_laws_calls.specs.history.Rules.Asking.{may_ask}
use Rattle.dsql_laws_calls.specs.history.Rules.Ending.{ending}
use Rattle.dsql_laws_calls.specs.history.Rules.Line.{due_for, due_in, is_used, rest_with}
use Rattle.dsql_laws_calls.specs.history.Rules.Sent.{line_of}
use Rattle.dsql_laws_calls.specs.history.Rules.Settled.{is_in_use, is_kept, uses_what_is_lent}
use Rattle.dsql_laws_calls.specs.history.Legal.{Lawful}
use Rattle.dsql_laws_calls.specs.Nothing.{HasNothing, is_elsewhere}
use Rattle.dsql_laws_calls.proofs.BeginningsAt.{beginnings}
use Rattle.dsql_laws_calls.proofs.Looked.{looked}
use Rattle.dsql_laws_calls.proofs.Nowhere.{others_settled, own_settled, settled_unserved}
use Rattle.dsql_laws_calls.proofs.Own.{due_line}
use Rattle.dsql_laws_calls.proofs.Works.{is_look}
use Rattle.dsql_laws_replies.proofs.EndReplies.{end_replies}
use Rattle.dsql_laws_replies.proofs.Fetches.{fetch_replies}
use Rattle.dsql_laws_replies.proofs.InsideReplies.{inside_replies}
use Rattle.dsql_laws_replies.proofs.RowsTold.{rows_told}
use Rattle.dsql_laws_replies.proofs.Served.{served_replies}

never : {A : Type 0} (b : Bool) → b ≡ true → b ≡ false → A
never b x y = absurd cc

-- A call that has made no rows, has begun no transaction and has nothing to send uses no connection.
pub unused : (H : List Event) (n : ℕ) → is_unfinished H n ≡ true → asks (work H n) ≡ true → is_some (due_for H n) ≡ false → is_begun H n ≡ false → rows_by H n ≡ None → is_used H n ≡ false
unused H n u own none unbegun rowless =
    ap (λ (b : Bool). (b && not (is_over H n)) || (live (rows_by H n) || is_some (cond b (ending H n) (rest_with H n (rows_by H n))))) unbegun
    ∙ (ap (λ o. live o || is_some (rest_with H n o)) rowless ∙ line)
  where
    line : is_some (line_of H n wishes.Nothing) ≡ false
    line = ap (λ d. is_some d) (sym (due_line H n (work H n) own)) ∙ ap (λ (b : Bool). is_some (cond b (due_in H n (work H n)) None)) (sym u) ∙ none

-- If every lent connection is in use, such a call has no connection.
pub lent_used : (H : List Event) (n : ℕ) (conns : List Conn) → list_all (λ conn. is_in_use H conn.place) conns ≡ true → is_kept H n ≡ false → list_any (λ conn. is_for n conn.place) conns ≡ false
    → find (λ conn. is_home n conn.place) conns ≡ None
lent_used H n [] used free unwanted = refl
lent_used H n (x ∷ xs) used free unwanted =
    let a = both (is_in_use H x.place) (list_all (λ conn. is_in_use H conn.place) xs) used in
    let b = neither (is_for n x.place) (list_any (λ conn. is_for n conn.place) xs) unwanted in
    ap (λ c. cond c (Some x) (find (λ conn. is_home n conn.place) xs)) (at x.place a.0 b.0) ∙ lent_used H n xs a.1 free b.1
  where
    at : (p : Place) → is_in_use H p ≡ true → is_for n p ≡ false → is_home n p ≡ false
    at (Lent t owner) u f = by (number_of owner == n) refl
      where
        by : (c : Bool) → (number_of owner == n) ≡ c → (number_of owner == n) ≡ false
        by false is = is
        by true is = let its : is_kept H n ≡ true = ap (λ k. is_kept H k) (sym (same_number (number_of owner) n is)) ∙ u in never (is_kept H n) its free
    at _ u f = f

-- A call that wasn't served is no ping with nothing to ask.
untold : (can : Caps) (it : Work) (tried : List Try) → was_served tried ≡ false → asks_nothing can it tried ≡ false
untold can Ping (Served ∷ tried) h = absurd cc
untold can _ _ h = refl

-- A call that wasn't served rests with no connection.
pub restless : (H : List Event) (n : ℕ) → was_served (tries H n) ≡ false → rests H n ≡ false
restless H n h = ap (λ b. is_unfinished H n && b) (untold (caps H) (work H n) (tries H n) h) ∙ none (is_unfinished H n)
  where
    none : (b : Bool) → (b && false) ≡ false
    none true = refl
    none false = refl

unsettled : {A : Type 0} (o : Option Reply) → o ≡ None → is_some o ≡ true → A
unsettled None none some = absurd cc
unsettled (Some reply) none some = absurd cc

has_nothing : (H : List Event) (n : ℕ) → Lawful H → is_unfinished H n ≡ true → is_some (due_for H n) ≡ false → wants n (pool H) ≡ false → uses_what_is_lent H ≡ true → was_served (tries H n) ≡ false
    → decided H n ≡ None → asks (work H n) ≡ true → HasNothing H n
has_nothing H n l u none unwanting used unserved undecided own =
    let free : is_kept H n ≡ false = ap (λ b. b || rests H n) (unused H n u own none unbegun rowless) ∙ restless H n unserved in
    let apart = neither (waits n (pool H).waiting) (list_any (λ conn. is_for n conn.place) (pool H).conns) unwanting in
    record { unwanting = unwanting; homeless = ap (option_map (λ conn. conn.number)) (lent_used H n (pool H).conns used free apart.1); rowless = rowless }
  where
    rowless : rows_by H n ≡ None
    rowless = by (rows_by H n) refl
      where
        by : (o : Option Rows) → rows_by H n ≡ o → o ≡ None
        by None is = refl
        by (Some r) is = unsettled (decided H n) undecided (rows_told H n l u own (ap (λ o. is_some o) is))

    unbegun : is_begun H n ≡ false
    unbegun = by (is_begun H n) refl
      where
        by : (b : Bool) → is_begun H n ≡ b → b ≡ false
        by true is = let b = beginnings H l in unsettled (decided H n) undecided (b.told n is u)
        by false is = refl

-- So the call's reply is settled, and so is that of any other call that doesn't fetch from live rows.

pub nowhere_replies : (H : List Event) (n : ℕ) → Lawful H → is_unfinished H n ≡ true → is_some (due_for H n) ≡ false → wants n (pool H) ≡ false → uses_what_is_lent H ≡ true → may_ask H n ≡ false
    → ((k : ℕ) → work H n ≡ Fetch k → are_live H k ≡ false) → is_some (reply_due H n) ≡ true
nowhere_replies H n l u none unwanting used may dead = by (decided H n) refl
  where
    own : is_some (decided H n) ≡ true → is_some (reply_due H n) ≡ true
    own some = own_settled (decided H n) (told_by_others H n) (told_at_lending H n) some

    on_database : decided H n ≡ None → is_elsewhere (work H n) ≡ false → (b : Bool) → was_served (tries H n) ≡ b → is_some (reply_due H n) ≡ true
    on_database undecided here true served = served_replies H n l u served none
    on_database undecided here false unserved = settled_unserved H n l u (has_nothing H n l u none unwanting used unserved undecided) may unserved here

    stating : decided H n ≡ None → (s : Scope) → scope (work H n) ≡ s → is_elsewhere (work H n) ≡ not (asks_in s) → is_some (reply_due H n) ≡ true
    stating undecided Db is elsewhere = on_database undecided elsewhere (was_served (tries H n)) refl
    stating undecided (Held k) is elsewhere = inside_replies H n k l u is none

    of_work : decided H n ≡ None → (w : Work) → work H n ≡ w → is_some (reply_due H n) ≡ true
    of_work undecided (Fetch k) is = fetch_replies H n k l u is (dead k is)
    of_work undecided (Close k) is = others_settled (decided H n) (told_of_work H n (work H n)) (told_at_lending H n) (ap (λ w. is_some (told_of_work H n w)) is)
    of_work undecided (End k) is = end_replies H n k l u is none
    of_work undecided Look is = own (looked H n l u (ap is_look is))
    of_work undecided w is = stating undecided (scope w) (ap scope is) (ap is_elsewhere is)

    by : (o : Option Reply) → decided H n ≡ o → is_some (reply_due H n) ≡ true
    by (Some reply) is = own (ap (λ o. is_some o) is)
    by None is = of_work is (work H n) refl
