-- A call that rests may give its connection back if nothing else is unsettled. It then has no connection and
-- nothing to send. The connection is good and not in use, so it may leave.
use Rattle.std.proofs.Common.{◌≡◌, ◌≢◌, ℕ, ◌+◌, ◌==◌, Bool, true, false, not, ◌&&◌, ◌||◌, cond, List, [], ◌∷◌, length, Option, Some, None, is_some, refl, sym, ap, subst, ◌∙◌, arith}
use Rattle.std.specs.Prelude.{find}
use Rattle.std.specs.List.{list_any}
use Rattle.std.specs.Option.{option_map}
use Rattle.dsql_laws_calls.specs.course.declared.course.Wish.TheVariants as wishes
use Rattle.dsql_laws_calls.specs.course.Made.{or_else}
use Rattle.dsql_laws_calls.specs.driver.declared.caps.Caps.{Caps}
use Rattle.dsql_laws_calls.specs.journal.declared.entry.Owner.{Owner}
use Rattle.dsql_laws_calls.specs.journal.Kinds.{number_of}
use Rattle.dsql_laws_calls.specs.journal.Readers.{is_empty}
use Rattle.dsql_laws_calls.specs.rows.declared.rows.Rows.{Rows}
use Rattle.dsql_laws_calls.specs.wait.declared.request.Request.{Request}
use Rattle.dsql_laws_calls.specs.wait.Requests.{waits}
use Rattle.dsql_laws_calls.specs.pool.declared.conn.Conn.{Conn}
use Rattle.dsql_laws_calls.specs.pool.declared.conn.Place.{Place}
use Rattle.dsql_laws_calls.specs.pool.declared.conn.Place.TheVariants.{Lent, Opening}
use Rattle.dsql_laws_calls.specs.pool.declared.moves.Move.{Move}
use Rattle.dsql_laws_calls.specs.pool.declared.moves.Move.TheVariants.{Lend, Back, CloseStart}
use Rattle.dsql_laws_calls.specs.pool.declared.moves.Outcome.{Outcome}
use Rattle.dsql_laws_calls.specs.pool.declared.moves.Outcome.TheVariants.{Closes, Serves, Rests}
use Rattle.dsql_laws_calls.specs.pool.Calls.{wants}
use Rattle.dsql_laws_calls.specs.pool.Decisions.{lends_to_oldest, moves_back, when_given_back}
use Rattle.dsql_laws_calls.specs.pool.Places.{conn_of, is_for}
use Rattle.dsql_laws_calls.specs.pool.Pooled.{next_tenure}
use Rattle.dsql_laws_calls.specs.history.declared.record.Try.{Try}
use Rattle.dsql_laws_calls.specs.history.declared.record.Try.TheVariants.{Served, Lost, Refused}
use Rattle.dsql_laws_calls.specs.history.Readers.HandedOut.{live, rows_by, are_live}
use Rattle.dsql_laws_calls.specs.history.Readers.Pool.{is_home, smallest, pool, place}
use Rattle.dsql_laws_calls.specs.history.Readers.Tries.{has_a_try, tries}
use Rattle.dsql_laws_calls.proofs.laws.Truths.{or_first, or_second}
use Rattle.dsql_laws_calls.proofs.laws.Tests.{both, together, same_number, same_itself}
use Rattle.dsql_laws_calls.proofs.laws.Wanted.{wants_counts}
use Rattle.dsql_laws_calls.proofs.Cases.{true_false}
use Rattle.dsql_laws_calls.proofs.Found.{place_in}
use Rattle.dsql_laws_others.proofs.Once.{found_number}
use Rattle.dsql_laws_calls.specs.history.declared.event.Event.{Event}
use Rattle.dsql_laws_calls.specs.history.declared.event.Event.TheVariants.{Pool}
use Rattle.dsql_laws_calls.specs.history.declared.work.Work.{Work}
use Rattle.dsql_laws_calls.specs.history.declared.work.Work.TheVariants.{Ping}
use Rattle.dsql_laws_calls.specs.history.Readers.Calls.{asks_nothing, decided, reply_due, rests, rests_with, told_as_lent, told_by_others, told_by_tries, told_of_work}
use Rattle.dsql_laws_calls.specs.history.Readers.Course.{caps}
use Rattle.dsql_laws_calls.specs.history.Readers.Journals.{journal}
use Rattle.dsql_laws_calls.specs.history.Readers.Owed.{fate, given_back, owed}
use Rattle.dsql_laws_calls.specs.history.Readers.Transactions.{is_begun, is_over}
use Rattle.dsql_laws_calls.specs.history.Readers.Unfinished.{is_unfinished}
use Rattle.dsql_laws_calls.specs.history.Readers.Works.{work}
use Rattle.dsql_laws_calls.specs.history.Rules.Causes.{goes_in_turn}
use Rattle.dsql_laws_calls.specs.history.Rules.Ending.{ending}
use Rattle.dsql_laws_calls.specs.history.Rules.Line.{due_in, due_for, rest_with, is_used}
use Rattle.dsql_laws_calls.specs.history.Rules.Sent.{line_of}
use Rattle.dsql_laws_calls.specs.history.Rules.Settled.{owes_nothing, uses_what_is_lent, calls_stand_but, is_settled_but}
use Rattle.dsql_laws_calls.specs.history.Legal.{Lawful}
use Rattle.dsql_laws_calls.specs.laws.Leaving.{MayLeave}
use Rattle.dsql_laws_calls.specs.laws.OwedMade.{with_moves}
use Rattle.dsql_laws_calls.proofs.laws.GivenBack.{back_lawful, back_made}
use Rattle.dsql_laws_calls.proofs.laws.Numbered.{unfinished_from_one}
use Rattle.dsql_laws_calls.proofs.Begun.{begun_begins}
use Rattle.dsql_laws_calls.proofs.Idle.{found_any}
use Rattle.dsql_laws_calls.proofs.Makers.{hands_out, rows_hand_out}
use Rattle.dsql_laws_calls.proofs.Owed.{few_given_back}
use Rattle.dsql_laws_calls.proofs.Owners.{owner_is_of}
use Rattle.dsql_laws_calls.proofs.Plain.{begins}
use Rattle.dsql_laws_calls.proofs.Untried.{wants_has_try}
use Rattle.dsql_laws_calls.proofs.Wanted.{lent_wants_none}
use Rattle.dsql_laws_others.proofs.LentOthers.{due_others}
use Rattle.dsql_laws_others.proofs.LentStands.{home_same, tries_same}
use Rattle.dsql_laws_others.specs.GivenUp.{MayGiveUp}
use Rattle.dsql_laws_others.proofs.Left.{Leaving, due_left, left_homeless}
use Rattle.dsql_laws_others.proofs.Leaves.{given_settles, leaves_back, leaves_closing, lent_used}
use Rattle.dsql_laws_others.proofs.OnceLeft.{once}
use Rattle.dsql_laws_others.proofs.Rested.{resting, rests_pinging, only_resets, rests_well}
use Rattle.dsql_laws_others.proofs.Unopened.{whole_when_reset}

-- A call that was served has no further try.

pub served_tries : (can : Caps) (it : Work) (ts : List Try) → asks_nothing can it ts ≡ true → has_a_try ts ≡ false
served_tries can it (Served ∷ ts) h = refl
served_tries can it [] h = let r = resting can it [] h in let clash : false ≡ true = ap (λ w. asks_nothing can w []) (sym r.pings) ∙ h in absurd cc
served_tries can it (Lost ∷ ts) h = let r = resting can it (Lost ∷ ts) h in let clash : false ≡ true = ap (λ w. asks_nothing can w (Lost ∷ ts)) (sym r.pings) ∙ h in absurd cc
served_tries can it (Refused answer ∷ ts) h =
    let r = resting can it (Refused answer ∷ ts) h in let clash : false ≡ true = ap (λ w. asks_nothing can w (Refused answer ∷ ts)) (sym r.pings) ∙ h in absurd cc

rests_unwanting : (H : List Event) (n : ℕ) → Lawful H → n ≢ 0 → rests H n ≡ true → wants n (pool H) ≡ true → ⊥
rests_unwanting H n l some rested wanting =
    let b = both (is_unfinished H n) (asks_nothing (caps H) (work H n) (tries H n)) rested in
    true_false (has_a_try (tries H n)) (wants_has_try H n l some wanting) (served_tries (caps H) (work H n) (tries H n) b.1)

-- The connection with which a call rests is lent to it.

record LentTo (H : List Event) (n c : ℕ) : Type 0 where
  tenure : ℕ
  owner : Owner
  number : number_of owner ≡ n
  lent : place H c ≡ Some (Lent tenure owner)

lent_home : (H : List Event) (n c : ℕ) → Lawful H → n ≢ 0 → rests H n ≡ true → smallest (is_home n) (pool H) ≡ Some c → LentTo H n c
lent_home H n c l some rested is = by (find (λ x. is_home n x.place) (pool H).conns) refl is
  where
    placed : (x : Conn) → place H c ≡ Some x.place → conn_of x.number (pool H).conns ≡ Some x → (p : Place) → x.place ≡ p → is_home n p ≡ true → LentTo H n c
    placed x there found (Lent t o) at home = record { tenure = t; owner = o; number = same_number (number_of o) n home; lent = there ∙ ap Some at }
    placed x there found (Opening (Some o)) at home =
        let any = found_any (λ conn. is_for n conn.place) x.number (pool H).conns x found (ap (is_for n) at ∙ home) in
        absurd (rests_unwanting H n l some rested (or_second (waits n (pool H).waiting) (list_any (λ conn. is_for n conn.place) (pool H).conns) any))
    placed x there found _ at home = absurd cc

    by : (o : Option Conn) → find (λ x. is_home n x.place) (pool H).conns ≡ o → option_map (λ (x : Conn). x.number) o ≡ Some c → LentTo H n c
    by None found number = absurd cc
    by (Some x) found number =
        let f = found_number (λ conn. is_home n conn.place) (pool H).conns x (once H) found in
        let its : x.number ≡ c = one number in
        placed x (sym (ap (place H) its) ∙ ap place_in f.0) f.0 x.place refl f.1
      where
        one : Some x.number ≡ Some c → x.number ≡ c
        one k = cc

-- The connection isn't in use and may leave.

unused : (H : List Event) (n : ℕ) → Lawful H → work H n ≡ Ping → is_unfinished H n ≡ true → is_some (due_for H n) ≡ false → is_used H n ≡ false
unused H n l pings u silent =
    let line : is_some (line_of H n wishes.Nothing) ≡ false = sym (ap (λ (b : Bool). is_some (cond b (due_in H n (work H n)) None)) u ∙ ap (λ it. is_some (due_in H n it)) pings) ∙ silent in
    ap (λ b. (b && not (is_over H n)) || (are_live H n || is_some (cond b (ending H n) (rest_with H n (rows_by H n))))) unbegun
    ∙ (ap (λ o. live o || is_some (rest_with H n o)) (no_rows (rows_by H n) (rows_hand_out H n)) ∙ line)
  where
    unbegun : is_begun H n ≡ false
    unbegun = by (is_begun H n) refl
      where
        by : (b : Bool) → is_begun H n ≡ b → b ≡ false
        by false is = refl
        by true is = let clash : false ≡ true = sym (ap begins pings) ∙ begun_begins H n l is in absurd cc

    no_rows : (o : Option Rows) → (is_some o ≡ true → hands_out (work H n) ≡ true) → o ≡ None
    no_rows None h = refl
    no_rows (Some r) h = let clash : false ≡ true = sym (ap hands_out pings) ∙ h refl in absurd cc

in_turn : (H : List Event) (c t : ℕ) (own : Owner) → place H c ≡ Some (Lent t own) → is_settled_but (number_of own) H ≡ true → goes_in_turn H (place H c) ≡ true
in_turn H c t own at settled = ap (goes_in_turn H) at ∙ or_second (not (rests H (number_of own))) (is_settled_but (number_of own) H) settled

none_owed : (H : List Event) → is_empty (owed H) ≡ true → owed H ≡ []
none_owed H h = by (owed H) h
  where
    by : (ms : List Move) → is_empty ms ≡ true → ms ≡ []
    by [] k = refl
    by (m ∷ ms) k = absurd cc

-- What holds after the connection has left.
record After (H K : List Event) (n : ℕ) : Type 0 where
  none : smallest (is_home n) (pool K) ≡ None
  unfinished : is_unfinished K n ≡ is_unfinished H n
  due : due_for K n ≡ due_for H n
  replies : reply_due K n ≡ reply_due H n

-- The call replies as before.
replies_on : (H : List Event) (m : Move) (n : ℕ) → work H n ≡ Ping → tries (Pool m ∷ H) n ≡ tries H n → reply_due (Pool m ∷ H) n ≡ reply_due H n
replies_on H m n pings same =
    let told : told_by_others (Pool m ∷ H) n ≡ told_by_others H n =
    ap (told_of_work (Pool m ∷ H) n) pings ∙ (ap (told_by_tries H Ping) same ∙ sym (ap (told_of_work H n) pings))
    in
    ap (λ o. or_else (or_else (decided H n) o) (told_as_lent (caps H) (work H n) (tries (Pool m ∷ H) n))) told
    ∙ ap (λ ts. or_else (or_else (decided H n) (told_by_others H n)) (told_as_lent (caps H) (work H n) ts)) same

after_move : (H : List Event) (m : Move) (x : Leaving H m) → number_of x.owner ≢ 0 → work H (number_of x.owner) ≡ Ping → is_unfinished (Pool m ∷ H) (number_of x.owner) ≡ is_unfinished H (number_of x.owner) → After H (Pool m ∷ H) (number_of x.owner)
after_move H m x some pings u = record {
  none = left_homeless H m x;
  unfinished = u;
  due = due_left H m x (number_of x.owner) some;
  replies = replies_on H m (number_of x.owner) pings (x.tried (number_of x.owner));
}

after_serving : (H : List Event) (c u : ℕ) (rs : List Request) (may : MayLeave H c) → Lawful H → number_of may.owner ≢ 0 → work H (number_of may.owner) ≡ Ping → (pool H).waiting ≡ rs
    → Lawful (with_moves (lends_to_oldest c u rs) (Pool (Back c) ∷ H)) → After H (with_moves (lends_to_oldest c u rs) (Pool (Back c) ∷ H)) (number_of may.owner)
after_serving H c u [] may l some pings is k = after_move H (Back c) (leaves_back H c may k) some pings refl
after_serving H c u (r ∷ rs) may l some pings is k =
    let G = Pool (Back c) ∷ H in
    let n = number_of may.owner in
    let first = after_move H (Back c) (leaves_back H c may k.0) some pings refl in
    let tried = tries_same G c u r.owner r.call n apart in
    record {
      none = home_same G c u r.owner r.call n k apart ∙ first.none;
      unfinished = refl;
      due = due_others G c u r.owner r.call n k apart ∙ first.due;
      replies = replies_on G (Lend c u r.owner r.call) n pings tried ∙ first.replies;
    }
  where
    -- A call that waits has no connection.
    apart : number_of may.owner ≢ r.call
    apart same =
        let waiting : waits (number_of may.owner) (pool H).waiting ≡ true =
        ap (waits (number_of may.owner)) is ∙ ap (λ b. b || waits (number_of may.owner) rs) (ap (λ i. r.call == i) same ∙ same_itself r.call)
        in
        let one = wants_counts (number_of may.owner) (pool H) (or_first (waits (number_of may.owner) (pool H).waiting) (list_any (λ conn. is_for (number_of may.owner) conn.place) (pool H).conns) waiting) in
        let none = lent_wants_none H c may.tenure may.owner l may.lent in
        absurd (omega (arith, one, none))

after_leaving : (H : List Event) (c : ℕ) (o : Outcome) (may : MayLeave H c) → Lawful H → number_of may.owner ≢ 0 → work H (number_of may.owner) ≡ Ping → Lawful (with_moves (moves_back c (pool H) o) H)
    → After H (with_moves (moves_back c (pool H) o) H) (number_of may.owner)
after_leaving H c (Closes why) may l some pings k = after_move H (CloseStart c why) (leaves_closing H c why may k) some pings refl
after_leaving H c Serves may l some pings k = after_serving H c (next_tenure (pool H) c) (pool H).waiting may l some pings refl k
after_leaving H c Rests may l some pings k = after_move H (Back c) (leaves_back H c may k) some pings refl

pub moves_add : (ms : List Move) (H : List Event) → length (with_moves ms H) ≡ length ms + length H
moves_add [] H = omega arith
moves_add (m ∷ ms) H = let rest = moves_add ms (Pool m ∷ H) in omega (arith, rest)

pub settled_from : (G : List Event) (n : ℕ) → owed G ≡ [] → uses_what_is_lent G ≡ true → calls_stand_but n G ≡ true → is_settled_but n G ≡ true
settled_from G n none used somewhere =
    together (owes_nothing G) (uses_what_is_lent G && calls_stand_but n G) (ap is_empty none) (together (uses_what_is_lent G) (calls_stand_but n G) used somewhere)

none_with : (G : List Event) (n : ℕ) → smallest (is_home n) (pool G) ≡ None → rests_with G n ≡ None
none_with G n none = ap (λ o. cond (rests G n) o None) none ∙ by (rests G n)
  where
    by : (b : Bool) → cond {A = Option ℕ} b None None ≡ None
    by true = refl
    by false = refl

-- So the call may give the connection back.

may_give_up : (H : List Event) (c t : ℕ) (own : Owner) → Lawful H → number_of own ≢ 0 → is_settled_but (number_of own) H ≡ true → is_unfinished H (number_of own) ≡ true → is_some (due_for H (number_of own)) ≡ false
    → rests H (number_of own) ≡ true → place H c ≡ Some (Lent t own) → MayGiveUp H (number_of own) c
may_give_up H c t own l some settled u silent rested at =
    let n = number_of own in
    let b = both (owes_nothing H) (uses_what_is_lent H && calls_stand_but n H) settled in
    let d = both (uses_what_is_lent H) (calls_stand_but n H) b.1 in
    let r = rests_pinging H n rested in
    let own_is = owner_is_of H c t own l at in
    let heard = only_resets H c t own l at rested in
    let may : MayLeave H c = record {
      owing = none_owed H b.0;
      tenure = t;
      owner = own;
      lent = at;
      owned = own_is.0;
      turn = in_turn H c t own at settled;
      unused = unused H n l r.pings u silent;
      whole = whole_when_reset t (journal H c) heard.resets;
    }
    in
    let gone = after_leaving H c (when_given_back (fate H c) c (pool H)) may l some r.pings (back_lawful H c l may) in
    let left = given_settles H c l may in
    record {
      leaves = may;
      good = rests_well H c t own l at rested;
      few = let longer = moves_add (given_back H c) H in let few = few_given_back H c in omega (arith, longer, few);
      unfinished = gone.unfinished ∙ u;
      settled = settled_from (with_moves (given_back H c) H) n (back_made H c may) (left.used (λ e v owner lent apart. lent_used H e v owner d.0 lent)) (left.somewhere n (λ h. refl) d.1);
      homeless = none_with (with_moves (given_back H c) H) n gone.none;
      silent = ap (λ o. is_some o) gone.due ∙ silent;
      due = gone.replies;
    }

rests_there : (b : Bool) (o : Option ℕ) (c : ℕ) → cond b o None ≡ Some c → (b ≡ true) × (o ≡ Some c)
rests_there true o c h = (refl, h)
rests_there false o c h = absurd cc

pub gives_up : (H : List Event) (n c : ℕ) → Lawful H → is_settled_but n H ≡ true → is_unfinished H n ≡ true → is_some (due_for H n) ≡ false → rests_with H n ≡ Some c → MayGiveUp H n c
gives_up H n c l settled u silent is =
    let b = rests_there (rests H n) (smallest (is_home n) (pool H)) c is in
    let some = unfinished_from_one H n l u in
    let at = lent_home H n c l some b.0 b.1 in
    let its = at.number in
    subst (λ i. MayGiveUp H i c) its
    (may_give_up H c at.tenure at.owner l (λ none. some (sym its ∙ none)) (ap (λ i. is_settled_but i H) its ∙ settled) (ap (is_unfinished H) its ∙ u) (ap (λ i. is_some (due_for H i)) its ∙ silent) (ap (rests H) its ∙ b.0) at.lent)
