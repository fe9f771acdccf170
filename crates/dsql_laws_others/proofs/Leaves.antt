-- A connection that leaves its call or its transaction touches no other call. The others keep their connections
-- and what is due for them, and a lending that follows concerns a call that waits.
use Rattle.std.proofs.Common.{◌≡◌, ◌≢◌, ℕ, ◌==◌, ◌⊎◌, inl, inr, Bool, true, false, ◌&&◌, ◌||◌, cond, List, [], ◌∷◌, Option, Some, None, is_some, is_none, refl, sym, ap, ◌∙◌}
use Rattle.std.specs.Prelude.{drop}
use Rattle.std.specs.List.{list_all}
use Rattle.std.specs.Option.{option_map}
use Rattle.dsql_laws_calls.specs.journal.declared.entry.Owner.{Owner}
use Rattle.dsql_laws_calls.specs.journal.Kinds.{number_of}
use Rattle.dsql_laws_calls.specs.journal.Readers.{is_empty}
use Rattle.dsql_laws_calls.specs.wait.declared.request.Request.{Request}
use Rattle.dsql_laws_calls.specs.wait.Requests.{waits}
use Rattle.dsql_laws_calls.specs.pool.declared.conn.Conn.{Conn}
use Rattle.dsql_laws_calls.specs.pool.declared.conn.Place.{Place}
use Rattle.dsql_laws_calls.specs.pool.declared.conn.Place.TheVariants.{Lent}
use Rattle.dsql_laws_calls.specs.pool.declared.moves.CloseCause.{CloseCause}
use Rattle.dsql_laws_calls.specs.pool.declared.moves.Move.{Move}
use Rattle.dsql_laws_calls.specs.pool.declared.moves.Move.TheVariants.{Lend, Back, CloseStart}
use Rattle.dsql_laws_calls.specs.pool.declared.moves.Outcome.{Outcome}
use Rattle.dsql_laws_calls.specs.pool.declared.moves.Outcome.TheVariants.{Closes, Serves, Rests}
use Rattle.dsql_laws_calls.specs.pool.Changes.{back, closing}
use Rattle.dsql_laws_calls.specs.pool.Decisions.{lends_to_oldest, moves_back, when_given_back}
use Rattle.dsql_laws_calls.specs.pool.Places.{conn_of, is_lent}
use Rattle.dsql_laws_calls.specs.pool.Pooled.{next_tenure}
use Rattle.dsql_laws_calls.specs.history.Readers.Pool.{is_home, smallest, pool, place, home}
use Rattle.dsql_laws_calls.proofs.laws.Tests.{both, same_itself}
use Rattle.dsql_laws_calls.proofs.Cases.{true_false}
use Rattle.dsql_laws_calls.proofs.Found.{place_in}
use Rattle.dsql_laws_calls.proofs.laws_work.Rows.{same_or_not}
use Rattle.dsql_laws_calls.proofs.Own.{asks_own}
use Rattle.dsql_laws_others.proofs.Once.{all_found}
use Rattle.dsql_laws_others.proofs.Settling.{each_stands}
use Rattle.dsql_laws_calls.specs.history.declared.event.Event.{Event}
use Rattle.dsql_laws_calls.specs.history.declared.event.Event.TheVariants.{Pool}
use Rattle.dsql_laws_calls.specs.history.Readers.Calls.{asks_nothing, decided, rests, rests_with, told_by_others}
use Rattle.dsql_laws_calls.specs.history.Readers.Course.{caps}
use Rattle.dsql_laws_calls.specs.history.Readers.Owed.{fate, given_back, left_of, owed}
use Rattle.dsql_laws_calls.specs.history.Readers.Unfinished.{unfinished, is_unfinished}
use Rattle.dsql_laws_calls.specs.history.Readers.Works.{work, borrower}
use Rattle.dsql_laws_calls.specs.history.Rules.Line.{is_used}
use Rattle.dsql_laws_calls.specs.history.Rules.Settled.{is_in_use, is_kept, uses_what_is_lent, calls_stand_but}
use Rattle.dsql_laws_calls.specs.history.Rules.Stands.{is_own_step, is_settled_for, stand}
use Rattle.dsql_laws_calls.specs.history.Legal.{Lawful}
use Rattle.dsql_laws_calls.specs.laws.Leaving.{MayLeave}
use Rattle.dsql_laws_calls.specs.laws.OwedMade.{with_moves}
use Rattle.dsql_laws_calls.proofs.laws.GivenBack.{back_lawful}
use Rattle.dsql_laws_calls.proofs.laws.Numbered.{unfinished_from_one}
use Rattle.dsql_laws_calls.proofs.Owners.{at_home, lent_asks}
use Rattle.dsql_laws_others.proofs.Alike.{used_alike}
use Rattle.dsql_laws_others.proofs.Homes.{told_still}
use Rattle.dsql_laws_others.proofs.LentBeside.{all_used}
use Rattle.dsql_laws_others.proofs.LentStands.{somewhere_lent}
use Rattle.dsql_laws_others.proofs.Lends.{lent_some}
use Rattle.dsql_laws_others.proofs.Untouched.{still_stands}
use Rattle.dsql_laws_others.specs.Beside.{UsedBeside}
use Rattle.dsql_laws_others.proofs.Left.{Leaving, conn_beside, conn_after, same_opening, same_home, lines_off, ending_left, due_left, fewer_sent}
use Rattle.dsql_laws_others.proofs.OnceLeft.{once}
use Rattle.dsql_laws_others.proofs.Steps.{waits_apart}

-- What is lent.

rests_left : (H : List Event) (m : Move) (x : Leaving H m) (n : ℕ) → rests (Pool m ∷ H) n ≡ rests H n
rests_left H m x n = ap (λ ts. is_unfinished H n && asks_nothing (caps H) (work H n) ts) (x.tried n)

-- The owner of another lent connection has another number.
apart_owner : (H : List Event) (m : Move) (x : Leaving H m) (d u : ℕ) (o : Owner) → d ≢ x.conn → place H d ≡ Some (Lent u o) → number_of o ≢ number_of x.owner
apart_owner H m x d u o apart at same =
    let l = x.lawful in apart (sym (at_home H d u o l.0 at) ∙ (ap (home H) same ∙ at_home H x.conn x.tenure x.owner l.0 x.lent))

kept_left : (H : List Event) (m : Move) (x : Leaving H m) (d u : ℕ) (o : Owner) → d ≢ x.conn → place H d ≡ Some (Lent u o) → is_kept H (number_of o) ≡ true → is_kept (Pool m ∷ H) (number_of o) ≡ true
kept_left H m x d u o apart at h =
    let l = x.lawful in
    let n = number_of o in
    let other = apart_owner H m x d u o apart at in
    let lines : borrower H (number_of o) ≢ number_of x.owner = λ uses. other (sym (asks_own H (number_of o) (lent_asks H d u o l.0 at)) ∙ uses) in
    ap (λ b. b || rests (Pool m ∷ H) n) (used_alike H (Pool m ∷ H) n refl refl (ending_left H m x n) (λ w. lines_off H m x n w lines)) ∙ (ap (λ b. is_used H n || b) (rests_left H m x n) ∙ h)

used_left : (H : List Event) (m : Move) (x : Leaving H m) → UsedBeside H x.conn → uses_what_is_lent (Pool m ∷ H) ≡ true
used_left H m x beside = all_found (λ conn. is_in_use (Pool m ∷ H) conn.place) (pool (Pool m ∷ H)).conns (once (Pool m ∷ H)) each
  where
    after : (y : Conn) → conn_of y.number (pool (Pool m ∷ H)).conns ≡ Some y → (u : ℕ) (o : Owner) → y.place ≡ Lent u o → y.number ≡ x.conn → ⊥
    after y found u o at same = by (conn_of x.conn (pool H).conns) (sym (conn_after H m x) ∙ (ap (λ d. conn_of d (pool (Pool m ∷ H)).conns) (sym same) ∙ found))
      where
        by : (p : Option Conn) → option_map x.change p ≡ Some y → ⊥
        by None k = cc
        by (Some z) k = true_false (is_lent (Some y.place)) (ap (λ p. is_lent (Some p)) at) (ap (λ (w : Conn). is_lent (Some w.place)) (sym (one k)) ∙ x.unlent z)
          where
            one : Some (x.change z) ≡ Some y → x.change z ≡ y
            one i = cc

    each : (y : Conn) → conn_of y.number (pool (Pool m ∷ H)).conns ≡ Some y → is_in_use (Pool m ∷ H) y.place ≡ true
    each y found = by y.place refl
      where
        used : (u : ℕ) (o : Owner) → y.place ≡ Lent u o → (y.number ≡ x.conn) ⊎ (y.number ≢ x.conn) → is_kept (Pool m ∷ H) (number_of o) ≡ true
        used u o at (inl same) = absurd (after y found u o at same)
        used u o at (inr apart) =
            let before : place H y.number ≡ Some (Lent u o) = ap place_in (sym (conn_beside H m x y.number apart) ∙ found) ∙ ap Some at in
            kept_left H m x y.number u o apart before (beside y.number u o before apart)

        by : (p : Place) → y.place ≡ p → is_in_use (Pool m ∷ H) p ≡ true
        by (Lent u o) is = used u o is (same_or_not y.number x.conn)
        by _ is = refl

-- Where the calls stand.

-- Holds if call n doesn't rest with the connection that left.
abbrev StaysHome : (H : List Event) (m : Move) → Leaving H m → ℕ → Type 0
StaysHome H m x n = rests H n ≡ true → n ≢ number_of x.owner

settled_left : (H : List Event) (m : Move) (x : Leaving H m) (n : ℕ) → StaysHome H m x n → is_settled_for H n ≡ true → is_settled_for (Pool m ∷ H) n ≡ true
settled_left H m x n stays h =
    either (is_some (rests_with H n)) (is_none (decided H n)) (is_some (told_by_others H n)) (is_some (rests_with (Pool m ∷ H) n)) (is_some (told_by_others (Pool m ∷ H) n)) (homes (rests H n) refl)
    (told_still H m n (x.tried n) (fewer_sent H m x n)) h
  where
    either : (r d a s b : Bool) → (r ≡ true → s ≡ true) → (a ≡ true → b ≡ true) → (r || (d && a)) ≡ true → (s || (d && b)) ≡ true
    either r d a true b f g k = refl
    either true d a false b f g k = let clash : false ≡ true = f refl in absurd cc
    either false true a false b f g k = g k
    either false false a false b f g k = k

    homes : (b : Bool) → rests H n ≡ b → is_some (rests_with H n) ≡ true → is_some (rests_with (Pool m ∷ H) n) ≡ true
    homes true is k =
        ap (λ b. is_some (cond b (smallest (is_home n) (pool (Pool m ∷ H))) None)) (rests_left H m x n)
        ∙ (ap (λ o. is_some (cond (rests H n) o None)) (same_home H m x n (stays is)) ∙ k)
    homes false is k = let clash : false ≡ true = sym (ap (λ b. is_some (cond b (smallest (is_home n) (pool H)) None)) is) ∙ k in absurd cc

stand_left : (H : List Event) (m : Move) (x : Leaving H m) (n : ℕ) → n ≢ 0 → StaysHome H m x n → is_some (stand H n) ≡ true → is_some (stand (Pool m ∷ H) n) ≡ true
stand_left H m x n some stays h =
    still_stands H (Pool m ∷ H) n (x.tried n) (λ k. ap (waits n) x.waiting ∙ k) (λ k. ap (λ o. is_some o) (same_opening H m x n) ∙ k) (λ k. ap (λ d. is_some d) (due_left H m x n some) ∙ k)
    (λ k. sym (x.own n) ∙ k) (settled_left H m x n stays) h

-- A history in which all is settled as before. If each lent connection except c was in use, each one is now. Each call
-- stands somewhere as before, except call n if it rested with c.
pub record Settles (H K : List Event) (c n : ℕ) : Type 0 where
  pub used : UsedBeside H c → uses_what_is_lent K ≡ true
  pub somewhere : (k : ℕ) → (rests H n ≡ true → k ≡ n) → calls_stand_but k H ≡ true → calls_stand_but k K ≡ true

settles_left : (H : List Event) (m : Move) (x : Leaving H m) → Settles H (Pool m ∷ H) x.conn (number_of x.owner)
settles_left H m x = record { used = used_left H m x; somewhere = somewhere }
  where
    somewhere : (k : ℕ) → (rests H (number_of x.owner) ≡ true → k ≡ number_of x.owner) → calls_stand_but k H ≡ true → calls_stand_but k (Pool m ∷ H) ≡ true
    somewhere k but h = each_stands k k (unfinished H) H (Pool m ∷ H) (λ j u apart was. let l = x.lawful in stand_left H m x j (unfinished_from_one H j l.0 u) (stays j apart) (was apart)) h
      where
        stays : (j : ℕ) → j ≢ k → StaysHome H m x j
        stays j apart rested same = apart (same ∙ sym (but (sym (ap (rests H) same) ∙ rested)))

-- Each way in which the connection leaves.

abbrev pub leaves_back : (H : List Event) (c : ℕ) (may : MayLeave H c) → Lawful (Pool (Back c) ∷ H) → Leaving H (Back c)
leaves_back H c may l = record {
  conn = c;
  tenure = may.tenure;
  owner = may.owner;
  lawful = l;
  lent = may.lent;
  unused = may.unused;
  change = back (pool H).moment;
  number = λ y. refl;
  conns = refl;
  homeless = λ n y. refl;
  unopened = λ n y. refl;
  unlent = λ y. refl;
  waiting = refl;
  tried = λ n. refl;
  own = λ n. refl;
}

abbrev pub leaves_closing : (H : List Event) (c : ℕ) (why : CloseCause) (may : MayLeave H c) → Lawful (Pool (CloseStart c why) ∷ H) → Leaving H (CloseStart c why)
leaves_closing H c why may l = record {
  conn = c;
  tenure = may.tenure;
  owner = may.owner;
  lawful = l;
  lent = may.lent;
  unused = may.unused;
  change = closing;
  number = λ y. refl;
  conns = refl;
  homeless = λ n y. refl;
  unopened = λ n y. refl;
  unlent = λ y. refl;
  waiting = refl;
  tried = λ n. refl;
  own = λ n. refl;
}

-- The same with the lending that may follow: a call that waits is in no step of its own.

served : (H : List Event) (c u : ℕ) (rs : List Request) (may : MayLeave H c) → (pool H).waiting ≡ rs → owed (Pool (Back c) ∷ H) ≡ lends_to_oldest c u rs → Lawful (with_moves (lends_to_oldest c u rs) (Pool (Back c) ∷ H))
    → Settles H (with_moves (lends_to_oldest c u rs) (Pool (Back c) ∷ H)) c (number_of may.owner)
served H c u [] may is due l = settles_left H (Back c) (leaves_back H c may l)
served H c u (r ∷ rs) may is due l =
    let K = Pool (Back c) ∷ H in
    let l0 = l.0 in
    let s = settles_left H (Back c) (leaves_back H c may l0) in
    let some = lent_some K c u r.owner r.call l in
    let first : waits r.call (pool H).waiting ≡ true = ap (waits r.call) is ∙ ap (λ b. b || waits r.call rs) (same_itself r.call) in
    let apart : is_own_step (Pool (Lend c u r.owner r.call) ∷ K) r.call ≡ false = ap (λ ms. cond (is_empty ms) (r.call == r.call) (is_own_step H r.call)) due ∙ waits_apart H r.call l0.0 some first in
    record {
      used = λ beside. all_used K c u r.owner r.call l (s.used beside);
      somewhere = λ k but h. somewhere_lent K c u r.owner r.call k l (λ rested. apart) (s.somewhere k but h);
    }

owed_back : (H : List Event) (c : ℕ) (ms : List Move) → owed H ≡ [] → given_back H c ≡ Back c ∷ ms → owed (Pool (Back c) ∷ H) ≡ ms
owed_back H c ms none is = ap (left_of H (Back c)) none ∙ ap (drop 1) is

given : (H : List Event) (c : ℕ) (o : Outcome) (may : MayLeave H c) → when_given_back (fate H c) c (pool H) ≡ o → Lawful (with_moves (moves_back c (pool H) o) H) → Settles H (with_moves (moves_back c (pool H) o) H) c (number_of may.owner)
given H c (Closes why) may is l = settles_left H (CloseStart c why) (leaves_closing H c why may l)
given H c Serves may is l =
    served H c (next_tenure (pool H) c) (pool H).waiting may refl (owed_back H c (lends_to_oldest c (next_tenure (pool H) c) (pool H).waiting) may.owing (ap (moves_back c (pool H)) is)) l
given H c Rests may is l = settles_left H (Back c) (leaves_back H c may l)

pub given_settles : (H : List Event) (c : ℕ) → Lawful H → (may : MayLeave H c) → Settles H (with_moves (given_back H c) H) c (number_of may.owner)
given_settles H c l may = given H c (when_given_back (fate H c) c (pool H)) may refl (back_lawful H c l may)

-- If all that is lent is in use, each lent connection is.

pub lent_used : (H : List Event) (d u : ℕ) (o : Owner) → uses_what_is_lent H ≡ true → place H d ≡ Some (Lent u o) → is_kept H (number_of o) ≡ true
lent_used H d u o h is = by (conn_of d (pool H).conns) refl is
  where
    found_in : (conns : List Conn) (y : Conn) → list_all (λ conn. is_in_use H conn.place) conns ≡ true → conn_of d conns ≡ Some y → is_in_use H y.place ≡ true
    found_in [] y k at = absurd cc
    found_in (z ∷ zs) y k at = let a = both (is_in_use H z.place) (list_all (λ conn. is_in_use H conn.place) zs) k in here (z.number == d) a.0 (found_in zs y a.1) at
      where
        here : (b : Bool) → is_in_use H z.place ≡ true → (conn_of d zs ≡ Some y → is_in_use H y.place ≡ true) → cond b (Some z) (conn_of d zs) ≡ Some y → is_in_use H y.place ≡ true
        here true its rest i = let same : z ≡ y = cc in ap (λ (w : Conn). is_in_use H w.place) (sym same) ∙ its
        here false its rest i = rest i

    by : (p : Option Conn) → conn_of d (pool H).conns ≡ p → place_in p ≡ Some (Lent u o) → is_kept H (number_of o) ≡ true
    by None found at = absurd cc
    by (Some y) found at = let same : y.place ≡ Lent u o = cc in sym (ap (is_in_use H) same) ∙ found_in (pool H).conns y h found
