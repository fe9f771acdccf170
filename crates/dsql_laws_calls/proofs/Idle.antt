-- A connection is lent only to calls that ask for one of their own. A call that sends on its own connection has
-- had a try.
use Rattle.std.proofs.Common.{◌≡◌, ◌≢◌, ℕ, zero, suc, ◌≤◌, ◌==◌, ◌⊎◌, inl, inr, Bool, true, false, not, ◌&&◌, ◌||◌, cond, List, [], ◌∷◌, ◌++◌, length, Option, Some, None, is_some, refl, sym, ap, subst, ◌∙◌, arith}
use Rattle.std.proofs.lemmas.Bool.{or_cases, or_left, or_right}
use Rattle.std.specs.Prelude.{slice_index_or}
use Rattle.std.specs.List.{list_any}
use Rattle.std.specs.Option.{option_map}
use Rattle.dsql_laws.specs.driver.declared.call.DriverCall.{DriverCall}
use Rattle.dsql_laws.specs.course.declared.course.Wish.TheVariants as wishes
use Rattle.dsql_laws.specs.journal.declared.entry.Entry.{Entry}
use Rattle.dsql_laws.specs.journal.declared.entry.Owner.{Owner}
use Rattle.dsql_laws.specs.wait.Requests.{waits}
use Rattle.dsql_laws.specs.pool.declared.conn.Conn.{Conn}
use Rattle.dsql_laws.specs.pool.declared.conn.Place.{Place}
use Rattle.dsql_laws.specs.pool.declared.conn.Place.TheVariants.{Idle, Lent, Opening, Closing}
use Rattle.dsql_laws.specs.pool.declared.moves.Move.TheVariants.{OpenStart, Lend, Back, CloseStart, Gone, Fell}
use Rattle.dsql_laws.specs.pool.Calls.{wants}
use Rattle.dsql_laws.specs.pool.Changes.{lent, back, closing}
use Rattle.dsql_laws.specs.pool.Places.{conn_of, is_for, is_idle, is_opening}
use Rattle.dsql_laws.specs.pool.Pooled.{Pooled, next_number}
use Rattle.dsql_laws.proofs.pool.Frees.{passing}
use Rattle.dsql_laws.specs.history.declared.event.Control.TheVariants.{Tick, Set}
use Rattle.dsql_laws.specs.history.declared.record.Try.{Try}
use Rattle.dsql_laws.specs.history.Readers.Pool.{is_home, pool, place, wanted_by}
use Rattle.dsql_laws.specs.history.Readers.Tries.{with_try, tries, loses}
use Rattle.dsql_laws.proofs.Tests.{both}
use Rattle.dsql_laws.proofs.Counts.{changed_fewer, gone_fewer}
use Rattle.dsql_laws.proofs.Deserved.{is_home_of, Deserves, deserved}
use Rattle.dsql_laws.proofs.Tried.{is_lent_out, lent_count, lost_count, shut_fewer, begun_same, same_control, lends_to, lent_tried}
use Rattle.dsql_laws.proofs.ByCall.{by_call}
use Rattle.dsql_laws.specs.history.declared.work.Work.{Work}
use Rattle.dsql_laws.specs.history.declared.work.Work.TheVariants.{Look}
use Rattle.dsql_laws.specs.history.Readers.Works.{asks, works, work, work_of, borrower}
use Rattle.dsql_laws.specs.history.declared.event.Event.{Event}
use Rattle.dsql_laws.specs.history.declared.event.Event.TheVariants.{Entered, Heard, Pool, Ticked, SetLimit, Replied, Ended}
use Rattle.dsql_laws.specs.history.declared.event.Op.TheVariants.{DbClose}
use Rattle.dsql_laws.specs.history.Readers.Owed.{owed}
use Rattle.dsql_laws.specs.history.Readers.Unfinished.{is_unfinished}
use Rattle.dsql_laws.specs.history.Rules.Asking.{may_ask}
use Rattle.dsql_laws.specs.history.Rules.Line.{is_due, due_in, due_for, is_due_at, parts, may_come}
use Rattle.dsql_laws.specs.history.Legal.{Allowed, Lawful}
use Rattle.dsql_laws.proofs.AtRest.{keeps_of}
use Rattle.dsql_laws.proofs.Holdings.{lending_from}
use Rattle.dsql_laws.proofs.Wanting.{works_alone, wants_its_own, sends_where_lent}
use Rattle.dsql_laws_calls.proofs.Works.{work_stays, stays_unfinished, enters_unfinished}
use Rattle.dsql_laws_calls.proofs.Looks.{due_there, sent_no_look}
use Rattle.dsql_laws_calls.proofs.Untried.{moves_of}
use Rattle.dsql_laws.specs.history.Readers.Calls.{site}
use Rattle.dsql_laws_calls.proofs.Own.{due_own, asks_own}

-- The calls that have a connection.

old_asks : (ws : List Work) (w : Work) (n : ℕ) → asks (slice_index_or ws n Look) ≡ true → asks (slice_index_or (ws ++ w ∷ []) n Look) ≡ true
old_asks [] w n h = absurd cc
old_asks (v ∷ ws) w zero h = h
old_asks (v ∷ ws) w (suc n) h = old_asks ws w n h

pub found_any : (q : Conn → Bool) (c : ℕ) (conns : List Conn) (x : Conn) → conn_of c conns ≡ Some x → q x ≡ true → list_any q conns ≡ true
found_any q c [] x is h = absurd cc
found_any q c (y ∷ ys) x is h = by (λ k. found_any q c ys x k h) (y.number == c) is
  where
    by : (conn_of c ys ≡ Some x → list_any q ys ≡ true) → (b : Bool) → cond b (Some y) (conn_of c ys) ≡ Some x → (q y || list_any q ys) ≡ true
    by rest true k = let same : y ≡ x = cc in or_left (q y) (list_any q ys) (ap q same ∙ h)
    by rest false k = or_right (q y) (list_any q ys) (rest k)

wants_waiting : (n : ℕ) (p : Pooled) → waits n p.waiting ≡ true → wants n p ≡ true
wants_waiting n p h = ap (λ b. b || list_any (λ conn. is_for n conn.place) p.conns) h

wants_opening : (n c : ℕ) (p : Pooled) (found : Option Conn) → conn_of c p.conns ≡ found → (is_idle (option_map (λ x. x.place) found) || is_opening (option_map (λ x. x.place) found)) ≡ true → passing (is_home_of n) found ≡ 1 → wants n p ≡ true
wants_opening n c p None is from one = absurd cc
wants_opening n c p (Some x) is from one = at x.place refl
  where
    passed : (b : Bool) → cond {A = ℕ} b 1 0 ≡ 1 → b ≡ true
    passed true k = refl
    passed false k = absurd cc

    at : (place : Place) → x.place ≡ place → wants n p ≡ true
    at (Opening w) there =
        let home : is_home n x.place ≡ true = passed (is_home n x.place) one in
        let its : is_for n x.place ≡ true = ap (is_for n) there ∙ (sym (ap (is_home n) there) ∙ home) in
        or_right (waits n p.waiting) (list_any (λ conn. is_for n conn.place) p.conns) (found_any (λ conn. is_for n conn.place) c p.conns x is its)
    at Idle there = let none : passing (is_home_of n) (Some x) ≡ 0 = ap (λ (pl : Place). cond {A = ℕ} (is_home n pl) 1 0) there in let clash : 1 ≡ 0 = sym one ∙ none in absurd cc
    at (Lent t o) there = let clash : true ≡ false = sym from ∙ ap (λ (pl : Place). is_idle (Some pl) || is_opening (Some pl)) there in absurd cc
    at Closing there = let clash : true ≡ false = sym from ∙ ap (λ (pl : Place). is_idle (Some pl) || is_opening (Some pl)) there in absurd cc

-- A call that is lent a connection may ask for one, or wants one.
pub lends_from : (H : List Event) (c t : ℕ) (o : Owner) (n : ℕ) → Lawful H → Allowed H (Pool (Lend c t o n)) → (may_ask H n ≡ true) ⊎ (wants n (pool H) ≡ true)
lends_from H c t o n l a = by (lending_from H c t o n (owed H) (keeps_of H (Pool (Lend c t o n)) a) refl (deserved H l))
  where
    by : (may_ask H n ≡ true) ⊎ Deserves c n (pool H) → (may_ask H n ≡ true) ⊎ (wants n (pool H) ≡ true)
    by (inl may) = inl may
    by (inr (inl waited)) = inr (wants_waiting n (pool H) waited)
    by (inr (inr opened)) = inr (wants_opening n c (pool H) (conn_of c (pool H).conns) refl (moves_of H c t o n a) opened)

pub lends_asker : (H : List Event) (c t : ℕ) (o : Owner) (n : ℕ) → Lawful H → Allowed H (Pool (Lend c t o n)) → n ≢ 0 → asks (work H n) ≡ true
lends_asker H c t o n l a some = by (lends_from H c t o n l a)
  where
    by : (may_ask H n ≡ true) ⊎ (wants n (pool H) ≡ true) → asks (work H n) ≡ true
    by (inl may) = works_alone H n may
    by (inr wanting) = wants_its_own H n l some wanting

pub lent_asks : (H : List Event) (n : ℕ) → Lawful H → n ≢ 0 → 1 ≤ lent_count n (pool H) → asks (work H n) ≡ true
lent_asks [] n l some now = absurd (omega (arith, now))
lent_asks (Entered client m DbClose ∷ H) n l some now =
    let few = shut_fewer n (pool H) in old_asks (works H) (work_of (works H) DbClose) n (lent_asks H n l.0 some (omega (arith, few, now)))
lent_asks (Entered client m op ∷ H) n l some now = old_asks (works H) (work_of (works H) op) n (lent_asks H n l.0 some now)
lent_asks (Pool (OpenStart c k) ∷ H) n l some now =
    let same = begun_same n (next_number (pool H)) (wanted_by H k) (pool H).conns in lent_asks H n l.0 some (omega (arith, same, now))
lent_asks (Pool (Lend c t o k) ∷ H) n l some now =
    by_call k n (asks (work H n) ≡ true)
    (λ is. subst (λ m. asks (work H m) ≡ true) is (lends_asker H c t o k l.0 l.1 (λ none. some (sym is ∙ none))))
    (λ not.
    let whose = lends_to H c t o k l.1 in
    let few = changed_fewer (is_lent_out n) c (lent t o (pool H).moment) (pool H).conns (λ x. ap (λ j. j == n) (sym whose) ∙ not) in
    lent_asks H n l.0 some (omega (arith, few, now)))
lent_asks (Pool (Back c) ∷ H) n l some now =
    let few = changed_fewer (is_lent_out n) c (back (pool H).moment) (pool H).conns (λ x. refl) in lent_asks H n l.0 some (omega (arith, few, now))
lent_asks (Pool (CloseStart c why) ∷ H) n l some now =
    let few = changed_fewer (is_lent_out n) c closing (pool H).conns (λ x. refl) in lent_asks H n l.0 some (omega (arith, few, now))
lent_asks (Pool (Gone c) ∷ H) n l some now = let few = gone_fewer (is_lent_out n) c (pool H).conns in lent_asks H n l.0 some (omega (arith, few, now))
lent_asks (Pool (Fell c k) ∷ H) n l some now = let few = gone_fewer (is_lent_out n) c (pool H).conns in lent_asks H n l.0 some (omega (arith, few, now))
lent_asks (Ticked moment ∷ H) n l some now = let same = same_control (Tick moment) n (pool H) in lent_asks H n l.0 some (omega (arith, same, now))
lent_asks (SetLimit s k ∷ H) n l some now = let same = same_control (Set s k) n (pool H) in lent_asks H n l.0 some (omega (arith, same, now))
lent_asks (Ended ∷ H) n l some now = let few = shut_fewer n (pool H) in lent_asks H n l.0 some (omega (arith, few, now))
lent_asks (_ ∷ H) n l some now = lent_asks H n l.0 some now

-- The calls that send.

pub due_lent : (H : List Event) (n : ℕ) → asks (work H n) ≡ true → is_some (due_in H n (work H n)) ≡ true → 1 ≤ lent_count n (pool H)
due_lent H n own h =
    let there : 1 ≤ lent_count (borrower H n) (pool H) = sends_where_lent H n wishes.Nothing (site H n) (place H (site H n)) refl (due_own H n (work H n) own h) in
    subst (λ m. 1 ≤ lent_count m (pool H)) (asks_own H n own) there

-- Holds if call n has no reply yet and, if it asks for a connection of its own, has had a try.
pub record Sends (H : List Event) (n : ℕ) : Type 0 where
  pub unfinished : is_unfinished H n ≡ true
  pub tried : asks (work H n) ≡ true → 1 ≤ length (tries H n)

due_sends : (H : List Event) (n : ℕ) (call : DriverCall) → Lawful H → is_due (due_for H n) call ≡ true → Sends H n
due_sends H n call l h = by (is_unfinished H n) refl h
  where
    some_due : (d : Option DriverCall) → is_due d call ≡ true → is_some d ≡ true
    some_due None k = absurd cc
    some_due (Some q) k = refl

    by : (b : Bool) → is_unfinished H n ≡ b → is_due (cond b (due_in H n (work H n)) None) call ≡ true → Sends H n
    by true is k = record {
      unfinished = is;
      tried = λ own.
          let lent = due_lent H n own (some_due (due_in H n (work H n)) k) in
          let tried = lent_tried H n l in
          omega (arith, lent, tried);
    }
    by false is k = absurd cc

more_tries : (b : Bool) (x : Try) (ts : List Try) → 1 ≤ length ts → 1 ≤ length (with_try b x ts)
more_tries true x ts h = omega (arith, h)
more_tries false x ts h = h

tries_stay : (H : List Event) (e : Event) (n : ℕ) → 1 ≤ length (tries H n) → 1 ≤ length (tries (e ∷ H) n)
tries_stay H (Heard e) n h = let same = lost_count ((e.call_no == n) && loses (work H n) e) (tries H n) in omega (arith, same, h)
tries_stay H (Pool (Lend c t o k)) n h = more_tries (k == n) _ (tries H n) h
tries_stay H (Pool (Fell c k)) n h = more_tries (k == n) _ (tries H n) h
tries_stay H _ n h = h

still : (H : List Event) (last : Event) (e : Entry) → not (parts last e) ≡ true → is_unfinished H e.call_no ≡ true → is_unfinished (last ∷ H) e.call_no ≡ true
still H (Replied m reply) e apart u = replied_still (m == e.call_no) refl apart
  where
    replied_still : (b : Bool) → (m == e.call_no) ≡ b → not b ≡ true → is_unfinished (Replied m reply ∷ H) e.call_no ≡ true
    replied_still true is k = absurd cc
    replied_still false is k = stays_unfinished H m reply e.call_no is u
still H (Entered client m op) e apart u = enters_unfinished H client m op e.call_no u
still H _ e apart u = u

-- A call for which an answer is under way still sends.
pub came_of : (H : List Event) (e : Entry) → Lawful H → may_come H e ≡ true → (e.call_no == 0) ≡ false → Sends H e.call_no
came_of [] e l h some = absurd cc
came_of (last ∷ H) e l h some = by (λ may. came_of H e l.0 may some) (or_cases (is_due_at (last ∷ H) (place (last ∷ H) e.conn) e) (not (parts last e) && may_come H e) h)
  where
    by : (may_come H e ≡ true → Sends H e.call_no) → (is_due_at (last ∷ H) (place (last ∷ H) e.conn) e ≡ true) ⊎ ((not (parts last e) && may_come H e) ≡ true) → Sends (last ∷ H) e.call_no
    by earlier (inl now) = due_sends (last ∷ H) e.call_no e.call l (due_there (last ∷ H) (place (last ∷ H) e.conn) e now some)
    by earlier (inr could) =
        let b = both (not (parts last e)) (may_come H e) could in
        let before = earlier b.1 in
        let same = work_stays H last e.call_no (sent_no_look H e b.1 some) in
        record {
          unfinished = still H last e b.0 before.unfinished;
          tried = λ own. tries_stay H last e.call_no (before.tried (sym (ap asks same) ∙ own));
        }
