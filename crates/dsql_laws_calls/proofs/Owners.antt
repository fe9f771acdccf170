-- Connections are lent to calls and to the transactions that they begin, and are opened for them. Each of these
-- calls asks for a connection of its own.
use Rattle.std.proofs.Common.{◌≡◌, ◌≢◌, ℕ, zero, suc, ◌+◌, ◌-◌, ◌≤◌, ◌==◌, Bool, true, false, not, ◌&&◌, cond, List, [], ◌∷◌, ◌++◌, map, Option, Some, None, refl, sym, ap, subst, ◌∙◌, arith}
use Rattle.std.specs.Prelude.{drop, take, length, find, count_by, Result, Ok}
use Rattle.std.specs.List.{list_all}
use Rattle.std.specs.Option.{option_map}
use Rattle.std.proofs.lemmas.List.Folds.{list_all-append}
use Rattle.dsql_laws.specs.driver.declared.answer.DriverAnswer.{DriverAnswer}
use Rattle.dsql_laws.specs.driver.Fits.{is_done}
use Rattle.dsql_laws.specs.journal.declared.entry.Owner.{Owner}
use Rattle.dsql_laws.specs.journal.declared.entry.Owner.TheVariants.{Call, Tx, Pin, House}
use Rattle.dsql_laws.specs.journal.Kinds.{is_house, number_of, same_owner}
use Rattle.dsql_laws.specs.wait.declared.request.Request.{Request}
use Rattle.dsql_laws.specs.wait.Requests.{without_call}
use Rattle.dsql_laws.specs.pool.declared.conn.Conn.{Conn}
use Rattle.dsql_laws.specs.pool.declared.conn.Place.{Place}
use Rattle.dsql_laws.specs.pool.declared.conn.Place.TheVariants.{Lent, Opening, Closing}
use Rattle.dsql_laws.specs.pool.declared.moves.CloseCause.{CloseCause}
use Rattle.dsql_laws.specs.pool.declared.moves.CloseCause.TheVariants.{IdleFull}
use Rattle.dsql_laws.specs.pool.declared.moves.CloseCause.TheVariants as causes
use Rattle.dsql_laws.specs.pool.declared.moves.Move.{Move}
use Rattle.dsql_laws.specs.pool.declared.moves.Move.TheVariants.{OpenStart, Lend, Back, CloseStart, Gone, Fell}
use Rattle.dsql_laws.specs.pool.declared.moves.Outcome.{Outcome}
use Rattle.dsql_laws.specs.pool.declared.moves.Outcome.TheVariants.{Serves}
use Rattle.dsql_laws.specs.pool.declared.request.Asked.{Asked}
use Rattle.dsql_laws.specs.pool.declared.request.Asked.TheVariants as asked
use Rattle.dsql_laws.specs.pool.declared.request.AskFault.{AskFault}
use Rattle.dsql_laws.specs.pool.Changes.{lent, back, closing, opening, conn_changed, gone, unwanted}
use Rattle.dsql_laws.specs.pool.Places.{conn_of}
use Rattle.dsql_laws.specs.pool.Pooled.{Pooled, place_at, next_tenure, next_number}
use Rattle.dsql_laws.specs.pool.Moved.{made, begun, shut, ticked}
use Rattle.dsql_laws.specs.pool.Decisions.{closings_of_setting, falls_to, openings, due_openings, lends_to_oldest, moves_back, moves_unwanted, when_given_back, when_unwanted, when_opened}
use Rattle.dsql_laws.specs.pool.Calls.{then_openings, moves_opened, moves_failed, moves_asked, open_set, idle_set, lifetime_set, idle_time_set}
use Rattle.dsql_laws.proofs.pool.Rows.{all_pass, all_filter, all_map, all_changed, found_passes}
use Rattle.dsql_laws.proofs.pool.Frees.{passing, count-cons}
use Rattle.dsql_laws.specs.history.declared.event.Control.{Control}
use Rattle.dsql_laws.specs.history.declared.event.Setting.TheVariants.{MaxOpen, MaxIdle, MaxLife, MaxIdleTime}
use Rattle.dsql_laws.specs.history.declared.event.Control.TheVariants.{Tick, Set}
use Rattle.dsql_laws.specs.history.Same.{is_first}
use Rattle.dsql_laws.specs.history.Readers.Pool.{with_control, is_home, or_none, pool, place, home, request, wanted_by, with_move}
use Rattle.dsql_laws.specs.history.Readers.Owed.{answered, controlled, fate, given_back, left_of, owed}
use Rattle.dsql_laws.proofs.Tests.{both, together, move_is, same_number, same_itself, other_number}
use Rattle.dsql_laws.proofs.Outdated.{outdated_all}
use Rattle.dsql_laws.proofs.Deserved.{is_home_of}
use Rattle.dsql_laws.proofs.Wanted.{found_counts}
use Rattle.dsql_laws.specs.Holdings.{homes_of}
use Rattle.dsql_laws_calls.proofs.Found.{place_in}
use Rattle.dsql_laws.specs.history.Readers.Works.{asks, work, owner_as, owner_of}
use Rattle.dsql_laws.specs.history.declared.event.Event.{Event}
use Rattle.dsql_laws.specs.history.declared.event.Event.TheVariants.{Entered, Heard, Pool, Waits, Ticked, SetLimit, Ended}
use Rattle.dsql_laws.specs.history.declared.event.Op.{Op}
use Rattle.dsql_laws.specs.history.declared.event.Op.TheVariants.{DbClose}
use Rattle.dsql_laws.proofs.Owners.{owner_number, owner_not_house}
use Rattle.dsql_laws_calls.proofs.Stays.{work_stays, not_looking}
use Rattle.dsql_laws.specs.history.Rules.Asking.{may_ask, ask_outcome, is_asked_for}
use Rattle.dsql_laws.specs.history.Rules.Order.{follows}
use Rattle.dsql_laws.specs.history.Legal.{Lawful}
use Rattle.dsql_laws.proofs.Asker.{asker}
use Rattle.dsql_laws.proofs.OwedMoves.{owed_own}
use Rattle.dsql_laws.proofs.AtRest.{Keeps, keeps_of, asks_now, asked_so, queued_so}
use Rattle.dsql_laws.proofs.Numbered.{unfinished_from_one}
use Rattle.dsql_laws.proofs.Holdings.{opening_asked, one_at_most}

-- Is true if the owner has a number, and its call asks for a connection of its own. The owner is the one for
-- whom that call asks.
abbrev pub is_asker : List Event → Owner → Bool
is_asker H o = not (number_of o == 0) && (asks (work H (number_of o)) && same_owner o (owner_of H (number_of o)))

-- Is true if the test holds for the owner that has the connection, or for whom it is being opened.
abbrev pub is_owned : (Owner → Bool) → Place → Bool
is_owned f (Lent t o) = f o
is_owned f (Opening (Some o)) = f o
is_owned f _ = true

abbrev are_owned : (Owner → Bool) → List Conn → Bool
are_owned f conns = list_all (λ x. is_owned f x.place) conns

abbrev are_asked : (Owner → Bool) → List Request → Bool
are_asked f rs = list_all (λ r. f r.owner) rs

abbrev lends_well : (Owner → Bool) → Move → Bool
lends_well f (Lend c t o n) = f o
lends_well f _ = true

abbrev lend_well : (Owner → Bool) → List Move → Bool
lend_well f ms = list_all (lends_well f) ms

record Owned (H : List Event) : Type 0 where
  conns : are_owned (is_asker H) (pool H).conns ≡ true
  waiting : are_asked (is_asker H) (pool H).waiting ≡ true
  owing : lend_well (is_asker H) (owed H) ≡ true

-- The moves of each kind.

openings_well : (f : Owner → Bool) (k c : ℕ) → lend_well f (openings k c) ≡ true
openings_well f zero c = refl
openings_well f (suc k) c = openings_well f k (c + 1)

then_well : (f : Owner → Bool) (ms : List Move) (p : Pooled) → lend_well f ms ≡ true → lend_well f (then_openings ms p) ≡ true
then_well f ms p h =
    let k = due_openings (made ms p) in
    let c = next_number (made ms p) in
    list_all-append (lends_well f) ms (openings k c) ∙ together (lend_well f ms) (lend_well f (openings k c)) h (openings_well f k c)

closings_well : (f : Owner → Bool) (why : CloseCause) (cs : List ℕ) → lend_well f (map (λ c. CloseStart c why) cs) ≡ true
closings_well f why [] = refl
closings_well f why (c ∷ cs) = closings_well f why cs

oldest_well : (f : Owner → Bool) (c t : ℕ) (rs : List Request) → are_asked f rs ≡ true → lend_well f (lends_to_oldest c t rs) ≡ true
oldest_well f c t [] h = refl
oldest_well f c t (r ∷ rs) h = let a = both (f r.owner) (are_asked f rs) h in together (f r.owner) true a.0 refl

unwanted_well : (f : Owner → Bool) (c : ℕ) (p : Pooled) (o : Outcome) → are_asked f p.waiting ≡ true → lend_well f (moves_unwanted c p o) ≡ true
unwanted_well f c p Serves h = oldest_well f c (next_tenure p c) p.waiting h
unwanted_well f c p _ h = refl

back_well : (f : Owner → Bool) (c : ℕ) (p : Pooled) (o : Outcome) → are_asked f p.waiting ≡ true → lend_well f (moves_back c p o) ≡ true
back_well f c p Serves h = oldest_well f c (next_tenure p c) p.waiting h
back_well f c p _ h = refl

is_place : (x : Conn) (p : Place) → Some x.place ≡ Some p → x.place ≡ p
is_place x p h = cc

owned_found : (f : Owner → Bool) (c : ℕ) (conns : List Conn) (p : Place) → are_owned f conns ≡ true → place_in (conn_of c conns) ≡ Some p → is_owned f p ≡ true
owned_found f c conns p all is = by (conn_of c conns) refl is
  where
    by : (o : Option Conn) → conn_of c conns ≡ o → place_in o ≡ Some p → is_owned f p ≡ true
    by None found h = absurd cc
    by (Some x) found h = ap (is_owned f) (sym (is_place x p h)) ∙ found_passes (λ y. is_owned f y.place) c x conns all found

opened_well : (f : Owner → Bool) (c : ℕ) (p : Pooled) (at : Option Place) → place_at p c ≡ at → are_owned f p.conns ≡ true → are_asked f p.waiting ≡ true → lend_well f (when_opened at c p) ≡ true
opened_well f c p (Some (Opening (Some owner))) is all h = together (f owner) true (owned_found f c p.conns (Opening (Some owner)) all is) refl
opened_well f c p (Some (Opening None)) is all h = unwanted_well f c p (when_unwanted p) h
opened_well f c p _ is all h = refl

answered_well : (f : Owner → Bool) (answer : DriverAnswer) (c : ℕ) (p : Pooled) (at : Option Place) → are_owned f p.conns ≡ true → are_asked f p.waiting ≡ true → lend_well f (answered answer c p at) ≡ true
answered_well f answer c p (Some (Opening wanted)) all h =
    elim (is_done answer) as (λ b. lend_well f (cond b (moves_opened c p) (moves_failed c p)) ≡ true) [
      | true ↦ opened_well f c p (place_at p c) refl all h
      | false ↦ then_well f (Fell c (falls_to (place_at p c) p) ∷ []) p refl
    ]
answered_well f answer c p (Some Closing) all h = then_well f (Gone c ∷ []) p refl
answered_well f answer c p _ all h = refl

control_well : (f : Owner → Bool) (control : Control) (p : Pooled) → lend_well f (controlled control p) ≡ true
control_well f (Tick n) p = outdated_all (lends_well f) (λ c why. refl) (ticked n p)
control_well f (Set MaxOpen n) p = then_well f (closings_of_setting (open_set n p)) (open_set n p) (closings_well f IdleFull (take (length p.idle - (open_set n p).limits.max_idle) p.idle))
control_well f (Set MaxIdle n) p = closings_well f IdleFull (take (length p.idle - (idle_set n p).limits.max_idle) p.idle)
control_well f (Set MaxLife n) p = outdated_all (lends_well f) (λ c why. refl) (lifetime_set n p)
control_well f (Set MaxIdleTime n) p = outdated_all (lends_well f) (λ c why. refl) (idle_time_set n p)

rest_well : (f : Owner → Bool) (ms : List Move) → lend_well f ms ≡ true → lend_well f (drop 1 ms) ≡ true
rest_well f [] h = refl
rest_well f (m ∷ ms) h = let a = both (lends_well f m) (lend_well f ms) h in a.1

left_well : (f : Owner → Bool) (H : List Event) (m : Move) (ms : List Move) → are_asked f (pool H).waiting ≡ true → lend_well f ms ≡ true → lend_well f (left_of H m ms) ≡ true
left_well f H m (due ∷ later) h all = rest_well f (due ∷ later) all
left_well f H (Back c) [] h all = rest_well f (given_back H c) (back_well f c (pool H) (when_given_back (fate H c) c (pool H)) h)
left_well f H (CloseStart c why) [] h all = rest_well f (given_back H c) (back_well f c (pool H) (when_given_back (fate H c) c (pool H)) h)
left_well f H _ [] h all = refl

-- A call that asks.

same_owner_itself : (o : Owner) → same_owner o o ≡ true
same_owner_itself (Call n) = same_itself n
same_owner_itself (Tx n) = same_itself n
same_owner_itself (Pin n) = same_itself n
same_owner_itself House = refl

pub same_owner_is : (o q : Owner) → same_owner o q ≡ true → o ≡ q
same_owner_is (Call n) (Call m) h = ap Call (same_number n m h)
same_owner_is (Tx n) (Tx m) h = ap Tx (same_number n m h)
same_owner_is (Pin n) (Pin m) h = ap Pin (same_number n m h)
same_owner_is House House h = refl
same_owner_is _ _ h = absurd cc

asker_of : (H : List Event) (n : ℕ) → Lawful H → may_ask H n ≡ true → is_asker H (owner_of H n) ≡ true
asker_of H n l may =
    let it = asker H n may in
    let numbered : not (n == 0) ≡ true = ap not (other_number n 0 (unfinished_from_one H n l it.unfinished)) in
    subst (λ k. (not (k == 0) && (asks (work H k) && same_owner (owner_of H n) (owner_of H k))) ≡ true) (sym (owner_number H n))
    (together (not (n == 0)) (asks (work H n) && same_owner (owner_of H n) (owner_of H n)) numbered
    (together (asks (work H n)) (same_owner (owner_of H n) (owner_of H n)) it.own (same_owner_itself (owner_of H n))))

lent_asker : (H : List Event) (c t : ℕ) (o : Owner) (n : ℕ) → Lawful H → is_asked_for H n (Lend c t o n) ≡ true → is_asker H o ≡ true
lent_asker H c t o n l is =
    let a = asked_so H n (Lend c t o n) is in
    by (ask_outcome H n) a.1 (asker_of H n l a.0)
  where
    same_owner_of : (d u k : ℕ) (q : Owner) → Lend d u q k ≡ Lend c t o n → q ≡ o
    same_owner_of d u k q h = cc

    by : (outcome : Result Asked AskFault) → is_first (moves_asked (request H n) outcome) (Lend c t o n) ≡ true → is_asker H (owner_of H n) ≡ true → is_asker H o ≡ true
    by (Ok (asked.Lent d u)) first h = subst (λ q. is_asker H q ≡ true) (same_owner_of d u n (owner_of H n) (move_is (Lend d u (owner_of H n) n) (Lend c t o n) first)) h
    by _ first h = absurd cc

lending_asker : (H : List Event) (c t : ℕ) (o : Owner) (n : ℕ) → Lawful H → Keeps H (Pool (Lend c t o n)) → lend_well (is_asker H) (owed H) ≡ true → is_asker H o ≡ true
lending_asker H c t o n l k owing = by (owed H) refl owing
  where
    by : (ms : List Move) → owed H ≡ ms → lend_well (is_asker H) ms ≡ true → is_asker H o ≡ true
    by [] is h = lent_asker H c t o n l (asks_now H n (Lend c t o n) is k.asking)
    by (due ∷ later) is h =
        let made_it : follows (due ∷ later) (Pool (Lend c t o n)) ≡ true = subst (λ ns. follows ns (Pool (Lend c t o n)) ≡ true) is k.order in
        let a = both (lends_well (is_asker H) due) (lend_well (is_asker H) later) h in
        subst (λ m. lends_well (is_asker H) m ≡ true) (move_is due (Lend c t o n) made_it) a.0

opening_asker : (H : List Event) (c n : ℕ) → Lawful H → Keeps H (Pool (OpenStart c n)) → is_owned (is_asker H) (Opening (wanted_by H n)) ≡ true
opening_asker H c n l k = by (n == 0) refl
  where
    by : (b : Bool) → (n == 0) ≡ b → is_owned (is_asker H) (Opening (cond b None (Some (owner_of H n)))) ≡ true
    by true is = refl
    by false is =
        let some : n ≢ 0 = λ none. absurd (never (n == 0) (ap (λ m. m == 0) none ∙ refl) is) in
        let asked = opening_asked H c n (owed H) k refl (owed_own H) some in
        let a = asked_so H n (OpenStart c n) asked in
        asker_of H n l a.0
      where
        never : (a : Bool) → a ≡ true → a ≡ false → ⊥
        never a h g = cc

-- The events, one by one.

more_asker : (H : List Event) (client m : ℕ) (op : Op) (o : Owner) → is_asker H o ≡ true → is_asker (Entered client m op ∷ H) o ≡ true
more_asker H client m op o h =
    let n = number_of o in
    let a = both (not (n == 0)) (asks (work H n) && same_owner o (owner_of H n)) h in
    let b = both (asks (work H n)) (same_owner o (owner_of H n)) a.1 in
    let same = work_stays H (Entered client m op) n (not_looking (work H n) b.0) in
    together (not (n == 0)) (asks (work (Entered client m op ∷ H) n) && same_owner o (owner_of (Entered client m op ∷ H) n)) a.0
    (subst (λ it. (asks it && same_owner o (owner_as it n)) ≡ true) (sym same) a.1)

owned_more : (f g : Owner → Bool) (p : Place) → ((o : Owner) → f o ≡ true → g o ≡ true) → is_owned f p ≡ true → is_owned g p ≡ true
owned_more f g (Lent t o) more h = more o h
owned_more f g (Opening (Some o)) more h = more o h
owned_more f g (Opening None) more h = refl
owned_more f g _ more h = refl

all_more : (f g : Owner → Bool) (conns : List Conn) → ((o : Owner) → f o ≡ true → g o ≡ true) → are_owned f conns ≡ true → are_owned g conns ≡ true
all_more f g conns more h = all_pass (λ x. is_owned f x.place) (λ x. is_owned g x.place) conns (λ x. owned_more f g x.place more) h

asked_more : (f g : Owner → Bool) (rs : List Request) → ((o : Owner) → f o ≡ true → g o ≡ true) → are_asked f rs ≡ true → are_asked g rs ≡ true
asked_more f g rs more h = all_pass (λ r. f r.owner) (λ r. g r.owner) rs (λ r. more r.owner) h

unwanted_owned : (f : Owner → Bool) (x : Conn) → is_owned f x.place ≡ true → is_owned f (unwanted x).place ≡ true
unwanted_owned f x h = at x.place refl h
  where
    at : (place : Place) → x.place ≡ place → is_owned f place ≡ true → is_owned f (unwanted x).place ≡ true
    at (Lent t o) is k = rw is k
    at _ is k = rw is refl

shut_owned : (f : Owner → Bool) (p : Pooled) → are_owned f p.conns ≡ true → are_owned f (shut p).conns ≡ true
shut_owned f p h = all_map (λ x. is_owned f x.place) unwanted p.conns (unwanted_owned f) h

begun_owned : (f : Owner → Bool) (w : Option Owner) (p : Pooled) → is_owned f (Opening w) ≡ true → are_owned f p.conns ≡ true → are_owned f (begun w p).conns ≡ true
begun_owned f w p own h =
    let last : are_owned f (opening (next_number p) w ∷ []) ≡ true = together (is_owned f (Opening w)) true own refl in
    list_all-append (λ x. is_owned f x.place) p.conns (opening (next_number p) w ∷ []) ∙ together (are_owned f p.conns) (are_owned f (opening (next_number p) w ∷ [])) h last

changed_owned : (f : Owner → Bool) (c : ℕ) (change : Conn → Conn) (conns : List Conn) → ((x : Conn) → is_owned f (change x).place ≡ true) → are_owned f conns ≡ true → are_owned f (conn_changed c change conns) ≡ true
changed_owned f c change conns at h = all_changed (λ x. is_owned f x.place) c change conns (λ x k. at x) h

gone_owned : (f : Owner → Bool) (c : ℕ) (conns : List Conn) → are_owned f conns ≡ true → are_owned f (gone c conns) ≡ true
gone_owned f c conns h = all_filter (λ x. is_owned f x.place) (λ x. not (x.number == c)) conns h

left_asked : (f : Owner → Bool) (n : ℕ) (rs : List Request) → are_asked f rs ≡ true → are_asked f (without_call n rs) ≡ true
left_asked f n rs h = all_filter (λ r. f r.owner) (λ r. not (r.call == n)) rs h

joined_asked : (f : Owner → Bool) (r : Request) (rs : List Request) → f r.owner ≡ true → are_asked f rs ≡ true → are_asked f (rs ++ r ∷ []) ≡ true
joined_asked f r rs own h =
    let last : are_asked f (r ∷ []) ≡ true = together (f r.owner) true own refl in
    list_all-append (λ x. f x.owner) rs (r ∷ []) ∙ together (are_asked f rs) (are_asked f (r ∷ [])) h last

same_control : (f : Owner → Bool) (control : Control) (p : Pooled) → are_owned f p.conns ≡ true → are_asked f p.waiting ≡ true → (are_owned f (with_control control p).conns ≡ true) × (are_asked f (with_control control p).waiting ≡ true)
same_control f (Set MaxOpen n) p h k = (h, k)
same_control f _ p h k = (h, k)

owned_entered : (H : List Event) (client m : ℕ) (op : Op) → Owned H → pool (Entered client m op ∷ H) ≡ pool H → owed (Entered client m op ∷ H) ≡ [] → Owned (Entered client m op ∷ H)
owned_entered H client m op s same none = record {
  conns = subst (λ p. are_owned (is_asker (Entered client m op ∷ H)) p.conns ≡ true) (sym same) (all_more (is_asker H) (is_asker (Entered client m op ∷ H)) (pool H).conns (more_asker H client m op) s.conns);
  waiting = subst (λ p. are_asked (is_asker (Entered client m op ∷ H)) p.waiting ≡ true) (sym same) (asked_more (is_asker H) (is_asker (Entered client m op ∷ H)) (pool H).waiting (more_asker H client m op) s.waiting);
  owing = ap (lend_well (is_asker (Entered client m op ∷ H))) none;
}

owned_moved : (H : List Event) (m : Move) → Lawful H → Keeps H (Pool m) → Owned H → are_owned (is_asker H) (with_move H m (pool H)).conns ≡ true → are_asked (is_asker H) (with_move H m (pool H)).waiting ≡ true → Owned (Pool m ∷ H)
owned_moved H m l k s conns waiting = record { conns = conns; waiting = waiting; owing = left_well (is_asker H) H m (owed H) s.waiting s.owing }

owned_move : (H : List Event) (m : Move) → Lawful H → Keeps H (Pool m) → Owned H → Owned (Pool m ∷ H)
owned_move H (OpenStart c n) l k s = owned_moved H (OpenStart c n) l k s (begun_owned (is_asker H) (wanted_by H n) (pool H) (opening_asker H c n l k) s.conns) s.waiting
owned_move H (Lend c t o n) l k s =
    owned_moved H (Lend c t o n) l k s
    (changed_owned (is_asker H) c (lent t o (pool H).moment) (pool H).conns (λ x. lending_asker H c t o n l k s.owing) s.conns)
    (left_asked (is_asker H) n (pool H).waiting s.waiting)
owned_move H (Back c) l k s = owned_moved H (Back c) l k s (changed_owned (is_asker H) c (back (pool H).moment) (pool H).conns (λ x. refl) s.conns) s.waiting
owned_move H (CloseStart c why) l k s = owned_moved H (CloseStart c why) l k s (changed_owned (is_asker H) c closing (pool H).conns (λ x. refl) s.conns) s.waiting
owned_move H (Gone c) l k s = owned_moved H (Gone c) l k s (gone_owned (is_asker H) c (pool H).conns s.conns) s.waiting
owned_move H (Fell c n) l k s = owned_moved H (Fell c n) l k s (gone_owned (is_asker H) c (pool H).conns s.conns) (left_asked (is_asker H) n (pool H).waiting s.waiting)

owned : (H : List Event) → Lawful H → Owned H
owned [] l = record { conns = refl; waiting = refl; owing = refl }
owned (Entered client n DbClose ∷ H) l =
    let s = owned H l.0 in
    record {
      conns = all_more (is_asker H) (is_asker (Entered client n DbClose ∷ H)) (shut (pool H)).conns (more_asker H client n DbClose) (shut_owned (is_asker H) (pool H) s.conns);
      waiting = refl;
      owing = closings_well (is_asker (Entered client n DbClose ∷ H)) causes.DbClosed (pool H).idle;
    }
owned (Entered client n op ∷ H) l = owned_entered H client n op (owned H l.0) refl refl
owned (Heard e ∷ H) l = let s = owned H l.0 in record { conns = s.conns; waiting = s.waiting; owing = answered_well (is_asker H) e.answer e.conn (pool H) (place H e.conn) s.conns s.waiting }
owned (Pool m ∷ H) l = owned_move H m l.0 (keeps_of H (Pool m) l.1) (owned H l.0)
owned (Waits n ∷ H) l =
    let s = owned H l.0 in
    let keeps = keeps_of H (Waits n) l.1 in
    let a = queued_so H n keeps.asking in
    record { conns = s.conns; waiting = joined_asked (is_asker H) (request H n) (pool H).waiting (asker_of H n l.0 a.0) s.waiting; owing = refl }
owned (Ticked now ∷ H) l =
    let s = owned H l.0 in
    let same = same_control (is_asker H) (Tick now) (pool H) s.conns s.waiting in
    record { conns = same.0; waiting = same.1; owing = control_well (is_asker H) (Tick now) (pool H) }
owned (SetLimit setting n ∷ H) l =
    let s = owned H l.0 in
    let same = same_control (is_asker H) (Set setting n) (pool H) s.conns s.waiting in
    record { conns = same.0; waiting = same.1; owing = control_well (is_asker H) (Set setting n) (pool H) }
owned (Ended ∷ H) l =
    let s = owned H l.0 in record { conns = shut_owned (is_asker H) (pool H) s.conns; waiting = refl; owing = closings_well (is_asker H) causes.DbClosed (pool H).idle }
owned (_ ∷ H) l = let s = owned H l.0 in record { conns = s.conns; waiting = s.waiting; owing = refl }

-- The owner that has a connection.

pub owner_asks : (H : List Event) (c t : ℕ) (o : Owner) → Lawful H → place H c ≡ Some (Lent t o) → is_asker H o ≡ true
owner_asks H c t o l is = let s = owned H l in owned_found (is_asker H) c (pool H).conns (Lent t o) s.conns is

-- What is known of an owner that has a connection.
pub record Borrower (H : List Event) (o : Owner) : Type 0 where
  pub numbered : number_of o ≢ 0
  pub asks : asks (work H (number_of o)) ≡ true
  pub owner : o ≡ owner_of H (number_of o)

pub borrows : (H : List Event) (c t : ℕ) (o : Owner) → Lawful H → place H c ≡ Some (Lent t o) → Borrower H o
borrows H c t o l is =
    let n = number_of o in
    let a = both (not (n == 0)) (asks (work H n) && same_owner o (owner_of H n)) (owner_asks H c t o l is) in
    let b = both (asks (work H n)) (same_owner o (owner_of H n)) a.1 in
    record { numbered = λ none. absurd (zero_not (ap (λ m. not (m == 0)) (sym none) ∙ a.0)); asks = b.0; owner = same_owner_is o (owner_of H n) b.1 }
  where
    zero_not : false ≡ true → ⊥
    zero_not h = cc

pub owner_is_of : (H : List Event) (c t : ℕ) (o : Owner) → Lawful H → place H c ≡ Some (Lent t o) → (is_house o ≡ false) × (o ≡ owner_of H (number_of o))
owner_is_of H c t o l is = let b = borrows H c t o l is in (ap is_house b.owner ∙ owner_not_house H (number_of o), b.owner)

pub lent_asks : (H : List Event) (c t : ℕ) (o : Owner) → Lawful H → place H c ≡ Some (Lent t o) → asks (work H (number_of o)) ≡ true
lent_asks H c t o l is = let b = borrows H c t o l is in b.asks

pub lent_number : (H : List Event) (c t : ℕ) (o : Owner) → Lawful H → place H c ≡ Some (Lent t o) → number_of o ≢ 0
lent_number H c t o l is = let b = borrows H c t o l is in b.numbered

-- The owner's call has no other connection.

first_found : (n c : ℕ) (x y : Conn) (ys : List Conn) → (y.number == c) ≡ true → Some y ≡ Some x → is_home n x.place ≡ true
    → or_none (option_map (λ (z : Conn). z.number) (find (is_home_of n) (y ∷ ys))) ≡ c
first_found n c x y ys same k at =
    let it : y ≡ x = cc in
    let home_it : is_home_of n y ≡ true = ap (is_home_of n) it ∙ at in
    ap (λ (b : Bool). or_none (option_map (λ (z : Conn). z.number) (cond b (Some y) (find (is_home_of n) ys)))) home_it ∙ same_number y.number c same

one_found : (n c : ℕ) (x : Conn) (conns : List Conn) → count_by (is_home_of n) conns ≤ 1 → conn_of c conns ≡ Some x → is_home n x.place ≡ true
    → or_none (option_map (λ (z : Conn). z.number) (find (is_home_of n) conns)) ≡ c
one_found n c x [] few found at = absurd cc
one_found n c x (y ∷ ys) few found at =
    let split : count_by (is_home_of n) (y ∷ ys) ≡ cond {A = ℕ} (is_home_of n y) 1 0 + count_by (is_home_of n) ys = count-cons (is_home_of n) y ys in
    elim (y.number == c) as (λ b. (y.number == c) ≡ b → cond b (Some y) (conn_of c ys) ≡ Some x → or_none (option_map (λ (z : Conn). z.number) (find (is_home_of n) (y ∷ ys))) ≡ c) [
      | true ↦ λ same k. first_found n c x y ys same k at
      | false ↦ λ other k.
          let counted = found_counts (is_home_of n) c ys in
          let one : passing (is_home_of n) (conn_of c ys) ≡ 1 = ap (passing (is_home_of n)) k ∙ ap (λ (b : Bool). cond {A = ℕ} b 1 0) at in
          elim (is_home_of n y) as (λ b. is_home_of n y ≡ b → or_none (option_map (λ (z : Conn). z.number) (cond b (Some y) (find (is_home_of n) ys))) ≡ c) [
            | true ↦ λ is.
                let first : cond {A = ℕ} (is_home_of n y) 1 0 ≡ 1 = ap (λ (b : Bool). cond {A = ℕ} b 1 0) is in
                absurd (omega (arith, counted, one, first, split, few))
            | false ↦ λ is. one_found n c x ys (omega (arith, split, few)) k at
          ] refl
    ] refl found

pub at_home : (H : List Event) (c t : ℕ) (o : Owner) → Lawful H → place H c ≡ Some (Lent t o) → home H (number_of o) ≡ c
at_home H c t o l is = by (conn_of c (pool H).conns) refl is
  where
    few : homes_of (number_of o) (pool H) ≤ 1
    few = let one = one_at_most H (number_of o) l (lent_number H c t o l is) in omega (arith, one)

    by : (q : Option Conn) → conn_of c (pool H).conns ≡ q → place_in q ≡ Some (Lent t o) → home H (number_of o) ≡ c
    by None found h = absurd cc
    by (Some x) found h = one_found (number_of o) c x (pool H).conns few found (ap (is_home (number_of o)) (is_place x (Lent t o) h) ∙ same_itself (number_of o))
