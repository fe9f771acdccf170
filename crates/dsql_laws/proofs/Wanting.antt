-- Proves that a call which wants a connection works on one of its own and sends nothing.
use Rattle.std.proofs.Common.{◌≡◌, ◌≢◌, ℕ, zero, suc, ◌≤◌, ◌==◌, Bool, true, false, not, cond, List, [], ◌∷◌, ◌++◌, Option, Some, None, refl, sym, ap, subst, ◌∙◌, is_some, arith}
use Rattle.std.specs.Prelude.{slice_index_or}
use Rattle.std.specs.Option.{option_map}
use Rattle.dsql_history.specs.course.declared.course.Wish.{Wish}
use Rattle.dsql_history.specs.course.declared.course.Wish.TheVariants as wishes
use Rattle.dsql_history.specs.journal.declared.entry.Owner.{Owner}
use Rattle.dsql_history.specs.journal.Kinds.{number_of}
use Rattle.dsql_history.specs.pool.declared.conn.Conn.{Conn}
use Rattle.dsql_history.specs.pool.declared.conn.Place.{Place}
use Rattle.dsql_history.specs.pool.declared.conn.Place.TheVariants.{Idle, Lent, Opening}
use Rattle.dsql_history.specs.pool.declared.moves.Move.TheVariants.{OpenStart, Lend, Back, CloseStart, Gone, Fell}
use Rattle.dsql_history.specs.pool.Changes.{lent, back, closing}
use Rattle.dsql_history.specs.pool.Places.{conn_of, is_for}
use Rattle.dsql_history.specs.pool.Moved.{begun, joined}
use Rattle.dsql_history.specs.pool.Calls.{wants}
use Rattle.dsql_history.proofs.pool.Frees.{passing}
use Rattle.dsql_history.specs.declared.event.Control.TheVariants.{Tick, Set}
use Rattle.dsql_history.specs.declared.work.Scope.TheVariants.{Db}
use Rattle.dsql_history.specs.declared.work.Work.{Work}
use Rattle.dsql_history.specs.declared.work.Work.TheVariants.{Statement, Begin, Ping as Pings, Look}
use Rattle.dsql_history.specs.declared.event.Event.{Event}
use Rattle.dsql_history.specs.declared.event.Event.TheVariants.{Entered, Pool, Waits, Ticked, SetLimit, Ended}
use Rattle.dsql_history.specs.declared.event.Op.TheVariants.{DbClose}
use Rattle.dsql_history.specs.Readers.Works.{asks, work, works, work_of, borrower, owner_of}
use Rattle.dsql_history.specs.Readers.Pool.{pool, place, request, wanted_by}
use Rattle.dsql_history.specs.Readers.Owed.{owed}
use Rattle.dsql_history.specs.Readers.Calls.{site}
use Rattle.dsql_history.specs.Readers.Unfinished.{is_unfinished}
use Rattle.dsql_history.specs.Rules.Asking.{may_ask}
use Rattle.dsql_history.specs.Rules.Sent.{line_at, line_of}
use Rattle.dsql_history.specs.Rules.Line.{due_in, due_for}
use Rattle.dsql_history.specs.Legal.{Allowed, Lawful}
use Rattle.dsql_laws.proofs.Wanted.{is_opening_for, wanted, wants_counts, shut_wants, begun_wants, same_control, homes_apart, found_counts, none_wanted}
use Rattle.dsql_laws.proofs.Counts.{request-more, left_fewer, changed_fewer, gone_fewer}
use Rattle.dsql_laws.proofs.Tried.{is_lent_out, lent_count}
use Rattle.dsql_laws.proofs.ByCall.{by_call}
use Rattle.dsql_laws.proofs.Owners.{owner_number}
use Rattle.dsql_laws.proofs.Asker.{asker}
use Rattle.dsql_laws.proofs.OwedMoves.{owed_own}
use Rattle.dsql_laws.proofs.AtRest.{keeps_of, asked_so, queued_so}
use Rattle.dsql_laws.proofs.Holdings.{opening_asked, one_at_most}

-- A call whose work asks for a connection of its own keeps that work as others enter.
pub same_work : (ws : List Work) (w : Work) (n : ℕ) → asks (slice_index_or ws n Look) ≡ true → asks (slice_index_or (ws ++ w ∷ []) n Look) ≡ true
same_work [] w n h = absurd cc
same_work (v ∷ ws) w zero h = h
same_work (v ∷ ws) w (suc n) h = same_work ws w n h

pub wanted_opening : (H : List Event) (k n : ℕ) → n ≢ 0 → cond {A = ℕ} (is_for n (Opening (wanted_by H k))) 1 0 ≤ cond {A = ℕ} (k == n) 1 0
wanted_opening H k n some =
    let number = owner_number H k in
    elim (k == 0) as (λ b. cond {A = ℕ} (is_for n (Opening (cond b None (Some (owner_of H k))))) 1 0 ≤ cond {A = ℕ} (k == n) 1 0) [ true ↦ omega arith | false ↦ rw number (omega arith) ]

pub works_alone : (H : List Event) (n : ℕ) → may_ask H n ≡ true → asks (work H n) ≡ true
works_alone H n may = (asker H n may).own

opens_for : (H : List Event) (c k n : ℕ) → Allowed H (Pool (OpenStart c k)) → n ≢ 0 → (1 ≤ wanted n (pool H) → asks (work H n) ≡ true) → 1 ≤ wanted n (begun (wanted_by H k) (pool H)) → asks (work H n) ≡ true
opens_for H c k n a some had now =
    let more = begun_wants n (wanted_by H k) (pool H) in
    let opens = wanted_opening H k n some in
    by_call k n (asks (work H n) ≡ true)
    (λ is.
    let asked = opening_asked H c k (owed H) (keeps_of H (Pool (OpenStart c k)) a) refl (owed_own H) (λ none. some (sym is ∙ none)) in
    let b = asked_so H k (OpenStart c k) asked in
    subst (λ m. asks (work H m) ≡ true) is (works_alone H k b.0))
    (λ not.
    let none : cond {A = ℕ} (k == n) 1 0 ≡ 0 = ap (λ (b : Bool). cond {A = ℕ} b 1 0) not in
    had (omega (arith, more, opens, none, now)))

joins_for : (H : List Event) (k n : ℕ) → may_ask H k ≡ true → (1 ≤ wanted n (pool H) → asks (work H n) ≡ true) → 1 ≤ wanted n (joined (request H k) (pool H)) → asks (work H n) ≡ true
joins_for H k n may had now =
    let more = request-more n (request H k) (pool H).waiting in
    by_call k n (asks (work H n) ≡ true)
    (λ is. subst (λ m. asks (work H m) ≡ true) is (works_alone H k may))
    (λ not.
    let none : cond {A = ℕ} (k == n) 1 0 ≡ 0 = ap (λ (b : Bool). cond {A = ℕ} b 1 0) not in
    had (omega (arith, more, none, now)))

pub wanting_works : (H : List Event) (n : ℕ) → Lawful H → n ≢ 0 → 1 ≤ wanted n (pool H) → asks (work H n) ≡ true
wanting_works [] n l some now = absurd (omega (arith, now))
wanting_works (Entered client m DbClose ∷ H) n l some now =
    let few = shut_wants n (pool H) in
    same_work (works H) (work_of (works H) DbClose) n (wanting_works H n l.0 some (omega (arith, few, now)))
wanting_works (Entered client m op ∷ H) n l some now = same_work (works H) (work_of (works H) op) n (wanting_works H n l.0 some now)
wanting_works (Pool (OpenStart c k) ∷ H) n l some now = opens_for H c k n l.1 some (wanting_works H n l.0 some) now
wanting_works (Pool (Lend c t o k) ∷ H) n l some now =
    let waits = left_fewer n k (pool H).waiting in
    let few = changed_fewer (is_opening_for n) c (lent t o (pool H).moment) (pool H).conns (λ x. refl) in
    wanting_works H n l.0 some (omega (arith, waits, few, now))
wanting_works (Pool (Back c) ∷ H) n l some now =
    let few = changed_fewer (is_opening_for n) c (back (pool H).moment) (pool H).conns (λ x. refl) in
    wanting_works H n l.0 some (omega (arith, few, now))
wanting_works (Pool (CloseStart c why) ∷ H) n l some now =
    let few = changed_fewer (is_opening_for n) c closing (pool H).conns (λ x. refl) in
    wanting_works H n l.0 some (omega (arith, few, now))
wanting_works (Pool (Gone c) ∷ H) n l some now = let few = gone_fewer (is_opening_for n) c (pool H).conns in wanting_works H n l.0 some (omega (arith, few, now))
wanting_works (Pool (Fell c k) ∷ H) n l some now =
    let waits = left_fewer n k (pool H).waiting in
    let few = gone_fewer (is_opening_for n) c (pool H).conns in
    wanting_works H n l.0 some (omega (arith, waits, few, now))
wanting_works (Waits k ∷ H) n l some now =
    let keeps = keeps_of H (Waits k) l.1 in
    let a = queued_so H k keeps.asking in
    joins_for H k n a.0 (wanting_works H n l.0 some) now
wanting_works (Ticked moment ∷ H) n l some now = let same = same_control (Tick moment) n (pool H) in wanting_works H n l.0 some (omega (arith, same, now))
wanting_works (SetLimit s k ∷ H) n l some now = let same = same_control (Set s k) n (pool H) in wanting_works H n l.0 some (omega (arith, same, now))
wanting_works (Ended ∷ H) n l some now = let few = shut_wants n (pool H) in wanting_works H n l.0 some (omega (arith, few, now))
wanting_works (_ ∷ H) n l some now = wanting_works H n l.0 some now

-- A call that wants a connection works on one of its own.
pub wants_its_own : (H : List Event) (n : ℕ) → Lawful H → n ≢ 0 → wants n (pool H) ≡ true → asks (work H n) ≡ true
wants_its_own H n l some h = wanting_works H n l some (wants_counts n (pool H) h)

abbrev place_or : Option Place → Place
place_or None = Idle
place_or (Some it) = it

pub lent_found : (n t : ℕ) (owner : Owner) (o : Option Conn) → (number_of owner == n) ≡ true → option_map (λ x. x.place) o ≡ Some (Lent t owner) → passing (is_lent_out n) o ≡ 1
lent_found n t owner None own is = absurd cc
lent_found n t owner (Some x) own is =
    let at : x.place ≡ Lent t owner = ap place_or is in
    ap (λ (at : Place). cond {A = ℕ} (is_lent_out n (record x { place = at })) 1 0) at ∙ ap (λ (b : Bool). cond {A = ℕ} b 1 0) own

-- If something is sent next in the line of call n, the call whose connection it uses has one.
pub sends_where_lent : (H : List Event) (n : ℕ) (w : Wish) (c : ℕ) (at : Option Place) → place H c ≡ at → is_some (line_at H n w c at) ≡ true → 1 ≤ lent_count (borrower H n) (pool H)
sends_where_lent H n w c (Some (Lent t owner)) is h = by (number_of owner == borrower H n) refl
  where
    by : (b : Bool) → (number_of owner == borrower H n) ≡ b → 1 ≤ lent_count (borrower H n) (pool H)
    by true own =
        let one = lent_found (borrower H n) t owner (conn_of c (pool H).conns) own is in
        let counted = found_counts (is_lent_out (borrower H n)) c (pool H).conns in
        omega (arith, one, counted)
    by false other = let none : is_some (line_at H n w c (Some (Lent t owner))) ≡ false = rw other refl in let clash : true ≡ false = sym h ∙ none in absurd cc
sends_where_lent H n w c _ is h = absurd cc

own_line : (H : List Event) (n : ℕ) → Lawful H → n ≢ 0 → borrower H n ≡ n → is_some (line_of H n wishes.Nothing) ≡ true → wanted n (pool H) ≡ 0
own_line H n l some own h =
    let there : 1 ≤ lent_count (borrower H n) (pool H) = sends_where_lent H n wishes.Nothing (site H n) (place H (site H n)) refl h in
    let lent : 1 ≤ lent_count n (pool H) = subst (λ m. 1 ≤ lent_count m (pool H)) own there in
    let one = one_at_most H n l some in
    let apart = homes_apart n (pool H).conns in
    omega (arith, lent, one, apart)

of_another : (H : List Event) (n : ℕ) → Lawful H → n ≢ 0 → asks (work H n) ≡ false → wants n (pool H) ≡ false
of_another H n l some not = by (wants n (pool H)) refl
  where
    by : (b : Bool) → wants n (pool H) ≡ b → wants n (pool H) ≡ false
    by false is = is
    by true is = let clash : true ≡ false = sym (wants_its_own H n l some is) ∙ not in absurd cc

-- A call on the database that sends in its own line wants no connection.
on_database : (H : List Event) (n : ℕ) → Lawful H → n ≢ 0 → borrower H n ≡ n → is_some (line_of H n wishes.Nothing) ≡ true → wants n (pool H) ≡ false
on_database H n l some own h = none_wanted n (pool H) (own_line H n l some own h)

sends_in : (H : List Event) (n : ℕ) (w : Work) → work H n ≡ w → Lawful H → n ≢ 0 → is_some (due_in H n w) ≡ true → wants n (pool H) ≡ false
sends_in H n (Statement Db task) is l some h = on_database H n l some (rw is refl) h
sends_in H n (Begin label level read_only) is l some h = on_database H n l some (rw is refl) h
sends_in H n Pings is l some h = on_database H n l some (rw is refl) h
sends_in H n Look is l some h = absurd cc
sends_in H n _ is l some h = of_another H n l some (ap asks is)

-- A call that has something to send wants no connection.
pub sends_or_wants : (H : List Event) (n : ℕ) → Lawful H → n ≢ 0 → is_some (due_for H n) ≡ true → wants n (pool H) ≡ false
sends_or_wants H n l some h = by (is_unfinished H n) refl
  where
    by : (b : Bool) → is_unfinished H n ≡ b → wants n (pool H) ≡ false
    by true is =
        let due : is_some (due_in H n (work H n)) ≡ true = subst (λ b. is_some (cond b (due_in H n (work H n)) None) ≡ true) is h in
        sends_in H n (work H n) refl l some due
    by false is = let none : false ≡ true = subst (λ b. is_some (cond b (due_in H n (work H n)) None) ≡ true) is h in absurd cc
