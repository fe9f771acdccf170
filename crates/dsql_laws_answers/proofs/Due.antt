-- What is due for a call is due on a lent connection. It was due before each move that leaves the connection
-- lent.
use Rattle.std.proofs.Common.{◌≡◌, ◌≢◌, ℕ, ◌==◌, inl, inr, Bool, true, false, not, ◌&&◌, ◌||◌, cond, List, ◌∷◌, Option, Some, None, is_some, is_none, nat_le, refl, sym, ap, subst, ◌∙◌, arith}
use Rattle.dsql_laws_calls.specs.course.declared.course.Wish.{Wish}
use Rattle.dsql_laws_calls.specs.course.declared.course.Wish.TheVariants as wishes
use Rattle.dsql_laws_calls.specs.journal.declared.entry.Owner.{Owner}
use Rattle.dsql_laws_calls.specs.journal.Kinds.{number_of}
use Rattle.dsql_laws_calls.specs.pool.declared.conn.Place.{Place}
use Rattle.dsql_laws_calls.specs.pool.declared.conn.Place.TheVariants.{Idle, Lent, Closing}
use Rattle.dsql_laws_calls.specs.pool.declared.moves.Move.{Move}
use Rattle.dsql_laws_calls.specs.pool.declared.moves.Move.TheVariants.{OpenStart, Lend, Back, CloseStart, Gone, Fell}
use Rattle.dsql_laws_calls.specs.pool.Changes.{lent, back, closing}
use Rattle.dsql_laws_calls.specs.pool.Places.{conn_of, is_idle, is_opening, is_closing}
use Rattle.dsql_laws_calls.specs.history.Rules.Wishes.{wish_as}
use Rattle.dsql_laws_calls.proofs.laws.Tests.{other_number, same_number}
use Rattle.dsql_laws_calls.proofs.Found.{uses_in, changed_place, changed_off, gone_off, begun_off}
use Rattle.dsql_laws_calls.specs.history.declared.event.Event.{Event}
use Rattle.dsql_laws_calls.specs.history.declared.event.Event.TheVariants.{Pool}
use Rattle.dsql_laws_calls.specs.history.declared.work.Scope.{Scope}
use Rattle.dsql_laws_calls.specs.history.declared.work.Scope.TheVariants.{Db, Held}
use Rattle.dsql_laws_calls.specs.history.declared.work.Work.{Work}
use Rattle.dsql_laws_calls.specs.history.declared.work.Work.TheVariants.{Statement, Begin, End, Ping, Fetch, Close, Look}
use Rattle.dsql_laws_calls.specs.history.Readers.Calls.{site, decided, has_begun_to_send}
use Rattle.dsql_laws_calls.specs.history.Readers.Course.{caps}
use Rattle.dsql_laws_calls.specs.history.Readers.HandedOut.{is_late, are_live, ender}
use Rattle.dsql_laws_calls.specs.history.Readers.Journals.{journal}
use Rattle.dsql_laws_calls.specs.history.Readers.Lines.{has_sent}
use Rattle.dsql_laws_calls.specs.history.Readers.Pool.{pool, place, home, wanted_by}
use Rattle.dsql_laws_calls.specs.history.Readers.Transactions.{goes_on, tx_ender}
use Rattle.dsql_laws_calls.specs.history.Readers.Unfinished.{is_unfinished}
use Rattle.dsql_laws_calls.specs.history.Readers.Works.{works, work, scope, is_fetch, borrower}
use Rattle.dsql_laws_calls.specs.history.Rules.Ending.{ending}
use Rattle.dsql_laws_calls.specs.history.Rules.Line.{due_inside, due_in, due_for, sends_in}
use Rattle.dsql_laws_calls.specs.history.Rules.Sent.{line_of, wish, sent_for, close_due}
use Rattle.dsql_laws_calls.specs.history.Legal.{Lawful}
use Rattle.dsql_laws_calls.specs.Chores.{is_lent_for}
use Rattle.dsql_laws_calls.proofs.Born.{open_is_old}
use Rattle.dsql_laws_calls.proofs.DueLent.{due_lent_for}
use Rattle.dsql_laws_calls.proofs.DueWay.{borrow_same}
use Rattle.dsql_laws_calls.proofs.Enders.{same_ender}
use Rattle.dsql_laws_calls.proofs.Inside.{inside_uses}
use Rattle.dsql_laws_calls.proofs.Lent.{elsewhere, move_facts}
use Rattle.dsql_laws_calls.proofs.Makers.{hands_out, rows_hand_out, sent_made}
use Rattle.dsql_laws_calls.proofs.Owners.{at_home}
use Rattle.dsql_laws_calls.proofs.Why.{scoped}
use Rattle.dsql_laws_others.proofs.Alike.{closing_alike, ends_alike, same_tx_ender}
use Rattle.dsql_laws_others.proofs.Entered.{first_same}
use Rattle.dsql_laws_others.proofs.Homes.{HomeStays, line_by_home}

-- The connection that a call uses, lent to the call's borrower.
pub record DueThere (H : List Event) (m : ℕ) : Type 0 where
  pub tenure : ℕ
  pub owner : Owner
  pub lent : place H (site H m) ≡ Some (Lent tenure owner)
  pub whose : number_of owner ≡ borrower H m

pub due_there : (H : List Event) (m : ℕ) → m ≢ 0 → is_some (due_for H m) ≡ true → DueThere H m
due_there H m some h = by (place H (site H m)) refl (due_lent_for H m some h)
  where
    by : (at : Option Place) → place H (site H m) ≡ at → is_lent_for (borrower H m) at ≡ true → DueThere H m
    by (Some (Lent t o)) is x = record { tenure = t; owner = o; lent = is; whose = same_number (number_of o) (borrower H m) x }
    by _ is x = absurd cc

-- A connection that is lent before and after a move stays as it is.

idle_not : (p q : Option Place) (t : ℕ) (o : Owner) (r : Place) → p ≡ Some (Lent t o) → q ≡ Some r → p ≡ q → (r ≡ Lent t o → ⊥) → ⊥
idle_not p q t o r a b same other = other (sym (inner (sym a ∙ (same ∙ b))))
  where
    inner : Some (Lent t o) ≡ Some r → Lent t o ≡ r
    inner x = cc

some_lent : (at : Option Place) (t : ℕ) (o : Owner) → at ≡ Some (Lent t o) → is_some at ≡ true
some_lent at t o is = ap (λ p. is_some p) is

conn_stays : (H : List Event) (move : Move) (c t : ℕ) (own : Owner) → Lawful (Pool move ∷ H) → place H c ≡ Some (Lent t own) → place (Pool move ∷ H) c ≡ Some (Lent t own) → conn_of c (pool (Pool move ∷ H)).conns ≡ conn_of c (pool H).conns
conn_stays H (OpenStart d k) c t own l before after = begun_off c (wanted_by H k) (pool H) (open_is_old H c (Lent t own) l.0 before)
conn_stays H (Lend d u o k) c t own l before after =
    let f = move_facts H (Lend d u o k) l.1 in
    changed_off d c (lent u o (pool H).moment) (pool H).conns (λ x. refl) (elsewhere H d c t own (λ at. is_idle at || is_opening at) before refl f.moves)
conn_stays H (Back d) c t own l before after =
    changed_off d c (back (pool H).moment) (pool H).conns (λ x. refl)
    (λ same. idle_not (place (Pool (Back d) ∷ H) c) (place (Pool (Back d) ∷ H) d) t own Idle after
    (changed_place d (back (pool H).moment) Idle (pool H).conns (λ x. refl) (λ x. refl) (some_lent (place H d) t own (ap (place H) (sym same) ∙ before))) (ap (place (Pool (Back d) ∷ H)) same) (λ x. cc))
conn_stays H (CloseStart d why) c t own l before after =
    changed_off d c closing (pool H).conns (λ x. refl)
    (λ same. idle_not (place (Pool (CloseStart d why) ∷ H) c) (place (Pool (CloseStart d why) ∷ H) d) t own Closing after
    (changed_place d closing Closing (pool H).conns (λ x. refl) (λ x. refl) (some_lent (place H d) t own (ap (place H) (sym same) ∙ before))) (ap (place (Pool (CloseStart d why) ∷ H)) same) (λ x. cc))
conn_stays H (Gone d) c t own l before after = let f = move_facts H (Gone d) l.1 in gone_off d c (pool H).conns (elsewhere H d c t own is_closing before refl f.moves)
conn_stays H (Fell d k) c t own l before after = let f = move_facts H (Fell d k) l.1 in gone_off d c (pool H).conns (elsewhere H d c t own is_opening before refl f.moves)

-- So what is due there after a move was due before it.

record LentStill (H : List Event) (move : Move) (c t : ℕ) (own : Owner) : Type 0 where
  lawful : Lawful (Pool move ∷ H)
  before : place H c ≡ Some (Lent t own)
  after : place (Pool move ∷ H) c ≡ Some (Lent t own)

home_stays : (H : List Event) (move : Move) (c t : ℕ) (own : Owner) → LentStill H move c t own → HomeStays H (Pool move ∷ H) (number_of own)
home_stays H move c t own s =
    let l = s.lawful in
    let here : home H (number_of own) ≡ c = at_home H c t own l.0 s.before in
    let same = conn_stays H move c t own l s.before s.after in
    record {
      homes = at_home (Pool move ∷ H) c t own l s.after ∙ sym here;
      places = ap (place (Pool move ∷ H)) here ∙ (s.after ∙ (sym s.before ∙ ap (place H) (sym here)));
      resets = ap (λ d. (caps H).resetter && nat_le 2 (uses_in (conn_of d (pool (Pool move ∷ H)).conns))) here ∙ (ap (λ o. (caps H).resetter && nat_le 2 (uses_in o)) same ∙ ap (λ d. (caps H).resetter && nat_le 2 (uses_in (conn_of d (pool H).conns))) (sym here));
    }

line_still : (H : List Event) (move : Move) (c t : ℕ) (own : Owner) (j : ℕ) (w : Wish) → LentStill H move c t own → borrower H j ≡ number_of own → line_of (Pool move ∷ H) j w ≡ line_of H j w
line_still H move c t own j w s uses = line_by_home H move j w (inl (subst (λ b. HomeStays H (Pool move ∷ H) b) (sym uses) (home_stays H move c t own s)))

ending_still : (H : List Event) (move : Move) (c t : ℕ) (own : Owner) → LentStill H move c t own → ending (Pool move ∷ H) (number_of own) ≡ ending H (number_of own)
ending_still H move c t own s =
    let K = Pool move ∷ H in
    let k = number_of own in
    let home_k = home_stays H move c t own s in
    ends_alike H K k refl home_k.homes home_k.places
    (record {
      first = first_same H K k 0 (works H) (λ i hands. subst (λ j. close_due K j ≡ close_due H j) (omega arith) (closing_alike H K i refl (λ over. line_still H move c t own i wishes.Close s (inside_uses H i k (scoped (work H i) k hands)))));
      can = refl;
      heard = refl;
    })

sent_still : (H : List Event) (move : Move) (c t : ℕ) (own : Owner) (k : ℕ) (w : Wish) → LentStill H move c t own → borrower H k ≡ number_of own → sent_for (Pool move ∷ H) k w ≡ sent_for H k w
sent_still H move c t own k wishes.Nothing s uses = refl
sent_still H move c t own k wishes.Fetch s uses = line_still H move c t own k wishes.Fetch s uses
sent_still H move c t own k wishes.Close s uses = line_still H move c t own k wishes.Close s uses

pub due_before : (H : List Event) (move : Move) (c t : ℕ) (own : Owner) (m : ℕ) → Lawful (Pool move ∷ H) → place H c ≡ Some (Lent t own) → place (Pool move ∷ H) c ≡ Some (Lent t own) → m ≢ 0 → borrower H m ≡ number_of own
    → is_some (due_for (Pool move ∷ H) m) ≡ true → is_some (due_for H m) ≡ true
due_before H move c t own m l before after some uses h = started (is_unfinished H m) h
  where
    K : List Event
    K = Pool move ∷ H

    s : LentStill H move c t own
    s = record { lawful = l; before = before; after = after }

    begun : has_begun_to_send K m ≡ has_begun_to_send H m
    begun =
        let home_k = home_stays H move c t own s in
        ap (λ d. has_sent m (journal H d)) (ap (home K) uses ∙ (home_k.homes ∙ ap (home H) (sym uses)))

    line : line_of K m wishes.Nothing ≡ line_of H m wishes.Nothing
    line = line_still H move c t own m wishes.Nothing s uses

    inside : (v : Scope) → due_inside K m v ≡ due_inside H m v
    inside Db = line
    inside (Held k) = ap (λ b. cond (b || (goes_on H k && is_none (decided H m))) (line_of K m wishes.Nothing) None) begun ∙ ap (λ d. cond (sends_in H m k) d None) line

    wished : (k : ℕ) → wish K m k ≡ wish H m k
    wished k =
        let fetches = is_fetch (work H m) && (are_live H k && is_none (decided H m)) in
        ap (λ e. wish_as ((e == m) && (not (is_late H (scope (work H k))) || has_begun_to_send K m)) fetches) (same_ender H (Pool move) k refl)
        ∙ ap (λ b. wish_as ((ender H k == m) && (not (is_late H (scope (work H k))) || b)) fetches) begun

    over : (k : ℕ) → (hands_out (work H k) ≡ true → borrower H m ≡ borrower H k) → is_some (sent_for K k (wish K m k)) ≡ true → is_some (sent_for H k (wish H m k)) ≡ true
    over k same x =
        let its : borrower H k ≡ number_of own = sym (same (rows_hand_out H k (sent_made K m k (other_number m 0 some) x))) ∙ uses in
        ap (λ d. is_some d) (sym (ap (sent_for K k) (wished k) ∙ sent_still H move c t own k (wish H m k) s its)) ∙ x

    by : (w : Work) → work H m ≡ w → is_some (due_in K m w) ≡ true → is_some (due_in H m w) ≡ true
    by (Fetch k) is x = over k (borrow_same H m k (inl is)) x
    by (Close k) is x = over k (borrow_same H m k (inr is)) x
    by (End k) is x =
        let its : k ≡ number_of own = sym (ends_uses is) ∙ uses in
        let same : ending K k ≡ ending H k = ap (ending K) its ∙ (ending_still H move c t own s ∙ ap (ending H) (sym its)) in
        ap (λ d. is_some d) (sym (ap (λ e. cond (e == m) (ending K k) None) (same_tx_ender H (Pool move) k refl) ∙ ap (λ d. cond (tx_ender H k == m) d None) same)) ∙ x
      where
        ends_uses : work H m ≡ End k → borrower H m ≡ k
        ends_uses it = rw it refl
    by Look is x = absurd cc
    by (Statement v task) is x = ap (λ d. is_some d) (sym (inside v)) ∙ x
    by (Begin label level read_only) is x = ap (λ d. is_some d) (sym line) ∙ x
    by Ping is x = ap (λ d. is_some d) (sym line) ∙ x

    started : (b : Bool) → is_some (cond b (due_in K m (work H m)) None) ≡ true → is_some (cond b (due_in H m (work H m)) None) ≡ true
    started true x = by (work H m) refl x
    started false x = absurd cc
