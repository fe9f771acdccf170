-- A lending leaves the other lent connections in use. The call that is lent the connection had none before and
-- has no rows, so the lines of the others stay the same.
use Rattle.std.proofs.Common.{◌≡◌, ◌≢◌, ℕ, ◌==◌, ◌⊎◌, inl, inr, Bool, true, false, ◌&&◌, ◌||◌, cond, List, [], ◌∷◌, Option, Some, None, is_some, nat_le, refl, sym, ap, ◌∙◌}
use Rattle.std.specs.List.{list_all}
use Rattle.dsql_laws_calls.specs.course.declared.course.Wish.{Wish}
use Rattle.dsql_laws_calls.specs.course.declared.course.Wish.TheVariants as wishes
use Rattle.dsql_laws_calls.specs.journal.declared.entry.Owner.{Owner}
use Rattle.dsql_laws_calls.specs.journal.Kinds.{number_of}
use Rattle.dsql_laws_calls.specs.rows.declared.rows.Rows.{Rows}
use Rattle.dsql_laws_calls.specs.rows.OpenRows.{is_live}
use Rattle.dsql_laws_calls.specs.pool.declared.conn.Conn.{Conn}
use Rattle.dsql_laws_calls.specs.pool.declared.conn.Place.{Place}
use Rattle.dsql_laws_calls.specs.pool.declared.conn.Place.TheVariants.{Lent}
use Rattle.dsql_laws_calls.specs.pool.declared.moves.Move.TheVariants.{Lend}
use Rattle.dsql_laws_calls.specs.pool.Changes.{lent, conn_changed}
use Rattle.dsql_laws_calls.specs.pool.Places.{conn_of, is_idle, is_lent, is_opening}
use Rattle.dsql_laws_calls.specs.tx.declared.tx.Tx.{Tx as Trans}
use Rattle.dsql_laws_calls.specs.history.Readers.HandedOut.{over, rows_by, are_live}
use Rattle.dsql_laws_calls.specs.history.Readers.Tries.{with_try, tries}
use Rattle.dsql_laws_calls.specs.history.declared.record.Try.TheVariants.{Served}
use Rattle.dsql_laws_calls.proofs.laws.Wanted.{wanted}
use Rattle.dsql_laws_calls.proofs.laws.Tests.{both, together, other_number, same_itself}
use Rattle.dsql_laws_calls.proofs.Found.{place_in, uses_in, changed_off}
use Rattle.dsql_laws_calls.proofs.laws_work.Rows.{same_or_not}
use Rattle.dsql_laws_calls.specs.history.declared.event.Event.{Event}
use Rattle.dsql_laws_calls.specs.history.declared.work.Scope.TheVariants.{Db, Held}
use Rattle.dsql_laws_calls.specs.history.declared.work.Work.{Work}
use Rattle.dsql_laws_calls.specs.history.declared.work.Task.TheVariants.{HandOut}
use Rattle.dsql_laws_calls.specs.history.declared.work.Work.TheVariants.{Statement}
use Rattle.dsql_laws_calls.specs.history.Readers.Calls.{asks_nothing, rests}
use Rattle.dsql_laws_calls.specs.history.Readers.Course.{caps}
use Rattle.dsql_laws_calls.specs.history.Readers.Pool.{pool, place, home}
use Rattle.dsql_laws_calls.specs.history.Readers.Transactions.{tx_by, end_of, tx_end, is_begun, goes_on}
use Rattle.dsql_laws_calls.specs.history.Readers.Unfinished.{is_unfinished}
use Rattle.dsql_laws_calls.specs.history.Readers.Works.{works, work, hands_out_in, borrower}
use Rattle.dsql_laws_calls.specs.history.Rules.Asking.{may_ask}
use Rattle.dsql_laws_calls.specs.history.Rules.Ending.{first_closing, ending_with, ending}
use Rattle.dsql_laws_calls.specs.history.Rules.Line.{rest_with, rest, is_used}
use Rattle.dsql_laws_calls.specs.history.Rules.Sent.{line_at, line_of}
use Rattle.dsql_laws_calls.specs.history.Rules.Settled.{is_in_use, is_kept, uses_what_is_lent}
use Rattle.dsql_laws_calls.specs.history.Legal.{Lawful}
use Rattle.dsql_laws_calls.proofs.laws.Tried.{lends_to}
use Rattle.dsql_laws_callers.proofs.Homes.{home_owner}
use Rattle.dsql_laws_calls.proofs.HandedRows.{rows_begun}
use Rattle.dsql_laws_calls.proofs.LiveRows.{over_some}
use Rattle.dsql_laws_calls.proofs.Makers.{hands_out, rows_hand_out}
use Rattle.dsql_laws_calls.proofs.Own.{asks_own}
use Rattle.dsql_laws_calls.proofs.Owners.{at_home, lent_asks}
use Rattle.dsql_laws_calls.proofs.RowsNew.{content}
use Rattle.dsql_laws_calls.proofs.Untried.{moves_of}
use Rattle.dsql_laws_calls.proofs.Wanted.{lent_may_not_ask, lent_nothing, lent_wants_none, rows_may_not_ask}
use Rattle.dsql_laws_others.proofs.Alike.{first_alike, closing_alike, ends_alike, used_alike}
use Rattle.dsql_laws_others.proofs.Homes.{HomeStays, HomeUnlent, no_line, no_ending, line_by_home}
use Rattle.dsql_laws_others.proofs.Lends.{lends, lent_there, lent_some, lent_unbegun, kept_lent}

-- A place is lent, or it isn't.

pub record LentAt (at : Option Place) : Type 0 where
  pub tenure : ℕ
  pub owner : Owner
  pub is : at ≡ Some (Lent tenure owner)

pub lent_or_not : (at : Option Place) → LentAt at ⊎ (is_lent at ≡ false)
lent_or_not (Some (Lent t o)) = inl (record { tenure = t; owner = o; is = refl })
lent_or_not _ = inr refl

pub owner_at : (at : Option Place) (t u : ℕ) (o p : Owner) → at ≡ Some (Lent t o) → at ≡ Some (Lent u p) → number_of o ≡ number_of p
owner_at at t u o p a b = let same : Some (Lent t o) ≡ Some (Lent u p) = sym a ∙ b in ap number same
  where
    number : Option Place → ℕ
    number (Some (Lent v x)) = number_of x
    number q = 0

pub not_lent : (at : Option Place) (t : ℕ) (o : Owner) → is_lent at ≡ false → at ≡ Some (Lent t o) → ⊥
not_lent at t o out is = let clash : true ≡ false = sym (ap is_lent is) ∙ out in cc

pub free_before : (H : List Event) (c t : ℕ) (own : Owner) (n u : ℕ) (o : Owner) → Lawful (lends H c t own n) → place H c ≡ Some (Lent u o) → ⊥
free_before H c t own n u o l is = let clash : false ≡ true = ap (λ at. is_idle at || is_opening at) (sym is) ∙ moves_of H c t own n l.1 in cc

conn_beside : (H : List Event) (c t : ℕ) (own : Owner) (n d : ℕ) → d ≢ c → conn_of d (pool (lends H c t own n)).conns ≡ conn_of d (pool H).conns
conn_beside H c t own n d apart = changed_off c d (lent t own (pool H).moment) (pool H).conns (λ x. refl) apart

-- The connection of each other call stays the same, or isn't lent before or after.
pub other_home : (H : List Event) (c t : ℕ) (own : Owner) (n j : ℕ) → Lawful (lends H c t own n) → j ≢ n → HomeStays H (lends H c t own n) j ⊎ HomeUnlent H (lends H c t own n) j
other_home H c t own n j l apart = by (lent_or_not (place H (home H j)))
  where
    K : List Event
    K = lends H c t own n

    stays : LentAt (place H (home H j)) → HomeStays H K j
    stays a =
        let away : home H j ≢ c = λ same. free_before H c t own n a.tenure a.owner l (sym (ap (place H) same) ∙ a.is) in
        let beside = conn_beside H c t own n (home H j) away in
        let number : number_of a.owner ≡ j = home_owner H j (home H j) a.tenure a.owner refl a.is in
        let still : place K (home H j) ≡ Some (Lent a.tenure a.owner) = ap place_in beside ∙ a.is in
        record {
          homes = ap (home K) (sym number) ∙ at_home K (home H j) a.tenure a.owner l still;
          places = ap place_in beside;
          resets = ap (λ o. (caps H).resetter && nat_le 2 (uses_in o)) beside;
        }

    after : is_lent (place H (home H j)) ≡ false → LentAt (place K (home K j)) → ⊥
    after out b = at (same_or_not (home K j) c)
      where
        number : number_of b.owner ≡ j
        number = home_owner K j (home K j) b.tenure b.owner refl b.is

        at : (home K j ≡ c) ⊎ (home K j ≢ c) → ⊥
        at (inl same) = apart (sym number ∙ (owner_at (place K c) b.tenure t b.owner own (sym (ap (place K) same) ∙ b.is) (lent_there H c t own n l) ∙ sym (lends_to H c t own n l.1)))
        at (inr away) =
            let before : place H (home K j) ≡ Some (Lent b.tenure b.owner) = sym (ap place_in (conn_beside H c t own n (home K j) away)) ∙ b.is in
            let there : home H j ≡ home K j = ap (home H) (sym number) ∙ at_home H (home K j) b.tenure b.owner l.0 before in
            not_lent (place H (home H j)) b.tenure b.owner out (ap (place H) there ∙ before)

    unlent : is_lent (place H (home H j)) ≡ false → LentAt (place K (home K j)) ⊎ (is_lent (place K (home K j)) ≡ false) → HomeUnlent H K j
    unlent out (inl b) = absurd (after out b)
    unlent out (inr b) = record { before = out; after = b }

    by : LentAt (place H (home H j)) ⊎ (is_lent (place H (home H j)) ≡ false) → HomeStays H K j ⊎ HomeUnlent H K j
    by (inl a) = inl (stays a)
    by (inr out) = inr (unlent out (lent_or_not (place K (home K j))))

-- The call that is lent the connection had none before, and has no rows.

pub unlent_before : (H : List Event) (c t : ℕ) (own : Owner) (n d u : ℕ) (o : Owner) → Lawful (lends H c t own n) → place H d ≡ Some (Lent u o) → number_of o ≢ n
unlent_before H c t own n d u o l is same =
    lent_nothing H c t own n l.0 l.1 (λ may. lent_may_not_ask H d u o l.0 is (ap (may_ask H) same ∙ may)) (sym (ap (λ k. wanted k (pool H)) same) ∙ lent_wants_none H d u o l.0 is)

no_rows : (H : List Event) (c t : ℕ) (own : Owner) (n : ℕ) → Lawful (lends H c t own n) → is_some (rows_by H n) ≡ true → ⊥
no_rows H c t own n l some = lent_nothing H c t own n l.0 l.1 (rows_may_not_ask H n some) (content H n l.0 (lent_some H c t own n l) some)

pub unlent_home : (H : List Event) (c t : ℕ) (own : Owner) (n : ℕ) → Lawful (lends H c t own n) → is_lent (place H (home H n)) ≡ false
unlent_home H c t own n l = by (lent_or_not (place H (home H n)))
  where
    by : LentAt (place H (home H n)) ⊎ (is_lent (place H (home H n)) ≡ false) → is_lent (place H (home H n)) ≡ false
    by (inr out) = out
    by (inl a) = absurd (unlent_before H c t own n (home H n) a.tenure a.owner l a.is (home_owner H n (home H n) a.tenure a.owner refl a.is))

-- Rows belong to calls that use another connection.
pub rows_elsewhere : (H : List Event) (c t : ℕ) (own : Owner) (n j : ℕ) → Lawful (lends H c t own n) → is_some (rows_by H j) ≡ true → borrower H j ≢ n
rows_elsewhere H c t own n j l some uses = by (work H j) refl (rows_hand_out H j some)
  where
    never : true ≡ false → ⊥
    never x = cc

    by : (it : Work) → work H j ≡ it → hands_out it ≡ true → ⊥
    by (Statement Db (HandOut label)) is h =
        let own_one : borrower H j ≡ j = rw is refl in
        no_rows H c t own n l (ap (λ k. is_some (rows_by H k)) (sym uses ∙ own_one) ∙ some)
    by (Statement (Held k) (HandOut label)) is h =
        let its : borrower H j ≡ k = rw is refl in
        let inside : hands_out_in n (work H j) ≡ true = ap (hands_out_in n) is ∙ (ap (λ i. i == n) (sym its ∙ uses) ∙ same_itself n) in
        never (sym (rows_begun H j n l.0 some inside) ∙ lent_unbegun H c t own n l)
    by it is h = absurd cc

-- The lines of the other calls stay the same.

pub other_line : (H : List Event) (c t : ℕ) (own : Owner) (n j : ℕ) (w : Wish) → Lawful (lends H c t own n) → borrower H j ≢ n → line_of (lends H c t own n) j w ≡ line_of H j w
other_line H c t own n j w l apart = line_by_home H (Lend c t own n) j w (other_home H c t own n (borrower H j) l apart)

first_same : (H : List Event) (c t : ℕ) (own : Owner) (n k : ℕ) → Lawful (lends H c t own n) → first_closing (lends H c t own n) k 0 (works H) ≡ first_closing H k 0 (works H)
first_same H c t own n k l =
    first_alike H (lends H c t own n) k 0 (works H)
    (λ j. closing_alike H (lends H c t own n) j refl (λ over. other_line H c t own n j wishes.Close l (rows_elsewhere H c t own n j l (over_some (rows_by H j) over))))

unbegun_end : (o : Option Trans) → is_some o ≡ false → end_of o ≡ None
unbegun_end None h = refl
unbegun_end (Some x) h = absurd cc

pub ending_same : (H : List Event) (c t : ℕ) (own : Owner) (n k : ℕ) → Lawful (lends H c t own n) → ending (lends H c t own n) k ≡ ending H k
ending_same H c t own n k l = by (same_or_not k n)
  where
    K : List Event
    K = lends H c t own n

    beside : HomeStays H K k ⊎ HomeUnlent H K k → ending K k ≡ ending H k
    beside (inl s) = ends_alike H K k refl s.homes s.places (record { first = first_same H c t own n k l; can = refl; heard = refl })
    beside (inr u) = no_ending K k (home K k) (tx_end H k) refl u.after ∙ sym (no_ending H k (home H k) (tx_end H k) refl u.before)

    by : (k ≡ n) ⊎ (k ≢ n) → ending K k ≡ ending H k
    by (inl same) =
        let none : tx_end H k ≡ None = unbegun_end (tx_by H k) (ap (is_begun H) same ∙ lent_unbegun H c t own n l) in
        ap (ending_with K k) none ∙ sym (ap (ending_with H k) none)
    by (inr apart) = beside (other_home H c t own n k l apart)

pub used_beside : (H : List Event) (c t : ℕ) (own : Owner) (n d u : ℕ) (o : Owner) → Lawful (lends H c t own n) → place H d ≡ Some (Lent u o) → is_used (lends H c t own n) (number_of o) ≡ is_used H (number_of o)
used_beside H c t own n d u o l is =
    let j = number_of o in
    let apart : borrower H j ≢ n = λ same. unlent_before H c t own n d u o l is (sym (asks_own H j (lent_asks H d u o l.0 is)) ∙ same) in
    used_alike H (lends H c t own n) j refl refl (ending_same H c t own n j l) (λ w. other_line H c t own n j w l apart)

-- Each connection in use stays in use.

line_still : (H : List Event) (c t : ℕ) (own : Owner) (n j : ℕ) (w : Wish) → Lawful (lends H c t own n) → is_some (line_of H j w) ≡ true → is_some (line_of (lends H c t own n) j w) ≡ true
line_still H c t own n j w l h = by (same_or_not (borrower H j) n)
  where
    by : (borrower H j ≡ n) ⊎ (borrower H j ≢ n) → is_some (line_of (lends H c t own n) j w) ≡ true
    by (inl same) =
        let none : line_of H j w ≡ None = ap (λ b. line_at H j w (home H b) (place H (home H b))) same ∙ no_line H j w (home H n) (place H (home H n)) (unlent_home H c t own n l) in
        let clash : false ≡ true = sym (ap (λ d. is_some d) none) ∙ h in
        absurd cc
    by (inr apart) = ap (λ d. is_some d) (other_line H c t own n j w l apart) ∙ h

rest_still : (H : List Event) (c t : ℕ) (own : Owner) (n j : ℕ) (o : Option Rows) → Lawful (lends H c t own n) → is_some (rest_with H j o) ≡ true → is_some (rest_with (lends H c t own n) j o) ≡ true
rest_still H c t own n j None l h = line_still H c t own n j wishes.Nothing l h
rest_still H c t own n j (Some r) l h = by (is_live r) h
  where
    by : (b : Bool) → is_some (cond b None (line_of H j wishes.Close)) ≡ true → is_some (cond b None (line_of (lends H c t own n) j wishes.Close)) ≡ true
    by true x = x
    by false x = line_still H c t own n j wishes.Close l x

third : (a b c d : Bool) → (c ≡ true → d ≡ true) → (a || (b || c)) ≡ true → (a || (b || d)) ≡ true
third true b c d so h = refl
third false true c d so h = refl
third false false c d so h = so h

used_still : (H : List Event) (c t : ℕ) (own : Owner) (n j : ℕ) → Lawful (lends H c t own n) → is_used H j ≡ true → is_used (lends H c t own n) j ≡ true
used_still H c t own n j l h = third (goes_on H j) (are_live H j) (is_some (rest H j)) (is_some (rest (lends H c t own n) j)) (by (is_begun H j)) h
  where
    by : (b : Bool) → is_some (cond b (ending H j) (rest_with H j (rows_by H j))) ≡ true → is_some (cond b (ending (lends H c t own n) j) (rest_with (lends H c t own n) j (rows_by H j))) ≡ true
    by true x = ap (λ d. is_some d) (ending_same H c t own n j l) ∙ x
    by false x = rest_still H c t own n j (rows_by H j) l x

pub rests_other : (H : List Event) (c t : ℕ) (own : Owner) (n j : ℕ) → j ≢ n → rests (lends H c t own n) j ≡ rests H j
rests_other H c t own n j apart = ap (λ b. is_unfinished H j && asks_nothing (caps H) (work H j) (with_try b Served (tries H j))) (other_number n j (λ same. apart (sym same)))

pub either_still : (a b c d : Bool) → (a ≡ true → c ≡ true) → (b ≡ true → d ≡ true) → (a || b) ≡ true → (c || d) ≡ true
either_still a b true d f g h = refl
either_still true b false d f g h = let clash : false ≡ true = f refl in absurd cc
either_still false b false d f g h = g h

kept_still : (H : List Event) (c t : ℕ) (own : Owner) (n j : ℕ) → Lawful (lends H c t own n) → is_kept H j ≡ true → is_kept (lends H c t own n) j ≡ true
kept_still H c t own n j l h = by (same_or_not j n)
  where
    by : (j ≡ n) ⊎ (j ≢ n) → is_kept (lends H c t own n) j ≡ true
    by (inl same) = ap (is_kept (lends H c t own n)) same ∙ kept_lent H c t own n l
    by (inr apart) = either_still (is_used H j) (rests H j) (is_used (lends H c t own n) j) (rests (lends H c t own n) j) (used_still H c t own n j l) (λ x. rests_other H c t own n j apart ∙ x) h

all_changed : (q r : Conn → Bool) (c : ℕ) (f : Conn → Conn) (conns : List Conn) → ((x : Conn) → r x ≡ true → q x ≡ true) → ((x : Conn) → q (f x) ≡ true) → list_all r conns ≡ true → list_all q (conn_changed c f conns) ≡ true
all_changed q r c f [] so new h = refl
all_changed q r c f (x ∷ xs) so new h = let a = both (r x) (list_all r xs) h in by (x.number == c) a.0 a.1 (all_changed q r c f xs so new a.1)
  where
    every : (ys : List Conn) → list_all r ys ≡ true → list_all q ys ≡ true
    every [] k = refl
    every (y ∷ ys) k = let a = both (r y) (list_all r ys) k in together (q y) (list_all q ys) (so y a.0) (every ys a.1)

    by : (b : Bool) → r x ≡ true → list_all r xs ≡ true → list_all q (conn_changed c f xs) ≡ true → list_all q (cond b (f x ∷ xs) (x ∷ conn_changed c f xs)) ≡ true
    by true here rest later = together (q (f x)) (list_all q xs) (new x) (every xs rest)
    by false here rest later = together (q x) (list_all q (conn_changed c f xs)) (so x here) later

pub all_used : (H : List Event) (c t : ℕ) (own : Owner) (n : ℕ) → Lawful (lends H c t own n) → uses_what_is_lent H ≡ true → uses_what_is_lent (lends H c t own n) ≡ true
all_used H c t own n l h =
    all_changed (λ conn. is_in_use (lends H c t own n) conn.place) (λ conn. is_in_use H conn.place) c (lent t own (pool H).moment) (pool H).conns (λ x. by x.place)
    (λ x. ap (is_kept (lends H c t own n)) (sym (lends_to H c t own n l.1)) ∙ kept_lent H c t own n l) h
  where
    by : (p : Place) → is_in_use H p ≡ true → is_in_use (lends H c t own n) p ≡ true
    by (Lent u o) x = kept_still H c t own n (number_of o) l x
    by _ x = refl
