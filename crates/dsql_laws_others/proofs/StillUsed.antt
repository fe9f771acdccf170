-- A call that enters and doesn't close the database leaves each lent connection in use. Whatever the entry ends
-- is still to be closed or ended there.
use Rattle.std.proofs.Common.{◌≡◌, ◌≢◌, ℕ, ◌⊎◌, inl, inr, Bool, true, false, not, ◌||◌, cond, List, Option, Some, None, is_some, refl, sym, ap, ◌∙◌}
use Rattle.dsql_laws_calls.specs.course.declared.course.Wish.{Wish}
use Rattle.dsql_laws_calls.specs.course.declared.course.Wish.TheVariants as wishes
use Rattle.dsql_laws_calls.specs.driver.declared.call.DriverCall.{DriverCall}
use Rattle.dsql_laws_calls.specs.journal.declared.entry.Owner.{Owner}
use Rattle.dsql_laws_calls.specs.journal.Kinds.{number_of}
use Rattle.dsql_laws_calls.specs.rows.declared.rows.Rows.{Rows}
use Rattle.dsql_laws_calls.specs.rows.OpenRows.{is_live}
use Rattle.dsql_laws_calls.specs.pool.declared.conn.Conn.{Conn}
use Rattle.dsql_laws_calls.specs.pool.declared.conn.Place.{Place}
use Rattle.dsql_laws_calls.specs.pool.declared.conn.Place.TheVariants.{Lent}
use Rattle.dsql_laws_calls.specs.pool.Places.{conn_of}
use Rattle.dsql_laws_calls.specs.pool.Pooled.{place_at}
use Rattle.dsql_laws_calls.specs.history.Readers.HandedOut.{live, over, rows_by, are_live, are_over}
use Rattle.dsql_laws_calls.proofs.laws.Truths.{or_first, or_second}
use Rattle.dsql_laws_calls.proofs.laws.Tests.{both}
use Rattle.dsql_laws_calls.proofs.Cases.{true_false}
use Rattle.dsql_laws_calls.proofs.Found.{place_in}
use Rattle.dsql_laws_others.proofs.Once.{all_found}
use Rattle.dsql_laws_calls.specs.history.declared.event.Event.{Event}
use Rattle.dsql_laws_calls.specs.history.declared.event.Op.{Op}
use Rattle.dsql_laws_calls.specs.history.Readers.Calls.{rests}
use Rattle.dsql_laws_calls.specs.history.Readers.Journals.{heard_in}
use Rattle.dsql_laws_calls.specs.history.Readers.Pool.{pool, place}
use Rattle.dsql_laws_calls.specs.history.Readers.Transactions.{tx_by, end_of, is_begun, is_over, goes_on}
use Rattle.dsql_laws_calls.specs.history.Readers.Works.{work}
use Rattle.dsql_laws_calls.specs.history.Rules.Ending.{ending}
use Rattle.dsql_laws_calls.specs.history.Rules.Line.{rest_with, rest, is_used}
use Rattle.dsql_laws_calls.specs.history.Rules.Sent.{line_of}
use Rattle.dsql_laws_calls.specs.history.Rules.Settled.{is_in_use, is_kept, uses_what_is_lent}
use Rattle.dsql_laws_calls.specs.history.Legal.{Lawful}
use Rattle.dsql_laws_calls.proofs.Begun.{begun_begins, over_begun}
use Rattle.dsql_laws_calls.proofs.Coming.{sound}
use Rattle.dsql_laws_calls.proofs.LiveRows.{live_some}
use Rattle.dsql_laws_calls.proofs.Makers.{rows_begin_nothing}
use Rattle.dsql_laws_calls.proofs.Plain.{begins}
use Rattle.dsql_laws_calls.proofs.Sound.{Sound}
use Rattle.dsql_laws_calls.proofs.TxEnders.{same_going}
use Rattle.dsql_laws_calls.proofs.UnderWay.{Facts, ending_over}
use Rattle.dsql_laws_calls.proofs.Why.{ended_there, tx_used}
use Rattle.dsql_laws_others.proofs.Entries.{other_line, rests_entered}
use Rattle.dsql_laws_others.proofs.Entered.{Enters, enters, ending_same}
use Rattle.dsql_laws_others.proofs.Leaves.{lent_used}
use Rattle.dsql_laws_others.proofs.OnceLeft.{once}
use Rattle.dsql_laws_others.proofs.Rested.{not_new}
use Rattle.dsql_laws_others.proofs.Turned.{Turns, rows_turn, tx_turn}

-- A connection that is lent before and after the entry.
pub record LentStill (H : List Event) (client n : ℕ) (op : Op) : Type 0 where
  pub entry : Enters H client n op
  pub conn : ℕ
  pub tenure : ℕ
  pub owner : Owner
  pub lent : place H conn ≡ Some (Lent tenure owner)
  -- Live rows that the entry ends are still to be closed.
  pub closes : are_live H (number_of owner) ≡ true → are_over (enters H client n op) (number_of owner) ≡ true → is_some (line_of H (number_of owner) wishes.Close) ≡ true

pub not_over : (H : List Event) (k : ℕ) → goes_on H k ≡ true → is_over H k ≡ false
not_over H k h = let b = both (is_begun H k) (not (is_over H k)) h in off (is_over H k) b.1
  where
    off : (b : Bool) → not b ≡ true → b ≡ false
    off true x = absurd cc
    off false x = refl

-- A transaction that goes on uses the connection, and if the entry ends the transaction, the end is still to be
-- sent.
going_on : (H : List Event) (client n : ℕ) (op : Op) (x : LentStill H client n op) → goes_on H (number_of x.owner) ≡ true → is_used (enters H client n op) (number_of x.owner) ≡ true
going_on H client n op x goes = by (tx_turn H client n op (number_of x.owner))
  where
    K : List Event
    K = enters H client n op

    j : ℕ
    j = number_of x.owner

    by : (tx_by (enters H client n op) (number_of x.owner) ≡ tx_by H (number_of x.owner)) ⊎ ((goes_on H (number_of x.owner) ≡ true) × (is_over (enters H client n op) (number_of x.owner) ≡ true)) → is_used (enters H client n op) (number_of x.owner) ≡ true
    by (inl same) = or_first (goes_on K j) (are_live K j || is_some (rest K j)) (same_going (tx_by H j) (tx_by K j) same ∙ goes)
    by (inr w) =
        let e = x.entry in
        let l = e.lawful in
        let at : place K x.conn ≡ Some (Lent x.tenure x.owner) = ap (λ p. place_at p x.conn) e.pool ∙ x.lent in
        tx_used K x.conn x.tenure x.owner l at (record { begun = over_begun K j w.1; left = inl (ends x.conn x.tenure x.owner x.lent (not_over H j goes)) })
      where
        l0 : Lawful H
        l0 = let e = x.entry in let l = e.lawful in l.0

        s : Sound H
        s = sound H l0

        f : Facts H
        f = s.facts

        ends : (c t : ℕ) (own : Owner) → place H c ≡ Some (Lent t own) → is_over H (number_of own) ≡ false → ended_there (heard_in H c t) ≡ false
        ends = f.ends

-- What is still to be sent is the same before and after the entry.

old : (H : List Event) (client n : ℕ) (op : Op) (x : LentStill H client n op) → number_of x.owner ≢ n
old H client n op x = let e = x.entry in not_new H client n op x.conn x.tenure x.owner e.lawful x.lent

same_line : (H : List Event) (client n : ℕ) (op : Op) (x : LentStill H client n op) (w : Wish) → line_of (enters H client n op) (number_of x.owner) w ≡ line_of H (number_of x.owner) w
same_line H client n op x w = let e = x.entry in other_line H client n op (number_of x.owner) w e.lawful (old H client n op x) e.pool

rest_same : (H : List Event) (client n : ℕ) (op : Op) (x : LentStill H client n op) (o : Option Rows) → rest_with (enters H client n op) (number_of x.owner) o ≡ rest_with H (number_of x.owner) o
rest_same H client n op x None = same_line H client n op x wishes.Nothing
rest_same H client n op x (Some r) = ap (λ d. cond (is_live r) None d) (same_line H client n op x wishes.Close)

-- The use of the connection stays the same if the transaction is as it was.
used_same : (H : List Event) (client n : ℕ) (op : Op) (x : LentStill H client n op) → tx_by (enters H client n op) (number_of x.owner) ≡ tx_by H (number_of x.owner) → is_used (enters H client n op) (number_of x.owner) ≡ is_used H (number_of x.owner)
used_same H client n op x txs = by (rows_turn H client n op (number_of x.owner))
  where
    K : List Event
    K = enters H client n op

    j : ℕ
    j = number_of x.owner

    ends : ending (enters H client n op) (number_of x.owner) ≡ ending H (number_of x.owner)
    ends = at (is_over H (number_of x.owner)) refl
      where
        at : (b : Bool) → is_over H (number_of x.owner) ≡ b → ending (enters H client n op) (number_of x.owner) ≡ ending H (number_of x.owner)
        at true gone = ending_same H client n op (number_of x.owner) x.entry gone
        at false on = none (ending K j) (λ some. true_false (is_over H j) (ap (λ o. is_some (end_of o)) (sym txs) ∙ ending_over K j some) on) ∙ sym (none (ending H j) (λ some. true_false (is_over H j) (ending_over H j some) on))
          where
            none : (d : Option DriverCall) → (is_some d ≡ true → ⊥) → d ≡ None
            none None h = refl
            none (Some q) h = absurd (h refl)

    parts : List Event → Option Rows → Bool
    parts G o = live o || is_some (cond (is_begun G (number_of x.owner)) (ending G (number_of x.owner)) (rest_with G (number_of x.owner) o))

    -- The rows are the same.
    whole : (o : Option Rows) → parts (enters H client n op) o ≡ parts H o
    whole o =
        ap (λ t. live o || is_some (cond (is_some t) (ending K j) (rest_with K j o))) txs
        ∙ (ap (λ d. live o || is_some (cond (is_begun H j) d (rest_with K j o))) ends ∙ ap (λ d. live o || is_some (cond (is_begun H j) (ending H j) d)) (rest_same H client n op x o))

    shut : are_live H (number_of x.owner) ≡ true → are_over (enters H client n op) (number_of x.owner) ≡ true → is_used (enters H client n op) (number_of x.owner) ≡ true
    shut lives gone = or_second (goes_on K j) (are_live K j || is_some (rest K j)) (or_second (are_live K j) (is_some (rest K j)) (sent (is_begun K j) refl))
      where
        closing : (o : Option Rows) → over o ≡ true → is_some (rest_with K j o) ≡ true
        closing None h = absurd cc
        closing (Some r) h = dead (is_live r) h
          where
            dead : (b : Bool) → not b ≡ true → is_some (cond b None (line_of K j wishes.Close)) ≡ true
            dead true k = absurd cc
            dead false k = ap (λ d. is_some d) (same_line H client n op x wishes.Close) ∙ x.closes lives gone

        sent : (b : Bool) → is_begun K j ≡ b → is_some (cond b (ending K j) (rest_with K j (rows_by K j))) ≡ true
        sent false is = closing (rows_by K j) gone
        sent true is = absurd (begins_none (ap (λ t. is_some t) (sym txs) ∙ is))
          where
            begins_none : is_begun H j ≡ true → ⊥
            begins_none begun =
                let e = x.entry in
                let l = e.lawful in
                let none = rows_begin_nothing H j (live_some (rows_by H j) lives) in
                true_false (begins (work H j)) (begun_begins H j l.0 begun) none

    by : Turns (rows_by H (number_of x.owner)) (rows_by (enters H client n op) (number_of x.owner)) → is_used (enters H client n op) (number_of x.owner) ≡ is_used H (number_of x.owner)
    by (inl same) =
        ap (λ b. b || parts K (rows_by K j)) (same_going (tx_by H j) (tx_by K j) txs) ∙ (ap (λ o. goes_on H j || parts K o) same ∙ ap (λ b. goes_on H j || b) (whole (rows_by H j)))
    by (inr w) = shut w.0 w.1 ∙ sym (or_second (goes_on H j) (are_live H j || is_some (rest H j)) (or_first (are_live H j) (is_some (rest H j)) w.0))

used_on : (H : List Event) (client n : ℕ) (op : Op) (x : LentStill H client n op) → is_used (enters H client n op) (number_of x.owner) ≡ is_used H (number_of x.owner)
used_on H client n op x = by (tx_turn H client n op (number_of x.owner))
  where
    by : (tx_by (enters H client n op) (number_of x.owner) ≡ tx_by H (number_of x.owner)) ⊎ ((goes_on H (number_of x.owner) ≡ true) × (is_over (enters H client n op) (number_of x.owner) ≡ true)) → is_used (enters H client n op) (number_of x.owner) ≡ is_used H (number_of x.owner)
    by (inl same) = used_same H client n op x same
    by (inr w) = going_on H client n op x w.0 ∙ sym (or_first (goes_on H (number_of x.owner)) (are_live H (number_of x.owner) || is_some (rest H (number_of x.owner))) w.0)

kept_on : (H : List Event) (client n : ℕ) (op : Op) (x : LentStill H client n op) → is_kept (enters H client n op) (number_of x.owner) ≡ is_kept H (number_of x.owner)
kept_on H client n op x =
    let e = x.entry in
    ap (λ b. b || rests (enters H client n op) (number_of x.owner)) (used_on H client n op x)
    ∙ ap (λ b. is_used H (number_of x.owner) || b) (rests_entered H client n op (number_of x.owner) e.lawful (old H client n op x))

-- So all that is lent is in use as before.

abbrev pub ClosesLate : List Event → ℕ → ℕ → Op → Type 0
ClosesLate H client n op = (c t : ℕ) (own : Owner) → place H c ≡ Some (Lent t own) → are_live H (number_of own) ≡ true → are_over (enters H client n op) (number_of own) ≡ true → is_some (line_of H (number_of own) wishes.Close) ≡ true

pub all_kept : (G : List Event) → ((d u : ℕ) (o : Owner) → place G d ≡ Some (Lent u o) → is_kept G (number_of o) ≡ true) → uses_what_is_lent G ≡ true
all_kept G each = all_found (λ conn. is_in_use G conn.place) (pool G).conns (once G) here
  where
    here : (y : Conn) → conn_of y.number (pool G).conns ≡ Some y → is_in_use G y.place ≡ true
    here y found = by y.place refl
      where
        by : (p : Place) → y.place ≡ p → is_in_use G p ≡ true
        by (Lent u o) is = each y.number u o (ap place_in found ∙ ap Some is)
        by _ is = refl

either_way : (a b : Bool) → (a ≡ true → b ≡ true) → (b ≡ true → a ≡ true) → b ≡ a
either_way true b so back = so refl
either_way false true so back = sym (back refl)
either_way false false so back = refl

pub all_used_on : (H : List Event) (client n : ℕ) (op : Op) → Enters H client n op → ClosesLate H client n op → uses_what_is_lent (enters H client n op) ≡ uses_what_is_lent H
all_used_on H client n op e closes = either_way (uses_what_is_lent H) (uses_what_is_lent K)
    (λ h. all_kept K (λ d u o at. let was = before d u o at in kept_on H client n op (still d u o was) ∙ lent_used H d u o h was))
    (λ h. all_kept H (λ d u o at. sym (kept_on H client n op (still d u o at)) ∙ lent_used K d u o h (ap (λ p. place_at p d) e.pool ∙ at)))
  where
    K : List Event
    K = enters H client n op

    before : (d u : ℕ) (o : Owner) → place (enters H client n op) d ≡ Some (Lent u o) → place H d ≡ Some (Lent u o)
    before d u o at = sym (ap (λ p. place_at p d) e.pool) ∙ at

    still : (d u : ℕ) (o : Owner) → place H d ≡ Some (Lent u o) → LentStill H client n op
    still d u o at = record { entry = e; conn = d; tenure = u; owner = o; lent = at; closes = closes d u o at }
