-- Proves who sent what is answered in a tenure: a call that uses the connection which is lent to the owner of
-- that tenure.
use Rattle.std.proofs.Common.{◌≡◌, ◌≢◌, ℕ, ◌+◌, ◌<◌, ◌==◌, Bool, true, false, not, ◌&&◌, ◌||◌, cond, List, [], ◌∷◌, length, Option, Some, None, refl, sym, ap, subst, ◌∙◌, ◌⊎◌, inl, inr, arith}
use Rattle.std.proofs.lemmas.Bool.{or_cases}
use Rattle.std.specs.Option.{option_map}
use Rattle.dsql_laws_calls.specs.driver.declared.call.DriverCall.{DriverCall}
use Rattle.dsql_laws_calls.specs.journal.declared.entry.Entry.{Entry}
use Rattle.dsql_laws_calls.specs.journal.declared.entry.Owner.{Owner}
use Rattle.dsql_laws_calls.specs.journal.Kinds.{number_of}
use Rattle.dsql_laws_calls.specs.pool.declared.conn.Conn.{Conn}
use Rattle.dsql_laws_calls.specs.pool.declared.conn.Place.{Place}
use Rattle.dsql_laws_calls.specs.pool.declared.conn.Place.TheVariants.{Lent}
use Rattle.dsql_laws_calls.specs.pool.declared.moves.Move.TheVariants.{Lend}
use Rattle.dsql_laws_calls.specs.pool.Changes.{lent}
use Rattle.dsql_laws_calls.specs.pool.Places.{conn_of, is_idle, is_opening}
use Rattle.dsql_laws_calls.specs.pool.Pooled.{next_tenure}
use Rattle.dsql_laws_calls.proofs.pool.Found.{found_changed}
use Rattle.dsql_laws_calls.proofs.laws.Tests.{both, same_number, other_number}
use Rattle.dsql_laws_calls.proofs.Found.{place_in, lends_in}
use Rattle.dsql_laws_calls.proofs.Lent.{Lends, lent_before}
use Rattle.dsql_laws_calls.proofs.Stays.{has_entered}
use Rattle.dsql_laws_calls.specs.history.declared.event.Event.{Event}
use Rattle.dsql_laws_calls.specs.history.declared.event.Event.TheVariants.{Pool}
use Rattle.dsql_laws_calls.specs.history.declared.work.Work.TheVariants.{Look}
use Rattle.dsql_laws_calls.specs.history.Readers.Calls.{site}
use Rattle.dsql_laws_calls.specs.history.Readers.Pool.{pool, place, home}
use Rattle.dsql_laws_calls.specs.history.Readers.Unfinished.{is_unfinished}
use Rattle.dsql_laws_calls.specs.history.Readers.Works.{works, work, borrower}
use Rattle.dsql_laws_calls.specs.history.Rules.Line.{due_in, due_for, due_from, tidying, is_at, has_turn, is_due, is_due_at, parts, may_come}
use Rattle.dsql_laws_calls.specs.history.Rules.Moves.{moves_from, numbers_lending}
use Rattle.dsql_laws_calls.specs.history.Legal.{Allowed, Lawful}
use Rattle.dsql_laws_callers.proofs.Works.{borrower_stays, works_stay}
use Rattle.dsql_laws_callers.proofs.Tenures.{HasBegun, begun_still, open_opened}
use Rattle.dsql_laws_callers.proofs.Homes.{home_owner}

-- A lending.

record LendFacts (H : List Event) (c t : ℕ) : Type 0 where
  moves : is_idle (place H c) || is_opening (place H c) ≡ true
  tenure : t ≡ next_tenure (pool H) c

lend_facts : (H : List Event) (c t : ℕ) (o : Owner) (n : ℕ) → Allowed H (Pool (Lend c t o n)) → LendFacts H c t
unfolding Allowed
lend_facts H c t o n a =
    let s = both (moves_from (pool H) (Lend c t o n)) (numbers_lending (pool H) (Lend c t o n)) a.sets in
    let b = both (t == next_tenure (pool H) c) (n == number_of o) s.1 in
    record { moves = s.0; tenure = same_number t (next_tenure (pool H) c) b.0 }

-- A connection that is lent was open.
open_there : (o : Option Conn) → (is_idle (place_in o) || is_opening (place_in o)) ≡ true → (x : Conn) × (o ≡ Some x)
open_there None h = absurd cc
open_there (Some x) h = (x, refl)

record LentFrom (H : List Event) (c t : ℕ) : Type 0 where
  from : Conn
  found : conn_of c (pool H).conns ≡ Some from
  tenure : t ≡ from.lends + 2

lent_from : (H : List Event) (c t : ℕ) (o : Owner) (n : ℕ) → Allowed H (Pool (Lend c t o n)) → LentFrom H c t
lent_from H c t o n a =
    let f = lend_facts H c t o n a in
    let x = open_there (conn_of c (pool H).conns) f.moves in
    record { from = x.0; found = x.1; tenure = f.tenure ∙ ap (λ m. m + 2) (ap lends_in x.1) }

-- As a connection is lent, its tenure has begun, and it is later than every earlier one.
lend_begins : (H : List Event) (c t : ℕ) (o : Owner) (n : ℕ) → Allowed H (Pool (Lend c t o n)) → HasBegun (Pool (Lend c t o n) ∷ H) c t
lend_begins H c t o n a =
    let f = lent_from H c t o n a in
    let old = open_opened H c f.from f.found in
    record {
      opened = old.1;
      lent = λ x is.
          let now : Some (lent t o (pool H).moment f.from) ≡ Some x = sym (found_changed c (lent t o (pool H).moment) (λ _. refl) (pool H).conns ∙ ap (option_map (lent t o (pool H).moment)) f.found) ∙ is in
          let same : lent t o (pool H).moment f.from ≡ x = cc in
          let lends : f.from.lends + 1 ≡ x.lends = ap (λ (y : Conn). y.lends) same in
          let tenure = f.tenure in
          omega (arith, lends, tenure);
    }

lend_anew : (H : List Event) (c t : ℕ) (o : Owner) (n : ℕ) → HasBegun H c t → Allowed H (Pool (Lend c t o n)) → ⊥
lend_anew H c t o n b a =
    let f = lent_from H c t o n a in
    let so_often = b.lent f.from f.found in
    let tenure = f.tenure in
    omega (arith, so_often, tenure)

lends_begins : (H : List Event) (e : Event) (c t : ℕ) (o : Owner) → Lends e c t o → Allowed H e → HasBegun (e ∷ H) c t
lends_begins H e c t o lends a = subst (λ d. HasBegun (d ∷ H) c t) (sym lends.1) (lend_begins H c t o lends.0 (subst (λ d. Allowed H d) lends.1 a))

-- A lent connection is in a tenure that has begun.
pub lent_has_begun : (H : List Event) (c t : ℕ) (o : Owner) → Lawful H → place H c ≡ Some (Lent t o) → HasBegun H c t
lent_has_begun [] c t o l is = absurd cc
lent_has_begun (e ∷ H) c t o l is = by (lent_before H e c t o l.0 is) (λ was. lent_has_begun H c t o l.0 was)
  where
    by : (place H c ≡ Some (Lent t o)) ⊎ Lends e c t o → (place H c ≡ Some (Lent t o) → HasBegun H c t) → HasBegun (e ∷ H) c t
    by (inl was) earlier = begun_still H e c t (earlier was)
    by (inr lends) earlier = lends_begins H e c t o lends l.1

-- Holds if the call uses the connection that is lent to the owner of that tenure, whichever owner that is.
pub record IsSenders (H : List Event) (e : Entry) : Type 0 where
  pub tenure : HasBegun H e.conn e.tenure
  pub entered : e.call_no < length (works H)
  pub owner : (o : Owner) → place H e.conn ≡ Some (Lent e.tenure o) → borrower H e.call_no ≡ number_of o

senders_still : (H : List Event) (last : Event) (e : Entry) → Lawful (last ∷ H) → IsSenders H e → IsSenders (last ∷ H) e
senders_still H last e l s = record {
  tenure = begun_still H last e.conn e.tenure s.tenure;
  entered = works_stay H last e.call_no s.entered;
  owner = λ o is. by o (lent_before H last e.conn e.tenure o l.0 is);
}
  where
    by : (o : Owner) → (place H e.conn ≡ Some (Lent e.tenure o)) ⊎ Lends last e.conn e.tenure o → borrower (last ∷ H) e.call_no ≡ number_of o
    by o (inl was) = borrower_stays H last e.call_no s.entered ∙ s.owner o was
    by o (inr lends) = absurd (lend_anew H e.conn e.tenure o lends.0 s.tenure (subst (λ d. Allowed H d) lends.1 l.1))

-- What is due at this moment.

-- Holds if the entry is due on a lent connection, as every entry is that is due.
pub record DueThere (H : List Event) (e : Entry) : Type 0 where
  pub owner : Owner
  pub lent : place H e.conn ≡ Some (Lent e.tenure owner)
  pub at : is_at H e.call_no e.conn ≡ true
  pub due : is_due (due_from H e.call_no (number_of owner)) e.call ≡ true

pub due_there : (H : List Event) (e : Entry) → is_due_at H (place H e.conn) e ≡ true → DueThere H e
due_there H e h = by (place H e.conn) refl h
  where
    by : (p : Option Place) → place H e.conn ≡ p → is_due_at H p e ≡ true → DueThere H e
    by (Some (Lent t o)) is k =
        let a = both (e.tenure == t) (is_at H e.call_no e.conn && (has_turn H e.conn e.call_no && is_due (due_from H e.call_no (number_of o)) e.call)) k in
        let b = both (is_at H e.call_no e.conn) (has_turn H e.conn e.call_no && is_due (due_from H e.call_no (number_of o)) e.call) a.1 in
        let c = both (has_turn H e.conn e.call_no) (is_due (due_from H e.call_no (number_of o)) e.call) b.1 in
        record { owner = o; lent = is ∙ ap (λ u. Some (Lent u o)) (sym (same_number e.tenure t a.0)); at = b.0; due = c.1 }
    by _ is k = absurd cc

pub not_due : (q : DriverCall) → is_due None q ≡ true → ⊥
not_due q h = cc

-- Nothing is due for a call that has nothing to do.
due_works : (H : List Event) (m : ℕ) (q : DriverCall) → is_due (due_for H m) q ≡ true → work H m ≡ Look → ⊥
due_works H m q h none = by (is_unfinished H m) (ap (λ it. is_due (cond (is_unfinished H m) (due_in H m it) None) q) (sym none) ∙ h)
  where
    by : (b : Bool) → is_due (cond b None None) q ≡ true → ⊥
    by true d = not_due q d
    by false d = not_due q d

due_senders : (H : List Event) (e : Entry) → Lawful H → e.call_no ≢ 0 → is_due_at H (place H e.conn) e ≡ true → IsSenders H e
due_senders H e l some h =
    let d = due_there H e h in
    let other : (e.call_no == 0) ≡ false = other_number e.call_no 0 some in
    let due : is_due (due_for H e.call_no) e.call ≡ true = ap (λ b. is_due (cond b (tidying H (number_of d.owner)) (due_for H e.call_no)) e.call) (sym other) ∙ d.due in
    let at : (site H e.call_no == e.conn) ≡ true = ap (λ b. b || (site H e.call_no == e.conn)) (sym other) ∙ d.at in
    let home_at : home H (borrower H e.call_no) ≡ e.conn = same_number (site H e.call_no) e.conn at in
    record {
      tenure = lent_has_begun H e.conn e.tenure d.owner l d.lent;
      entered = has_entered H e.call_no (due_works H e.call_no e.call due);
      owner = λ o is. sym (home_owner H (borrower H e.call_no) e.conn e.tenure o home_at is);
    }

-- An entry that may come was due at an earlier moment, and its call uses the connection of that tenure.
pub senders : (H : List Event) (e : Entry) → Lawful H → e.call_no ≢ 0 → may_come H e ≡ true → IsSenders H e
senders [] e l some h = absurd cc
senders (last ∷ H) e l some h =
    by (or_cases (is_due_at (last ∷ H) (place (last ∷ H) e.conn) e) (not (parts last e) && may_come H e) h) (λ comes. senders H e l.0 some comes)
  where
    by : (is_due_at (last ∷ H) (place (last ∷ H) e.conn) e ≡ true) ⊎ ((not (parts last e) && may_come H e) ≡ true) → (may_come H e ≡ true → IsSenders H e) → IsSenders (last ∷ H) e
    by (inl due) earlier = due_senders (last ∷ H) e l some due
    by (inr was) earlier = let a = both (not (parts last e)) (may_come H e) was in senders_still H last e l (earlier a.1)
