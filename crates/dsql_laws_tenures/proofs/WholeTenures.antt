-- The tenure of a transaction that has its end is whole if nothing is left open, or if the connection went bad.
use Rattle.std.proofs.Common.{◌≡◌, ℕ, Bool, true, false, cond, not, ◌==◌, ◌&&◌, ◌||◌, List, [], ◌∷◌, refl}
use Rattle.std.specs.List.{list_all, list_any}
use Rattle.dsql_history.specs.driver.declared.call.DriverCall.{DriverCall}
use Rattle.dsql_history.specs.driver.declared.call.DriverCall.TheVariants.{Commit, Rollback}
use Rattle.dsql_history.specs.driver.Fits.{is_failure}
use Rattle.dsql_history.specs.driver.Kinds.{is_begin, is_ending, is_reset, is_valid}
use Rattle.dsql_history.specs.journal.declared.entry.Entry.{Entry}
use Rattle.dsql_history.specs.journal.Readers.{begins, begun, ended, has, of_tenure, went_bad}
use Rattle.dsql_history.specs.journal.Tenure.{has_closed_cursors, has_closed_handles, has_ended_transactions, is_whole_tenure}
use Rattle.dsql_history.proofs.journal.Conjunctions.{join2}
use Rattle.dsql_history.specs.Readers.Lines.{has_cursor, has_handle}
use Rattle.dsql_laws_tenures.specs.Tenures.{made_by, IsOfTransaction}
use Rattle.dsql_laws_tenures.specs.Orderly.{OpensOnce, PreparesOnce}
use Rattle.dsql_laws_tenures.proofs.Numbers.{impossible, is_itself, or_later}
use Rattle.dsql_laws_tenures.proofs.Entries.{Newest, newest, in_transaction, tx_of_begin}
use Rattle.dsql_laws_tenures.proofs.OwnLines.{none_is_open}
use Rattle.dsql_laws_tenures.proofs.OwnHandles.{none_is_prepared}

ending_body : (q : DriverCall) (failed zero : Bool) → is_ending q ≡ true → (not (is_reset q || is_valid q) ≡ true) × (is_begin q && failed && zero ≡ false)
ending_body Commit failed zero h = (refl, refl)
ending_body Rollback failed zero h = (refl, refl)
ending_body _ failed zero h = absurd (impossible h)

kept : (k x : ℕ) (b : Bool) (ns : List ℕ) → has k ns ≡ true → has k (cond b (x ∷ ns) ns) ≡ true
kept k x true ns h = or_later (x == k) (has k ns) h
kept k x false ns h = h

-- An end in the tenure ends the transaction.
ends_it : (k t : ℕ) (J : List Entry) → IsOfTransaction k t J → list_any (λ x. is_ending x.call) (of_tenure t J) ≡ true → has k (ended J) ≡ true
ends_it k t [] s h = absurd (impossible h)
ends_it k t (e ∷ J) s h =
    let w = newest k t e J s in
    by_tenure (e.tenure == t) refl h w (λ earlier. ends_it k t J w.before earlier)
  where
    by_end : (b : Bool) → (e.tenure == t) ≡ true → is_ending e.call ≡ b → b || list_any (λ x. is_ending x.call) (of_tenure t J) ≡ true → Newest k t e J
        → (list_any (λ x. is_ending x.call) (of_tenure t J) ≡ true → has k (ended J) ≡ true) → has k (cond b (e.tx ∷ ended J) (ended J)) ≡ true
    by_end true at is h w earlier =
        let b = ending_body e.call (is_failure e.answer) (e.tx == 0) is in
        let x = in_transaction k t e J w at b.0 b.1 in
        rw x.1 (rw (is_itself k) refl)
    by_end false at is h w earlier = earlier h

    by_tenure : (b : Bool) → (e.tenure == t) ≡ b → list_any (λ x. is_ending x.call) (cond b (e ∷ of_tenure t J) (of_tenure t J)) ≡ true → Newest k t e J
        → (list_any (λ x. is_ending x.call) (of_tenure t J) ≡ true → has k (ended J) ≡ true) → has k (ended (e ∷ J)) ≡ true
    by_tenure true is h w earlier = by_end (is_ending e.call) is refl h w earlier
    by_tenure false is h w earlier = kept k e.tx (is_ending e.call) (ended J) (earlier h)

-- The tenure begins no other transaction.
begins_it : (k t : ℕ) (J : List Entry) (ns : List ℕ) → IsOfTransaction k t J → has k ns ≡ true → list_all (λ m. has m ns) (begun (of_tenure t J)) ≡ true
begins_it k t [] ns s h = refl
begins_it k t (e ∷ J) ns s h =
    let w = newest k t e J s in
    by_tenure (e.tenure == t) refl w (begins_it k t J ns w.before h)
  where
    by_begin : (b : Bool) → (e.tenure == t) ≡ true → begins e ≡ b → Newest k t e J → list_all (λ m. has m ns) (begun (of_tenure t J)) ≡ true
        → list_all (λ m. has m ns) (cond b (e.tx ∷ begun (of_tenure t J)) (begun (of_tenure t J))) ≡ true
    by_begin true at is w rest =
        let x = tx_of_begin k t e J w at is in
        join2 (has e.tx ns) (list_all (λ m. has m ns) (begun (of_tenure t J))) (rw x.1 h) rest
    by_begin false at is w rest = rest

    by_tenure : (b : Bool) → (e.tenure == t) ≡ b → Newest k t e J → list_all (λ m. has m ns) (begun (of_tenure t J)) ≡ true
        → list_all (λ m. has m ns) (begun (cond b (e ∷ of_tenure t J) (of_tenure t J))) ≡ true
    by_tenure true is w rest = by_begin (begins e) is refl w rest
    by_tenure false is w rest = rest

has_end : (k t : ℕ) (J : List Entry) → IsOfTransaction k t J → list_any (λ x. is_ending x.call) (of_tenure t J) ≡ true → has_ended_transactions t J ≡ true
has_end k t J s h = begins_it k t J (ended J) s (ends_it k t J s h)

pub whole_when_closed : (k t : ℕ) (J : List Entry) → IsOfTransaction k t J → OpensOnce t J → PreparesOnce t J → list_any (λ x. is_ending x.call) (of_tenure t J) ≡ true
    → ((n rows : ℕ) → has_cursor (made_by n t J) rows ≡ false) → ((n handle : ℕ) → has_handle (made_by n t J) handle ≡ false) → is_whole_tenure t J ≡ true
whole_when_closed k t J s opens prepares end no_cursor no_handle =
    join2 (has_ended_transactions t J) (went_bad J || has_closed_cursors t J && has_closed_handles t J) (has_end k t J s end)
    (or_later (went_bad J) (has_closed_cursors t J && has_closed_handles t J)
    (join2 (has_closed_cursors t J) (has_closed_handles t J) (none_is_open k t J s opens no_cursor) (none_is_prepared k t J s prepares no_handle)))

pub whole_when_bad : (k t : ℕ) (J : List Entry) → IsOfTransaction k t J → list_any (λ x. is_ending x.call) (of_tenure t J) ≡ true → went_bad J ≡ true → is_whole_tenure t J ≡ true
whole_when_bad k t J s end bad = join2 (has_ended_transactions t J) (went_bad J || has_closed_cursors t J && has_closed_handles t J) (has_end k t J s end) (rw bad refl)
