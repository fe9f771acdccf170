-- When the run ends, each lent connection stays in use: live rows are to be closed, and transactions are to be
-- ended.
use Rattle.std.proofs.Common.{◌≡◌, ℕ, ◌+◌, ◌⊎◌, inl, inr, Bool, true, false, not, ◌&&◌, ◌||◌, cond, List, ◌∷◌, Option, Some, None, is_some, refl, sym, ap, subst, ◌∙◌, arith}
use Rattle.std.specs.Option.{option_map}
use Rattle.dsql_laws_calls.specs.course.declared.course.Wish.{Wish}
use Rattle.dsql_laws_calls.specs.course.declared.course.Wish.TheVariants as wishes
use Rattle.dsql_laws_calls.specs.journal.declared.entry.Owner.{Owner}
use Rattle.dsql_laws_calls.specs.journal.Kinds.{number_of}
use Rattle.dsql_laws_calls.specs.pool.declared.conn.Place.TheVariants.{Lent}
use Rattle.dsql_laws_calls.specs.rows.declared.rows.Rows.{Rows}
use Rattle.dsql_laws_calls.specs.rows.OpenRows.{is_live}
use Rattle.dsql_laws_calls.specs.tx.declared.end.TxEnd.TheVariants as tx_ends
use Rattle.dsql_laws_calls.specs.tx.declared.tx.Tx.{Tx as Trans}
use Rattle.dsql_laws_calls.specs.tx.Transactions as of_txs
use Rattle.dsql_laws_calls.specs.history.Readers.HandedOut.{live, over, handed_out, rows_by, are_live, are_over, last_end}
use Rattle.dsql_laws_calls.proofs.laws.Truths.{or_first, or_second}
use Rattle.dsql_laws_calls.proofs.laws.Tests.{both}
use Rattle.dsql_laws_calls.proofs.Cases.{true_false}
use Rattle.dsql_laws_calls.specs.history.declared.event.Event.{Event}
use Rattle.dsql_laws_calls.specs.history.declared.event.Event.TheVariants.{Ended}
use Rattle.dsql_laws_calls.specs.history.Readers.Calls.{rests}
use Rattle.dsql_laws_calls.specs.history.Readers.Journals.{heard_in}
use Rattle.dsql_laws_calls.specs.history.Readers.Owed.{owed}
use Rattle.dsql_laws_calls.specs.history.Readers.Pool.{pool, place, home}
use Rattle.dsql_laws_calls.specs.history.Readers.Transactions.{tx_by, end_of, tx_end, is_begun, is_over, goes_on}
use Rattle.dsql_laws_calls.specs.history.Readers.Works.{works, work, scope, hands_out_in}
use Rattle.dsql_laws_calls.specs.history.Rules.Ending.{ending}
use Rattle.dsql_laws_calls.specs.history.Rules.Line.{rest_with, rest, is_used}
use Rattle.dsql_laws_calls.specs.history.Rules.Sent.{line_of, close_due}
use Rattle.dsql_laws_calls.specs.history.Rules.Settled.{is_kept, uses_what_is_lent}
use Rattle.dsql_laws_calls.specs.history.Legal.{Lawful}
use Rattle.dsql_laws_calls.specs.laws.OwedMade.{with_moves}
use Rattle.dsql_laws_calls.proofs.laws.AtRest.{before_event, rested}
use Rattle.dsql_laws_calls.proofs.Begun.{begun_begins, ended_tx as tx_at_end, over_begun}
use Rattle.dsql_laws_calls.proofs.Coming.{sound}
use Rattle.dsql_laws_calls.proofs.EndedRows.{rows_at_end_of}
use Rattle.dsql_laws_calls.proofs.Inside.{live_goes}
use Rattle.dsql_laws_calls.proofs.LiveRows.{live_some}
use Rattle.dsql_laws_calls.proofs.Makers.{rows_begin_nothing}
use Rattle.dsql_laws_calls.proofs.Plain.{begins}
use Rattle.dsql_laws_calls.proofs.Rows.{none_at_end}
use Rattle.dsql_laws_calls.proofs.UnderWay.{Facts, ending_over}
use Rattle.dsql_laws_calls.proofs.Why.{ended_there, tx_used}
use Rattle.dsql_laws_others.proofs.Alike.{closing_alike, ends_alike}
use Rattle.dsql_laws_others.proofs.ControlMoves.{all_quiet}
use Rattle.dsql_laws_others.proofs.Ending.{closed_quiet}
use Rattle.dsql_laws_others.proofs.Homes.{HomeStays, HomeUnlent, no_ending}
use Rattle.dsql_laws_others.proofs.Openings.{silent}
use Rattle.dsql_laws_others.proofs.Entered.{first_same}
use Rattle.dsql_laws_others.proofs.Holding.{live_closes}
use Rattle.dsql_laws_others.proofs.Leaves.{lent_used}
use Rattle.dsql_laws_others.proofs.Shut.{Shuts, lent_after, lent_first, home_shut, shut_line}
use Rattle.dsql_laws_others.proofs.StillUsed.{all_kept, not_over}
use Rattle.dsql_laws_others.proofs.Turned.{Turns, ended_turn, ended_tx}

ends_it : (H : List Event) → Lawful (Ended ∷ H) → Shuts H Ended
ends_it H l = record { lawful = l; closed = refl; can = refl; heard = λ c. refl }

same_line : (H : List Event) (j : ℕ) (w : Wish) → Lawful (Ended ∷ H) → line_of (Ended ∷ H) j w ≡ line_of H j w
same_line H j w l = shut_line H Ended j w (ends_it H l) (record { asked = refl; its_work = refl; uses = refl })

rows_turn : (H : List Event) (j : ℕ) → Turns (rows_by H j) (rows_by (Ended ∷ H) j)
rows_turn H j = ended_turn (last_end (scope (work H j))) (rows_by H j) (rows_by (Ended ∷ H) j) (rows_at_end_of H (handed_out H) j)

-- A transaction that is over stays as it is.

over_tx : (H : List Event) (k : ℕ) → is_over H k ≡ true → tx_by (Ended ∷ H) k ≡ tx_by H k
over_tx H k gone = elim (ended_tx tx_ends.EndOfRun (tx_by H k) (tx_by (Ended ∷ H) k) (tx_at_end H k)) [
  | inl same ↦ same
  | inr w ↦ let clash : false ≡ true = sym (ap (λ b. is_begun H k && not b) gone ∙ none (is_begun H k)) ∙ w.0 in absurd cc
]
  where
    none : (b : Bool) → (b && false) ≡ false
    none true = refl
    none false = refl

closing_end : (H : List Event) (k j : ℕ) → Lawful (Ended ∷ H) → is_over H k ≡ true → hands_out_in k (work H j) ≡ true → close_due (Ended ∷ H) j ≡ close_due H j
closing_end H k j l gone hands = closing_alike H (Ended ∷ H) j (rows (rows_turn H j)) (λ over. same_line H j wishes.Close l)
  where
    rows : Turns (rows_by H j) (rows_by (Ended ∷ H) j) → rows_by (Ended ∷ H) j ≡ rows_by H j
    rows (inl same) = same
    rows (inr w) = absurd (true_false (is_over H k) gone (not_over H k (live_goes H j k l.0 w.0 hands)))

ending_end : (H : List Event) (k : ℕ) → Lawful (Ended ∷ H) → is_over H k ≡ true → ending (Ended ∷ H) k ≡ ending H k
ending_end H k l gone = by (home_shut H Ended k (ends_it H l))
  where
    K : List Event
    K = Ended ∷ H

    by : HomeStays H (Ended ∷ H) k ⊎ HomeUnlent H (Ended ∷ H) k → ending (Ended ∷ H) k ≡ ending H k
    by (inl s) =
        ends_alike H K k (over_tx H k gone) s.homes s.places
        (record {
          first = first_same H K k 0 (works H) (λ j hands. let number : 0 + j ≡ j = omega arith in subst (λ i. close_due K i ≡ close_due H i) (sym number) (closing_end H k j l gone hands));
          can = refl;
          heard = refl;
        })
    by (inr u) = no_ending K k (home K k) (tx_end K k) refl u.after ∙ sym (no_ending H k (home H k) (tx_end H k) refl u.before)

-- A connection in use stays in use.

record LentAtEnd (H : List Event) : Type 0 where
  lawful : Lawful (Ended ∷ H)
  conn : ℕ
  tenure : ℕ
  owner : Owner
  lent : place H conn ≡ Some (Lent tenure owner)

going_end : (H : List Event) (x : LentAtEnd H) → goes_on H (number_of x.owner) ≡ true → is_used (Ended ∷ H) (number_of x.owner) ≡ true
going_end H x goes =
    let K = Ended ∷ H in
    let j = number_of x.owner in
    let b = both (is_begun H j) (not (is_over H j)) goes in
    let gone : is_over K j ≡ true = ap (λ o. is_some (end_of o)) (tx_at_end H j) ∙ ended (tx_by H j) b.0 in
    tx_used K x.conn x.tenure x.owner x.lawful (lent_after H Ended x.conn x.tenure x.owner (ends_it H x.lawful) x.lent) (record { begun = over_begun K j gone; left = inl (on (not_over H j goes)) })
  where
    ended : (o : Option Trans) → is_some o ≡ true → is_some (end_of (option_map (of_txs.ended_by tx_ends.EndOfRun) o)) ≡ true
    ended None h = absurd cc
    ended (Some t) h = refl

    on : is_over H (number_of x.owner) ≡ false → ended_there (heard_in H x.conn x.tenure) ≡ false
    on h = let l = x.lawful in let s = sound H l.0 in of s.facts
      where
        of : Facts H → ended_there (heard_in H x.conn x.tenure) ≡ false
        of f = f.ends x.conn x.tenure x.owner x.lent h

-- Something is left to be sent for rows that are over, if their closing line goes on.
left_over : (H : List Event) (j : ℕ) (o : Option Rows) → over o ≡ true → is_some (line_of H j wishes.Close) ≡ true → is_some (rest_with H j o) ≡ true
left_over H j None h line = absurd cc
left_over H j (Some r) h line = by (is_live r) h
  where
    by : (b : Bool) → not b ≡ true → is_some (cond b None (line_of H j wishes.Close)) ≡ true
    by true k = absurd cc
    by false k = line

by_rest : (H : List Event) (j : ℕ) → is_some (rest H j) ≡ true → is_used H j ≡ true
by_rest H j h = or_second (goes_on H j) (are_live H j || is_some (rest H j)) (or_second (are_live H j) (is_some (rest H j)) h)

same_begun : (H : List Event) (j : ℕ) → is_begun (Ended ∷ H) j ≡ is_begun H j
same_begun H j = ap (λ o. is_some o) (tx_at_end H j) ∙ of (tx_by H j)
  where
    of : (o : Option Trans) → is_some (option_map (of_txs.ended_by tx_ends.EndOfRun) o) ≡ is_some o
    of None = refl
    of (Some t) = refl

live_end : (H : List Event) (x : LentAtEnd H) → are_live H (number_of x.owner) ≡ true → is_used (Ended ∷ H) (number_of x.owner) ≡ true
live_end H x lives = by_rest K j (sent (is_begun K j) refl)
  where
    K : List Event
    K = Ended ∷ H

    j : ℕ
    j = number_of x.owner

    gone : Turns (rows_by H (number_of x.owner)) (rows_by (Ended ∷ H) (number_of x.owner)) → are_over (Ended ∷ H) (number_of x.owner) ≡ true
    gone (inr w) = w.1
    gone (inl same) = absurd (true_false (are_live (Ended ∷ H) (number_of x.owner)) (ap live same ∙ lives) (none_at_end H (number_of x.owner)))

    sent : (b : Bool) → is_begun (Ended ∷ H) (number_of x.owner) ≡ b → is_some (cond b (ending (Ended ∷ H) (number_of x.owner)) (rest_with (Ended ∷ H) (number_of x.owner) (rows_by (Ended ∷ H) (number_of x.owner)))) ≡ true
    sent false is =
        let l = x.lawful in
        left_over K j (rows_by K j) (gone (rows_turn H j)) (ap (λ d. is_some d) (same_line H j wishes.Close l) ∙ live_closes H x.conn x.tenure x.owner l.0 x.lent lives)
    sent true is =
        let l = x.lawful in
        absurd (true_false (begins (work H j)) (begun_begins H j l.0 (sym (same_begun H j) ∙ is)) (rows_begin_nothing H j (live_some (rows_by H j) lives)))

rest_end : (H : List Event) (x : LentAtEnd H) → are_live H (number_of x.owner) ≡ false → is_some (rest H (number_of x.owner)) ≡ true → is_used (Ended ∷ H) (number_of x.owner) ≡ true
rest_end H x dead h = by_rest K j (ap (λ b. is_some (cond b (ending K j) (rest_with K j (rows_by K j)))) (same_begun H j) ∙ by (is_begun H j) h)
  where
    K : List Event
    K = Ended ∷ H

    j : ℕ
    j = number_of x.owner

    rows : Turns (rows_by H (number_of x.owner)) (rows_by (Ended ∷ H) (number_of x.owner)) → rows_by (Ended ∷ H) (number_of x.owner) ≡ rows_by H (number_of x.owner)
    rows (inl same) = same
    rows (inr w) = absurd (true_false (are_live H (number_of x.owner)) w.0 dead)

    with : (o : Option Rows) → rest_with (Ended ∷ H) (number_of x.owner) o ≡ rest_with H (number_of x.owner) o
    with None = same_line H (number_of x.owner) wishes.Nothing x.lawful
    with (Some r) = ap (λ d. cond (is_live r) None d) (same_line H (number_of x.owner) wishes.Close x.lawful)

    by : (b : Bool) → is_some (cond b (ending H (number_of x.owner)) (rest_with H (number_of x.owner) (rows_by H (number_of x.owner)))) ≡ true
        → is_some (cond b (ending (Ended ∷ H) (number_of x.owner)) (rest_with (Ended ∷ H) (number_of x.owner) (rows_by (Ended ∷ H) (number_of x.owner)))) ≡ true
    by true k = ap (λ d. is_some d) (ending_end H (number_of x.owner) x.lawful (ending_over H (number_of x.owner) k)) ∙ k
    by false k = ap (λ o. is_some (rest_with K j o)) (rows (rows_turn H j)) ∙ (ap (λ d. is_some d) (with (rows_by H j)) ∙ k)

used_end : (H : List Event) (x : LentAtEnd H) → is_used H (number_of x.owner) ≡ true → is_used (Ended ∷ H) (number_of x.owner) ≡ true
used_end H x h = by (goes_on H (number_of x.owner)) (are_live H (number_of x.owner)) refl refl h
  where
    by : (g v : Bool) → goes_on H (number_of x.owner) ≡ g → are_live H (number_of x.owner) ≡ v → (g || (v || is_some (rest H (number_of x.owner)))) ≡ true → is_used (Ended ∷ H) (number_of x.owner) ≡ true
    by true v goes lives k = going_end H x goes
    by false true goes lives k = live_end H x lives
    by false false goes lives k = rest_end H x lives k

kept_end : (H : List Event) (x : LentAtEnd H) → is_kept H (number_of x.owner) ≡ true → is_kept (Ended ∷ H) (number_of x.owner) ≡ true
kept_end H x h = by (is_used H (number_of x.owner)) refl h
  where
    j : ℕ
    j = number_of x.owner

    by : (b : Bool) → is_used H (number_of x.owner) ≡ b → (b || rests H (number_of x.owner)) ≡ true → is_kept (Ended ∷ H) (number_of x.owner) ≡ true
    by true is k = or_first (is_used (Ended ∷ H) j) (rests (Ended ∷ H) j) (used_end H x is)
    by false is k = or_second (is_used (Ended ∷ H) j) (rests (Ended ∷ H) j) k

used_at_end : (H : List Event) → Lawful (Ended ∷ H) → uses_what_is_lent H ≡ true → uses_what_is_lent (Ended ∷ H) ≡ true
used_at_end H l h = all_kept (Ended ∷ H) (λ d u o at.
    let was = lent_first H Ended d u o (ends_it H l) at in
    kept_end H (record { lawful = l; conn = d; tenure = u; owner = o; lent = was }) (lent_used H d u o h was))

-- The same after the closings that the end makes due.

pub ended_used : (H : List Event) → Lawful (Ended ∷ H) → uses_what_is_lent H ≡ true → uses_what_is_lent (with_moves (owed (Ended ∷ H)) (Ended ∷ H)) ≡ true
ended_used H l h =
    let rest = before_event H Ended refl l.1 (rested H l.0) in
    let u = all_quiet (Ended ∷ H) (owed (Ended ∷ H)) 0 (silent (Ended ∷ H) l) (closed_quiet (pool H) rest.placed) in
    u.used ∙ used_at_end H l h
