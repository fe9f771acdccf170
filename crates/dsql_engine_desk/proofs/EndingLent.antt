-- What is still to be sent to end a transaction to which a connection is lent.
use Rattle.std.proofs.Common.{◌≡◌, ◌==◌, ℕ, true, cond, List, Option, Some, None, sym, ap, ◌∙◌}
use Rattle.dsql_laws_calls.specs.course.Made.{or_else}
use Rattle.dsql_laws_calls.specs.journal.Kinds.{number_of}
use Rattle.dsql_laws_calls.specs.journal.Readers.{went_bad}
use Rattle.dsql_laws_calls.proofs.laws.Tests.{same_itself}
use Rattle.dsql_laws_calls.specs.pool.declared.conn.Place.{Place}
use Rattle.dsql_laws_calls.specs.pool.declared.conn.Place.TheVariants.{Lent}
use Rattle.dsql_laws_calls.specs.pool.Places.{is_lent}
use Rattle.dsql_laws_calls.specs.tx.declared.end.TxEnd.{TxEnd}
use Rattle.dsql_engine_exchanged.specs.Ending.{ending_in}
use Rattle.dsql_laws_calls.specs.history.declared.event.Event.{Event}
use Rattle.dsql_laws_calls.specs.history.Readers.Journals.{heard_in, journal}
use Rattle.dsql_laws_calls.specs.history.Readers.Pool.{place}
use Rattle.dsql_laws_calls.specs.history.Readers.Transactions.{tx_end}
use Rattle.dsql_laws_calls.specs.history.Readers.Works.{works}
use Rattle.dsql_laws_calls.specs.history.Rules.Ending.{end_after, ending, ending_at, ending_with, first_closing}
use Rattle.dsql_laws_calls.specs.history.Legal.{Lawful}
use Rattle.dsql_engine_desk.specs.Next.{lent_under, there_at}
use Rattle.dsql_engine_desk.proofs.LentTo.{lent_to}
use Rattle.dsql_engine_lines.proofs.OfConnections.{kept_bad, kept_ending}

-- Holds if the transaction's rows are closed first on connection c, and what was heard there of its end decides
-- how it then ends.
pub record EndsOn (H : List Event) (k c : ℕ) (end : TxEnd) : Type 0 where
  pub tenure : ℕ
  pub kept : ending_in (heard_in H c tenure) ≡ (there_at H c).ending
  pub is : ending H k ≡ or_else (first_closing H k 0 (works H)) (end_after H (there_at H c).ending.bad end (heard_in H c tenure))

pub ends_on : (H : List Event) (k c : ℕ) (end : TxEnd) → Lawful H → tx_end H k ≡ Some end → lent_under H k ≡ Some c → EndsOn H k c end
ends_on H k c end l ended lent =
    let it = lent_to H k c lent in
    let heard = heard_in H c it.tenure in
    let first = first_closing H k 0 (works H) in
    let same : (number_of it.owner == k) ≡ true = ap (λ j. number_of it.owner == j) it.number ∙ same_itself (number_of it.owner) in
    record {
      tenure = it.tenure;
      kept = sym (kept_ending H c it.tenure it.owner l it.at);
      is =
          ap (ending_with H k) ended
          ∙ (ap (λ d. ending_at H k d end (place H d)) it.here
          ∙ (ap (ending_at H k c end) it.at
          ∙ (ap (λ b. cond b (or_else first (end_after H (went_bad (journal H c)) end heard)) None) same
          ∙ ap (λ b. or_else first (end_after H b end heard)) (sym (kept_bad H c it.tenure it.owner l it.at)))));
    }

-- A lent connection is recorded as bad exactly if its journal says so.
pub known_bad : (H : List Event) (c : ℕ) (at : Option Place) → Lawful H → place H c ≡ at → is_lent at ≡ true → (there_at H c).ending.bad ≡ went_bad (journal H c)
known_bad H c (Some (Lent t own)) l is lent = kept_bad H c t own l is
known_bad H c _ l is lent = absurd cc
