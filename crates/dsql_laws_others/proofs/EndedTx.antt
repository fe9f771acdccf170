-- A call that ends a transaction on entry leaves each other call standing somewhere and lent connections in
-- use. It is a case of a call that enters and doesn't close the database.
use Rattle.std.proofs.Common.{◌≡◌, ℕ, ◌⊎◌, inl, inr, true, false, List, Some, refl, sym, ap, ◌∙◌}
use Rattle.dsql_laws_calls.specs.journal.declared.entry.Owner.{Owner}
use Rattle.dsql_laws_calls.specs.journal.Kinds.{number_of}
use Rattle.dsql_laws_calls.specs.pool.declared.conn.Place.TheVariants.{Lent}
use Rattle.dsql_laws_calls.specs.rows.OpenRows.{rows_of}
use Rattle.dsql_laws_calls.proofs.Cases.{true_false}
use Rattle.dsql_laws_calls.proofs.LiveRows.{over_not_live}
use Rattle.dsql_laws_calls.specs.history.Readers.HandedOut.{over, ended_with, handed_out, rows_by, are_live}
use Rattle.dsql_laws_calls.specs.history.declared.event.Event.{Event}
use Rattle.dsql_laws_calls.specs.history.declared.event.Op.{Op}
use Rattle.dsql_laws_calls.specs.history.declared.event.Op.TheVariants as ops
use Rattle.dsql_laws_calls.specs.history.declared.work.Scope.TheVariants.{Db, Held}
use Rattle.dsql_laws_calls.specs.history.declared.work.Work.{Work}
use Rattle.dsql_laws_calls.specs.history.declared.work.Task.TheVariants.{HandOut}
use Rattle.dsql_laws_calls.specs.history.declared.work.Work.TheVariants.{Statement}
use Rattle.dsql_laws_calls.specs.history.Readers.Pool.{place}
use Rattle.dsql_laws_calls.specs.history.Readers.Works.{works, work, asks, hands_out_in, tx_maker}
use Rattle.dsql_laws_calls.specs.history.Rules.Settled.{calls_stand, calls_stand_but, uses_what_is_lent}
use Rattle.dsql_laws_calls.specs.history.Legal.{Lawful}
use Rattle.dsql_laws_calls.proofs.Owners.{lent_asks}
use Rattle.dsql_laws_others.specs.Ends.{ends_transaction}
use Rattle.dsql_laws_others.proofs.Entered.{Enters, enters}
use Rattle.dsql_laws_others.proofs.Somewhere.{each_on}
use Rattle.dsql_laws_others.proofs.StillUsed.{ClosesLate, all_used_on}
use Rattle.dsql_laws_others.proofs.Turned.{Turns, EndsNow, end_turn}

pub entered_end : (H : List Event) (client n : ℕ) (op : Op) → Lawful (enters H client n op) → ends_transaction op ≡ true → Enters H client n op
entered_end H client n (ops.Commit tx) l h = record { lawful = l; pool = refl; end = refl }
entered_end H client n (ops.Rollback tx) l h = record { lawful = l; pool = refl; end = refl }
entered_end H client n op l h = absurd cc

pub each_after_end : (H : List Event) (client n : ℕ) (op : Op) → Lawful (enters H client n op) → ends_transaction op ≡ true → calls_stand H ≡ true → calls_stand_but n (enters H client n op) ≡ true
each_after_end H client n op l ends h = each_on H client n op (entered_end H client n op l ends) h

-- A call that is lent a connection hands out no rows in a transaction.
outside : (w : Work) (k : ℕ) → asks w ≡ true → hands_out_in k w ≡ true → false ≡ true
outside (Statement Db (HandOut label)) k a h = h
outside (Statement (Held i) (HandOut label)) k a h = a
outside w k a h = absurd cc

live_rows : (H : List Event) (tx : List ℕ) (c t : ℕ) (own : Owner) → Lawful H → place H c ≡ Some (Lent t own) → are_live H (number_of own) ≡ true → over (rows_of (number_of own) (ended_with H tx (handed_out H))) ≡ true → false ≡ true
live_rows H tx c t own l at lives gone = by (end_turn H tx (number_of own))
  where
    by : (rows_of (number_of own) (ended_with H tx (handed_out H)) ≡ rows_by H (number_of own)) ⊎ (Turns (rows_by H (number_of own)) (rows_of (number_of own) (ended_with H tx (handed_out H))) × EndsNow H tx (number_of own)) → false ≡ true
    by (inl same) = absurd (true_false (are_live H (number_of own)) lives (over_not_live (rows_by H (number_of own)) (sym (ap over same) ∙ gone)))
    by (inr it) = let e = it.1 in outside (work H (number_of own)) (tx_maker (works H) tx) (lent_asks H c t own l at) e.hands

closes_none : (H : List Event) (client n : ℕ) (op : Op) → Lawful (enters H client n op) → ends_transaction op ≡ true → ClosesLate H client n op
closes_none H client n (ops.Commit tx) l h c t own at lives gone = let clash : false ≡ true = live_rows H tx c t own l.0 at lives gone in absurd cc
closes_none H client n (ops.Rollback tx) l h c t own at lives gone = let clash : false ≡ true = live_rows H tx c t own l.0 at lives gone in absurd cc
closes_none H client n op l h c t own at lives gone = absurd cc

pub used_after_end : (H : List Event) (client n : ℕ) (op : Op) → Lawful (enters H client n op) → ends_transaction op ≡ true → uses_what_is_lent (enters H client n op) ≡ uses_what_is_lent H
used_after_end H client n op l ends = all_used_on H client n op (entered_end H client n op l ends) (closes_none H client n op l ends)
