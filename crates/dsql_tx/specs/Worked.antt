-- Defines worked transactions: 3 was begun with the token `a` and isn't ended, 5 was rolled back, and 8 was
-- ended with its token.
use Rattle.std.specs.Prelude.{◌≡◌, true, false, [], ◌∷◌, ◌++◌, Some, None, Ok, Err, codes}
use Rattle.dsql_cancel.specs.declared.token.Cause.TheVariants.{Canceled, Deadline}
use Rattle.dsql_value_numbered.specs.Numbered.{Numbered, thing_of, was_made, changed, all_changed}
use Rattle.dsql_tx.specs.declared.end.TxEnd.TheVariants.{Commit, Rollback, Cancel, EndOfRun}
use Rattle.dsql_tx.specs.declared.tx.Tx.{Tx}
use Rattle.dsql_tx.specs.Transactions.{begun_on, ended_by, admitted}
use Rattle.dsql_tx.specs.Laws.{end_of}

abbrev pub third : Tx
third = begun_on 1 2 (Some (codes "a"))

abbrev pub three : Numbered Tx
three =
    (3, third) ∷ (5, ended_by Rollback (begun_on 2 6 None)) ∷
    (8, ended_by (Cancel Deadline) (begun_on 1 4 (Some (codes "b")))) ∷ []

pub record WorkedTransactions : Type 0 where
  pub found : thing_of 3 three ≡ Some third
  pub goes_on : admitted third ≡ Ok tt
  pub committed : admitted (ended_by Commit third) ≡ Err (record { by = Commit })
  pub committed_twice : admitted (ended_by Commit (ended_by Commit third)) ≡ Err (record { by = Commit })
  pub rolled_back_first : end_of 5 (changed (ended_by Commit) 5 three) ≡ Some Rollback
  pub cancelled_first : end_of 8 (changed (ended_by Rollback) 8 three) ≡ Some (Cancel Deadline)
  pub first_cause : end_of 8 (changed (ended_by (Cancel Canceled)) 8 three) ≡ Some (Cancel Deadline)
  pub one_alone : end_of 3 (changed (ended_by Commit) 5 three) ≡ None
  pub run_ends_it : end_of 3 (all_changed (ended_by EndOfRun) three) ≡ Some EndOfRun
  pub run_comes_last : end_of 5 (all_changed (ended_by EndOfRun) three) ≡ Some Rollback
  pub begun_last : (three ++ (9, third) ∷ [])
      ≡ (3, third) ∷ (5, ended_by Rollback (begun_on 2 6 None)) ∷
      (8, ended_by (Cancel Deadline) (begun_on 1 4 (Some (codes "b")))) ∷ (9, third) ∷ []
  pub made : was_made 5 three ≡ true
  pub not_made : was_made 4 three ≡ false
