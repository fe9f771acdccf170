-- Defines when a call may give back the connection with which it rests.
use Rattle.std.specs.Prelude.{ℕ, ◌≡◌, ◌≤◌, ◌+◌, true, false, List, length, None, is_some}
use Rattle.dsql_laws_calls.specs.pool.declared.moves.Fate.TheVariants.{Good}
use Rattle.dsql_laws_calls.specs.Bounds.{most_given_back}
use Rattle.dsql_laws_calls.specs.history.declared.event.Event.{Event}
use Rattle.dsql_laws_calls.specs.history.Readers.Calls.{reply_due, rests_with}
use Rattle.dsql_laws_calls.specs.history.Readers.Owed.{fate, given_back}
use Rattle.dsql_laws_calls.specs.history.Readers.Unfinished.{is_unfinished}
use Rattle.dsql_laws_calls.specs.history.Rules.Line.{due_for}
use Rattle.dsql_laws_calls.specs.history.Rules.Settled.{is_settled_but}
use Rattle.dsql_laws_calls.specs.laws.Leaving.{MayLeave}
use Rattle.dsql_laws_calls.specs.laws.OwedMade.{with_moves}

-- Holds if connection c may leave call n and is good. At most `most_given_back` moves follow. After them the
-- call has no connection and nothing to send, replies what it would have replied, and all else is settled.
pub record MayGiveUp (history : List Event) (n c : ℕ) : Type 0 where
  pub leaves : MayLeave history c
  pub good : fate history c ≡ Good
  pub few : length (with_moves (given_back history c) history) ≤ length history + most_given_back
  pub unfinished : is_unfinished (with_moves (given_back history c) history) n ≡ true
  pub settled : is_settled_but n (with_moves (given_back history c) history) ≡ true
  pub homeless : rests_with (with_moves (given_back history c) history) n ≡ None
  pub silent : is_some (due_for (with_moves (given_back history c) history) n) ≡ false
  pub due : reply_due (with_moves (given_back history c) history) n ≡ reply_due history n
