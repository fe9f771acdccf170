-- Answers to driver calls that are made apart from the player, while others take their steps.
use Rattle.std.specs.Prelude.{ℕ, ◌≡◌, true, Some}
use Rattle.dsql_engine_laws.specs.journal.declared.entry.Entry.{Entry}
use Rattle.dsql_engine_laws.specs.journal.declared.entry.Permit.{Permit}
use Rattle.dsql_engine_laws.specs.journal.HandlesAndCursors.{fits_at_its_place}
use Rattle.dsql_engine_laws.specs.tenure.Judged.{answered}
use Rattle.dsql_engine_laws.specs.history.Readers.Journals.{journal}
use Rattle.dsql_engine_laws.specs.going.Permits.{chore_permit}
use Rattle.dsql_player_wires.specs.Seats.{seat}
use Rattle.dsql_player.specs.Playing.{Playing}

-- Holds if the driver call for which the client has a permit was answered, and the answer fits at its place.
pub record AnswersLeave (p : Playing) (client : ℕ) (e : Entry) : Type 0 where
  pub permit : Permit
  pub leave : (seat p.seats client).permit ≡ Some permit
  pub answer : e ≡ answered permit e.answer
  pub fits : fits_at_its_place (journal p.past permit.conn) e ≡ true

-- Holds if one of the layer's own calls that are due was answered, and the answer fits at its place. That call needn't
-- be the first one.
pub record AnswersChore (p : Playing) (e : Entry) : Type 0 where
  pub permit : Permit
  pub leave : chore_permit p.past permit.conn ≡ Some permit
  pub answer : e ≡ answered permit e.answer
  pub fits : fits_at_its_place (journal p.past permit.conn) e ≡ true
