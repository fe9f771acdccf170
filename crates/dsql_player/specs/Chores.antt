-- The layer's own driver calls: which one comes first, and which one is under way.
use Rattle.std.specs.Prelude.{◌≡◌, ◌<◌, true, Option, Some, None, length}
use Rattle.dsql_engine_laws.specs.journal.declared.entry.Entry.{Entry}
use Rattle.dsql_engine_laws.specs.journal.declared.entry.Permit.{Permit}
use Rattle.dsql_engine_laws.specs.journal.HandlesAndCursors.{fits_at_its_place}
use Rattle.dsql_engine_laws.specs.tenure.Judged.{answered}
use Rattle.dsql_engine_laws.specs.history.Readers.Journals.{journal}
use Rattle.dsql_engine_laws.specs.history.Rules.House.{chore_due}
use Rattle.dsql_engine_laws.specs.going.Permits.{chore_permit}
use Rattle.dsql_engine_laws.specs.laws_steps.Groups.{most_events}
use Rattle.dsql_player.specs.Playing.{Playing, IsReady}

-- Holds if the permit is for the first of the layer's own calls, that call is under way, and there is room for
-- its events.
pub record IsToMake (p : Playing) (permit : Permit) : Type 0 where
  pub ready : IsReady (record p { chore = None })
  pub under_way : p.chore ≡ Some permit.conn
  pub room : length p.past < most_events
  pub first : chore_due p.past ≡ Some permit.conn
  pub leave : chore_permit p.past permit.conn ≡ Some permit

-- Holds if nothing changed, except perhaps which of the layer's own calls is under way.
pub record SameButChore (old mid : Playing) : Type 0 where
  pub past : mid.past ≡ old.past
  pub trimmed : mid.trimmed ≡ old.trimmed
  pub flights : mid.flights ≡ old.flights
  pub seats : mid.seats ≡ old.seats
  pub released : mid.released ≡ old.released

-- Holds if the first of the layer's own calls is under way and this is its permit. Also holds if the layer has no call
-- to make and nothing was done.
abbrev pub FindsChore : Option Permit → Playing → Playing → Type 0
FindsChore (Some permit) before after = IsToMake after permit
FindsChore None before after = (after ≡ before) × (chore_due before.past ≡ None)

-- Holds if the layer's own call was answered, and the answer fits at its place.
pub record IsAnswered (p : Playing) (e : Entry) : Type 0 where
  pub permit : Permit
  pub to_make : IsToMake p permit
  pub answer : e ≡ answered permit e.answer
  pub fits : fits_at_its_place (journal p.past e.conn) e ≡ true
