-- What a step of the player appends: its first event, and what comes of that. The argument looks at a free
-- moment with the same history.
use Rattle.std.proofs.Common.{◌≡◌, ◌≢◌, ◌<◌, ◌+◌, ◌⊎◌, inl, inr, ℕ, true, false, List, [], ◌∷◌, ◌++◌, length, refl, ap, ◌∙◌, arith, length-append}
use Rattle.dsql_engine_laws.specs.journal.declared.entry.Entry.{Entry}
use Rattle.dsql_engine_laws.specs.journal.Readers.{is_empty}
use Rattle.dsql_engine_laws.specs.history.declared.event.Event.{Event}
use Rattle.dsql_engine_laws.specs.history.declared.event.Event.TheVariants.{Entered, Heard, Ended}
use Rattle.dsql_engine_laws.specs.history.declared.event.Op.{Op}
use Rattle.dsql_engine_laws.specs.history.declared.event.Control.{Control}
use Rattle.dsql_engine_laws.specs.history.Readers.Calls.{next_call}
use Rattle.dsql_engine_laws.specs.history.Readers.Controls.{told_after}
use Rattle.dsql_engine_laws.specs.history.Readers.Owed.{owed}
use Rattle.dsql_engine_laws.specs.history.Readers.Pool.{place}
use Rattle.dsql_engine_laws.specs.history.Rules.Flights.{permitted}
use Rattle.dsql_engine_laws.specs.history.Rules.Settled.{Settled}
use Rattle.dsql_engine_laws.specs.history.Rules.Stands.{stand}
use Rattle.dsql_engine_laws.specs.history.Legal.{Lawful}
use Rattle.dsql_engine_laws.proofs.laws.Tests.{other_number}
use Rattle.dsql_engine_laws.specs.follows.Moments.{Moment}
use Rattle.dsql_engine_laws.specs.laws_steps.Groups.{after_end, after_enter, after_heard, after_control, gone_on, IsGroup}
use Rattle.dsql_engine_laws.specs.laws_steps.Steps.{IsAtRest, MakesStep, GoesByItself, RestsAlone, goes_by_itself}
use Rattle.dsql_engine_laws.proofs.laws_steps.Groups.{end_is_one, enter_is_one, goes_on_by_one, heard_is_one, control_is_one}
use Rattle.dsql_engine_laws.proofs.laws_ends.Resting.{rests_alone}
use Rattle.dsql_engine_laws.proofs.Later.{heard_later, lawful_older}
use Rattle.dsql_engine_laws.proofs.laws_steps.Later.{step_is_group}
use Rattle.dsql_engine_laws.proofs.laws_steps.Permits.{permitted_twice}

-- Holds if one history goes on from another by a step of call n that begins with this event.
pub record Grouped (past history : List Event) (first : Event) (n : ℕ) : Type 0 where
  pub events : List Event
  pub grown : history ≡ events ++ past
  pub group : IsGroup first n events

-- What a step appends depends on the history alone, so any free moment of that history shows it.

abbrev free : List Event → Moment
free past = record { past = past; stepper = 0; flights = permitted 0 (stand past 0) []; lines = []; released = false }

free_rests : (past : List Event) → IsAtRest (free past)
free_rests past = ap (λ flights. record (free past) { flights = flights }) (permitted_twice 0 (stand past 0) [])

pub grouped_by : (m : Moment) (first : Event) (n : ℕ) (history : List Event) → MakesStep m first n history → Grouped m.past history first n
grouped_by m first n history s = record { events = s.events; grown = s.group; group = step_is_group m first n s.events s.step }

pub enters_grouped : (past : List Event) (client : ℕ) (op : Op) → Grouped past (after_enter past client op) (Entered client (next_call past) op) (next_call past)
enters_grouped past client op = grouped_by (free past) (Entered client (next_call past) op) (next_call past) (after_enter past client op) (enter_is_one (free past) client op (free_rests past))

-- No call other than its own rests with the connection of an answer.
pub hears_alone : (past : List Event) (e : Entry) → Lawful (after_heard past e) → RestsAlone past e
hears_alone past e l = rests_alone past e (lawful_older e.call_no (Heard e ∷ past) (after_heard past e) (heard_later past e (place past e.conn)) l)

pub hears_grouped : (past : List Event) (e : Entry) → Lawful (after_heard past e) → Grouped past (after_heard past e) (Heard e) e.call_no
hears_grouped past e l = grouped_by (free past) (Heard e) e.call_no (after_heard past e) (heard_is_one (free past) e (free_rests past) (hears_alone past e l))

pub control_grouped : (past : List Event) (control : Control) → Grouped past (after_control past control) (told_after past control) 0
control_grouped past control = grouped_by (free past) (told_after past control) 0 (after_control past control) (control_is_one (free past) control (free_rests past))

pub ends_grouped : (past : List Event) → Grouped past (after_end past) Ended 0
ends_grouped past = grouped_by (free past) Ended 0 (after_end past) (end_is_one (free past) (free_rests past))

-- Holds if a call went on by itself, and something came of it.
pub record GoneOn (past history : List Event) (n : ℕ) : Type 0 where
  pub first : Event
  pub itself : goes_by_itself n first ≡ true
  pub grouped : Grouped past history first n

pub none_owed : (past : List Event) → Settled past → owed past ≡ []
none_owed past settled = by (owed past) (owed past) refl settled.nothing_owed
  where
    by : {X : Type 0} (xs ys : List X) → xs ≡ ys → is_empty ys ≡ true → xs ≡ []
    by xs [] is h = is
    by xs (y ∷ ys) is h = absurd cc

pub goes_grouped : (past : List Event) (n : ℕ) → n ≢ 0 → Settled past → (gone_on n past ≡ past) ⊎ GoneOn past (gone_on n past) n
goes_grouped past n some settled = by (goes_on_by_one (free past) n (free_rests past) (none_owed past settled) (other_number n 0 some))
  where
    by : (gone_on n past ≡ past) ⊎ GoesByItself (free past) n (gone_on n past) → (gone_on n past ≡ past) ⊎ GoneOn past (gone_on n past) n
    by (inl same) = inl same
    by (inr more) = inr (record { first = more.first; itself = more.itself; grouped = grouped_by (free past) more.first n (gone_on n past) more.step })

-- A step has at least one event.
pub grows : (past history : List Event) (first : Event) (n : ℕ) → Grouped past history first n → length past < length history
grows past history first n g =
    let whole : length history ≡ length g.events + length past = ap length g.grown ∙ length-append g.events past in
    let more : length g.events ≡ length g.group.more + 1 = ap length g.group.whole ∙ length-append g.group.more (first ∷ []) in
    omega (arith, whole, more)
