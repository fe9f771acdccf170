-- The layer opened a connection. The argument puts the new wire in its slot and shows that the wires and the
-- fleet fit the new history.
use Rattle.std.proofs.Common.{◌≡◌, ◌≢◌, ℕ, Bool, true, List, [], ◌∷◌, ◌++◌, Option, is_some, refl, sym, subst}
use Rattle.std.specs.Prelude.{Result, Ok, Err, OnOk, OnErr}
use Rattle.std.specs.List.{list_all}
use Rattle.dsql_engine_laws.specs.driver.Kinds.{is_connect}
use Rattle.dsql_engine_laws.specs.driver.Wires.{WireTold, FleetTold, connected_after}
use Rattle.dsql_engine_laws.specs.driver.declared.wire.Fleet.{Ghosts}
use Rattle.dsql_engine_laws.specs.journal.declared.entry.Entry.{Entry}
use Rattle.dsql_engine_laws.specs.journal.declared.entry.Permit.{Permit}
use Rattle.dsql_engine_laws.specs.history.declared.event.Event.{Event}
use Rattle.dsql_engine_laws.specs.history.declared.event.Event.TheVariants.{Heard}
use Rattle.dsql_engine_laws.specs.history.Readers.Journals.{journal}
use Rattle.dsql_engine_laws.specs.history.Legal.{Legal}
use Rattle.dsql_engine_laws.specs.wire.Journaled.{Journaled}
use Rattle.dsql_player_wires.specs.Asked.{Answers, Connects}
use Rattle.dsql_player_wires.specs.Stopped.{RecordsAtMost}
use Rattle.dsql_player_wires.specs.Told.{FleetTells, SameAbility, hears_nothing}
use Rattle.dsql_player_wires.specs.Made.{no_aside}
use Rattle.dsql_player_wires.specs.WiresFit.{OpensWire, RecordsAside, WiresFit, slot}
use Rattle.dsql_player_wires.proofs.Asking.{connect_fits, connected_fits, connected_tells}
use Rattle.dsql_player_wires.proofs.Stopped.{connect_untaken}
use Rattle.dsql_player.specs.declared.halt.Halt.{Halt}
use Rattle.dsql_player.specs.Acts.{TakesAnswer}
use Rattle.dsql_player.specs.Carried.{KeepsRun}
use Rattle.dsql_player.specs.Chores.{IsAnswered, IsToMake}
use Rattle.dsql_player.specs.Playing.{Playing}
use Rattle.dsql_player.proofs.Grouped.{Grouped}
use Rattle.dsql_player.proofs.Hearing.{all_quiet, answer_grown}
use Rattle.dsql_player.proofs.Housekeeping.{answer_may_come, made_so}
use Rattle.dsql_player.proofs.Keeping.{run_stops_there}
use Rattle.dsql_player.proofs.Taken.{taken_group, taken_ready}

-- Holds if the fleet was asked for a connection, and its wire is in its slot.
pub record AsksFleet {F W : Type 0} (fleet : Ghosts F W) (heard : W → Option WireTold) (permit : Permit) (e : Entry) (before after : F) (slots now : List (Option (Journaled W))) : Type 0 where
  pub answers : Answers permit [] e
  pub others : (c : ℕ) → c ≢ permit.conn → slot now c ≡ slot slots c
  pub wire : OpensWire heard (is_some (fleet.told before)) e (slot now permit.conn)
  pub unplanned : RecordsAside heard no_aside (slot now permit.conn)
  pub told : fleet.told after ≡ connected_after permit.conn e.answer (fleet.told before)
  pub able : SameAbility fleet before after

-- The answer to the layer's Connect may be taken in.
pub connect_answered : (p : Playing) (permit : Permit) (e : Entry) → IsToMake p permit → is_connect permit.call ≡ true → Answers permit [] e → IsAnswered p e
connect_answered p permit e it opens answers = record {
  permit = permit;
  to_make = it;
  answer = answers.entry;
  fits = connect_fits p.past permit e ((made_so p permit it).first opens).1 answers;
}

pub opened_run : {A F W : Type 0} (fleet : Ghosts F W) (heard : W → Option WireTold) (result : Result A Halt) (before after : F) (permit : Permit) (e : Entry) (p now : Playing) (old new : List (Option (Journaled W)))
    → IsToMake p permit → is_connect permit.call ≡ true → WiresFit heard (is_some (fleet.told before)) p.past old → AsksFleet fleet heard permit e before after old new → IsAnswered p e
    → OnOk result (TakesAnswer permit e p now) → OnErr result (now.past ≡ p.past) → Legal now.past → KeepsRun fleet heard result before after p now old new
opened_run fleet heard (Ok x) before after permit e p now old new it opens fit asks answered takes same legal =
    let g : Grouped p.past now.past (Heard e) 0 = taken_group permit e p now it takes in
    let more : List Event = g.group.more in
    let quiet : list_all hears_nothing more ≡ true = all_quiet 0 more g.group.later in
    let grown : now.past ≡ more ++ Heard e ∷ p.past = answer_grown p.past now.past e 0 g in
    let nothing : journal p.past permit.conn ≡ [] = ((made_so p permit it).first opens).1 in
    let connects : Connects heard (is_some (fleet.told before)) permit e old new = record { entry = asks.answers.entry; others = asks.others; wire = asks.wire; unplanned = asks.unplanned } in
    let connected : FleetTells heard [] (fleet.told before) (connected_after permit.conn e.answer (fleet.told before)) p.past (more ++ Heard e ∷ p.past) old new =
    connected_tells heard (is_some (fleet.told before)) permit e more p.past old new (fleet.told before) connects asks.answers.no_want opens nothing quiet in
    let tells : FleetTells heard [] (fleet.told before) (fleet.told after) p.past now.past old new =
    subst (λ (H : List Event). FleetTells heard [] (fleet.told before) (fleet.told after) p.past H old new) (sym grown)
    (subst (λ (told : Option FleetTold). FleetTells heard [] (fleet.told before) told p.past (more ++ Heard e ∷ p.past) old new) (sym asks.told) connected) in
    let fits : WiresFit heard (is_some (fleet.told before)) now.past new =
    subst (λ (H : List Event). WiresFit heard (is_some (fleet.told before)) H new) (sym grown)
    (connected_fits heard (is_some (fleet.told before)) permit e more p.past old new connects opens nothing quiet fit) in
    record {
      ready = taken_ready permit e p now it takes;
      told = tells;
      asked = tt;
      wires = subst (λ (telling : Bool). WiresFit heard telling now.past new) (sym tells.telling) fits;
      able = asks.able;
      legal = legal;
    }
opened_run fleet heard (Err halt) before after permit e p now old new it opens fit asks answered takes same legal =
    let nothing : journal p.past permit.conn ≡ [] = ((made_so p permit it).first opens).1 in
    let connects : Connects heard (is_some (fleet.told before)) permit e old new = record { entry = asks.answers.entry; others = asks.others; wire = asks.wire; unplanned = asks.unplanned } in
    run_stops_there [] fleet heard (Err halt) before after p now old new refl same
    (subst (λ (told : Option FleetTold). RecordsAtMost heard [] (fleet.told before) told p.past p.past old new) (sym asks.told)
    (connect_untaken heard permit e p.past old new (fleet.told before) connects asks.answers.no_want opens nothing (answer_may_come p e answered) fit))
    asks.able legal
