-- The layer shut a connection and gave its wire back. The argument empties the wire's slot and shows that the
-- wires and the fleet fit the new history.
use Rattle.std.proofs.Common.{◌≡◌, ℕ, Bool, true, List, [], ◌∷◌, ◌++◌, Option, None, is_some, refl, sym, subst, set}
use Rattle.std.specs.Prelude.{Result, Ok, Err, OnOk, OnErr}
use Rattle.std.specs.List.{list_all}
use Rattle.dsql_engine_laws.specs.driver.Kinds.{is_shut}
use Rattle.dsql_engine_laws.specs.driver.Wires.{WireTold, FleetTold}
use Rattle.dsql_engine_laws.specs.driver.declared.wire.Fleet.{Ghosts}
use Rattle.dsql_engine_laws.specs.journal.declared.entry.Entry.{Entry}
use Rattle.dsql_engine_laws.specs.journal.declared.entry.Permit.{Permit}
use Rattle.dsql_engine_laws.specs.history.declared.event.Event.{Event}
use Rattle.dsql_engine_laws.specs.history.declared.event.Event.TheVariants.{Heard}
use Rattle.dsql_engine_laws.specs.history.Legal.{Legal}
use Rattle.dsql_engine_laws.specs.wire.Journaled.{Journaled}
use Rattle.dsql_player_wires.specs.Stopped.{RecordsAtMost, RecordsJournal}
use Rattle.dsql_player_wires.specs.Told.{FleetTells, SameAbility, hears_nothing, retired_slot}
use Rattle.dsql_player_wires.specs.WiresFit.{WiresFit, slot}
use Rattle.dsql_player_wires.proofs.Asking.{gone_fits, gone_tells}
use Rattle.dsql_player_wires.proofs.Stopped.{shut_untaken}
use Rattle.dsql_player.specs.declared.halt.Halt.{Halt}
use Rattle.dsql_player.specs.Acts.{TakesAnswer}
use Rattle.dsql_player.specs.Carried.{KeepsRun}
use Rattle.dsql_player.specs.Playing.{Playing}
use Rattle.dsql_player.proofs.Grouped.{Grouped}
use Rattle.dsql_player.proofs.Hearing.{all_quiet, answer_grown}
use Rattle.dsql_player.proofs.Housekeeping.{answer_may_come}
use Rattle.dsql_player.proofs.Keeping.{run_stops_there}
use Rattle.dsql_player.proofs.Taken.{taken_group, taken_ready}
use Rattle.dsql_player.proofs.Tidied.{AsksWire}

-- Holds if the wire was given back, and it records exactly its journal.
pub record GivesBack {F W : Type 0} (fleet : Ghosts F W) (heard : W → Option WireTold) (conn : ℕ) (before after : F) (was now : List (Option (Journaled W))) : Type 0 where
  pub slots : now ≡ set was conn None
  pub told : fleet.told after ≡ retired_slot heard conn (slot was conn) (fleet.told before)
  pub exact : RecordsJournal heard (slot was conn)
  pub able : SameAbility fleet before after

pub shut_run : {A F W : Type 0} (fleet : Ghosts F W) (heard : W → Option WireTold) (result : Result A Halt) (before after : F) (permit : Permit) (e : Entry) (p now : Playing) (old mid new : List (Option (Journaled W)))
    → is_shut permit.call ≡ true → WiresFit heard (is_some (fleet.told before)) p.past old → AsksWire heard permit e p old mid → GivesBack fleet heard permit.conn before after mid new
    → OnOk result (TakesAnswer permit e p now) → OnErr result (now.past ≡ p.past) → Legal now.past → KeepsRun fleet heard result before after p now old new
shut_run fleet heard (Ok x) before after permit e p now old mid new shuts fit asks gone takes same legal =
    let g : Grouped p.past now.past (Heard e) 0 = taken_group permit e p now asks.to_make takes in
    let more : List Event = g.group.more in
    let quiet : list_all hears_nothing more ≡ true = all_quiet 0 more g.group.later in
    let grown : now.past ≡ more ++ Heard e ∷ p.past = answer_grown p.past now.past e 0 g in
    let retired : FleetTells heard [] (fleet.told before) (retired_slot heard permit.conn (slot mid permit.conn) (fleet.told before)) p.past (more ++ Heard e ∷ p.past) old new =
    gone_tells heard permit e more p.past old mid new (fleet.told before) asks.performs shuts gone.slots gone.exact quiet fit in
    let tells : FleetTells heard [] (fleet.told before) (fleet.told after) p.past now.past old new =
    subst (λ (H : List Event). FleetTells heard [] (fleet.told before) (fleet.told after) p.past H old new) (sym grown)
    (subst (λ (told : Option FleetTold). FleetTells heard [] (fleet.told before) told p.past (more ++ Heard e ∷ p.past) old new) (sym gone.told) retired) in
    let fits : WiresFit heard (is_some (fleet.told before)) now.past new =
    subst (λ (H : List Event). WiresFit heard (is_some (fleet.told before)) H new) (sym grown)
    (gone_fits heard (is_some (fleet.told before)) permit e more p.past old mid new asks.performs shuts gone.slots quiet fit) in
    record {
      ready = taken_ready permit e p now asks.to_make takes;
      told = tells;
      asked = tt;
      wires = subst (λ (telling : Bool). WiresFit heard telling now.past new) (sym tells.telling) fits;
      able = gone.able;
      legal = legal;
    }
shut_run fleet heard (Err halt) before after permit e p now old mid new shuts fit asks gone takes same legal =
    run_stops_there [] fleet heard (Err halt) before after p now old new refl same
    (subst (λ (told : Option FleetTold). RecordsAtMost heard [] (fleet.told before) told p.past p.past old new) (sym gone.told)
    (shut_untaken heard permit e p.past old mid new (fleet.told before) asks.performs shuts gone.slots gone.exact (answer_may_come p e asks.answered) fit))
    gone.able legal
