-- Defines the effect of a driver call on a wire, of a request for a connection, and of planning a fault. It is
-- the same whether the journal's entries are kept or not.
use Rattle.std.specs.Prelude.{ℕ, ◌≡◌, ◌⊎◌, ◌+◌, ◌≤◌, ◌∷◌, [], true, false, Option, Result, IfOk, IfErr, IfSome, OnOk, OnErr, IsErrOf, is_some}
use Rattle.dsql_driver.specs.Fits.{is_done, is_fault}
use Rattle.dsql_driver.specs.Streams.{HasRisen}
use Rattle.dsql_driver.specs.Wires.{Plan, FleetTold, WireTold, connected_after, newly_told, planned_after, told_after}
use Rattle.dsql_driver.specs.declared.answer.DriverAnswer.TheVariants as answers
use Rattle.dsql_driver.specs.declared.call.DriverCall.{DriverCall}
use Rattle.dsql_driver.specs.declared.wire.Fleet as fleets
use Rattle.dsql_driver.specs.declared.wire.Wire as wires
use Rattle.dsql_tenure_journal.specs.HandlesAndCursors.{fits_at_its_place}
use Rattle.dsql_tenure_journal.specs.declared.entry.Entry.{Entry}
use Rattle.dsql_tenure_journal.specs.declared.entry.Permit.{Permit}
use Rattle.dsql_tenure.specs.Judged.{answered}
use Rattle.dsql_value.specs.declared.memory.Memory.{Memory}
use Rattle.dsql_wire.specs.Journaled.{Journaled, MayBeSent, permit_of}
use Rattle.dsql_wire.specs.Told.{TellsOf}
use Rattle.dsql_wire.specs.declared.fault.WireFault.{WireFault}
use Rattle.dsql_wire.specs.declared.fault.WireFault.TheVariants as faults

-- Holds if a wire's reports before and after a call show why it wanted memory. Either the driver was asked once and
-- answered Memory, or there was no room for an entry and the driver wasn't asked.
abbrev pub WantsMemory : DriverCall → ℕ → Option WireTold → Option WireTold → Type 0
WantsMemory call spare before after =
    (after ≡ told_after call answers.Memory before) ⊎ ((spare ≡ 0) × (after ≡ before))

-- Holds if a fleet's reports before and after a Connect show why it wanted memory. Either the fleet was asked once and
-- answered Memory, or it wasn't asked.
abbrev pub WantsConnect : ℕ → Option FleetTold → Option FleetTold → Type 0
WantsConnect number before after = (after ≡ connected_after number answers.Memory before) ⊎ (after ≡ before)

-- Holds if the journal's judge allowed the driver call and its answer made one entry, or the call failed and
-- left no entry. The driver is asked once at most. `entry_of` reads the entry from a successful result.
pub record Calls {A W : Type 0} (entry_of : A
    → Entry) (wire : wires.Ghosts W) (permit : Permit) (old new : Journaled W)
    (result : Result A WireFault) : Type 0 where
  pub entry : IfOk result (λ it. entry_of it ≡ answered permit (entry_of it).answer)
  pub fits : IfOk result (λ it. fits_at_its_place old.journal (entry_of it) ≡ true)
  pub noted : IfOk result (λ it. new.journal ≡ entry_of it ∷ old.journal)
  pub told : IfOk result (λ it. wire.told new.wire ≡ told_after permit.call (entry_of it).answer (wire.told old.wire))
  pub ok : OnOk result (MayBeSent old.conn old.journal permit)
  pub handed_back : IfErr result (λ fault. permit_of fault ≡ permit)
  pub stray : IsErrOf result (faults.Stray permit) → ¬ MayBeSent old.conn old.journal permit
  pub untouched : IsErrOf result (faults.Stray permit) → new ≡ old
  pub memory : IsErrOf result (faults.Memory permit) → MayBeSent old.conn old.journal permit
  pub err : OnErr result (new.journal ≡ old.journal)
  pub wants : IsErrOf result (faults.Memory permit)
      → WantsMemory permit.call old.spare (wire.told old.wire) (wire.told new.wire)
  pub spare : old.spare ≤ new.spare + 1
  pub conn : new.conn ≡ old.conn
  pub counted : wire.faults old.wire ≤ wire.faults new.wire
  pub caused : IfOk result (λ it. is_fault (entry_of it).answer ≡ true
      → HasRisen (wire.faults old.wire) (wire.faults new.wire))
  pub faultless : IfOk result (λ it. is_fault (entry_of it).answer ≡ false → wire.faults new.wire
      ≡ wire.faults old.wire)
  pub refused : OnErr result (wire.faults new.wire ≡ wire.faults old.wire)

-- Holds if the fleet was asked for a connection and its answer made one entry, or the request failed. The fleet is
-- asked once at most. `entry_of` and `wire_of` read the entry and the wire from a successful result; the wire's journal
-- is that entry alone.
pub record Opens {A F W : Type 0} (entry_of : A → Entry) (wire_of : A
    → Option (Journaled W)) (fleet : fleets.Ghosts F W) (heard : W
    → Option WireTold) (permit : Permit) (old new : F) (result : Result A WireFault) : Type 0 where
  pub entry : IfOk result (λ it. entry_of it ≡ answered permit (entry_of it).answer)
  pub fits : IfOk result (λ it. fits_at_its_place [] (entry_of it) ≡ true)
  pub wire : IfOk result (λ it. is_some (wire_of it) ≡ is_done (entry_of it).answer)
  pub conn : IfOk result (λ it. IfSome (wire_of it) (λ w. w.conn ≡ permit.conn))
  pub noted : IfOk result (λ it. IfSome (wire_of it) (λ w. w.journal ≡ entry_of it ∷ []))
  pub told : IfOk result (λ it. IfSome (wire_of it) (λ w. IfSome (heard w.wire) (λ told. told
      ≡ newly_told permit.conn)))
  pub telling : IfOk result (λ it. IfSome (wire_of it) (λ w. is_some (fleet.told old) ≡ true
      → is_some (heard w.wire) ≡ true))
  pub ok : OnOk result (MayBeSent permit.conn [] permit)
  pub handed_back : IfErr result (λ fault. permit_of fault ≡ permit)
  pub stray : IsErrOf result (faults.Stray permit) → ¬ MayBeSent permit.conn [] permit
  pub untouched : IsErrOf result (faults.Stray permit) → new ≡ old
  pub memory : IsErrOf result (faults.Memory permit) → MayBeSent permit.conn [] permit
  pub asked : IfOk result (λ it. fleet.told new ≡ connected_after permit.conn (entry_of it).answer (fleet.told old))
  pub wants : IsErrOf result (faults.Memory permit) → WantsConnect permit.conn (fleet.told old) (fleet.told new)
  pub ability : fleet.ability new ≡ fleet.ability old
  pub preferred : fleet.preferred new ≡ fleet.preferred old
  pub counted : fleet.faults old ≤ fleet.faults new
  pub caused : IfOk result (λ it. is_fault (entry_of it).answer ≡ true → HasRisen (fleet.faults old) (fleet.faults new))
  pub faultless : IfOk result (λ it. is_fault (entry_of it).answer ≡ false → fleet.faults new ≡ fleet.faults old)
  pub refused : OnErr result (fleet.faults new ≡ fleet.faults old)

-- Holds if a fault was planned on the wire, or there was no memory. If the wire reports its calls, its report
-- before was exactly its journal.
pub record PlansFault {W : Type 0} (wire : wires.Ghosts W) (plan : Plan) (old new : Journaled W)
    (result : Result (Unit {0}) Memory) : Type 0 where
  pub journal : new.journal ≡ old.journal
  pub conn : new.conn ≡ old.conn
  pub spare : new.spare ≡ old.spare
  pub told : OnOk result (wire.told new.wire ≡ planned_after plan (wire.told old.wire))
  pub exact : IfSome (wire.told old.wire) (TellsOf old.conn old.journal)
  pub err : OnErr result (wire.told new.wire ≡ wire.told old.wire)
  pub faultless : wire.faults new.wire ≡ wire.faults old.wire
