-- Driver calls that fail, and wires whose entries are kept. A failure says nothing about the answer's type, so it
-- carries over from one type to another. Only a wire's room depends on whether the entries are kept.
use Rattle.std.proofs.Common.{◌≡◌, ℕ, Option, inl, inr, refl, ap, subst, Result, Ok, Err}
use Rattle.std.proofs.Math.Nat.{le_refl}
use Rattle.std.specs.Result.{IsErrOf}
use native.Mathlib.Omega.{arith}
use Rattle.dsql_driver.specs.Wires.{WireTold}
use Rattle.dsql_driver.specs.declared.call.DriverCall.{DriverCall}
use Rattle.dsql_driver.specs.declared.wire.Wire.{Ghosts}
use Rattle.dsql_tenure_journal.specs.declared.entry.Entry.{Entry}
use Rattle.dsql_tenure_journal.specs.declared.entry.Permit.{Permit}
use Rattle.dsql_wire.specs.Calling.{Calls, WantsMemory}
use Rattle.dsql_wire.specs.Journaled.{Journaled, MayBeSent, keeping}
use Rattle.dsql_wire.specs.declared.fault.WireFault.{WireFault}
use Rattle.dsql_wire.specs.declared.fault.WireFault.TheVariants.{Stray}

-- A call that the judge lets nobody send fails as stray and changes nothing.
pub refused : {A W : Type 0} (f : A → Entry) (wire : Ghosts W) (p : Permit) (old : Journaled W) → ¬ MayBeSent old.conn old.journal p → Calls f wire p old old (Err (Stray p))
refused f wire p old may_not = record {
  entry = tt;
  fits = tt;
  noted = tt;
  told = tt;
  ok = tt;
  handed_back = refl;
  stray = λ it. may_not;
  untouched = λ it. refl;
  memory = λ it. cc;
  err = refl;
  wants = λ it. cc;
  spare = omega arith;
  conn = refl;
  counted = le_refl _;
  caused = tt;
  faultless = tt;
  refused = refl;
}

-- Returns the fault of a result, or the other fault if the result is no error.
fault_or : {A : Type 0} → WireFault → Result A WireFault → WireFault
fault_or other (Ok it) = other
fault_or other (Err fault) = fault

-- A result that fails with this fault fails with it whatever the type of its answer is.
same_fault : {A B : Type 0} (fault other : WireFault) → IsErrOf {T = B} {E = WireFault} (Err fault) other → IsErrOf {T = A} {E = WireFault} (Err fault) other
unfolding fault_or
same_fault fault other is = ap Err (ap (fault_or fault) is)

-- A call may want memory if there is no room, whatever room there was.
wants_anyway : (call : DriverCall) (spare : ℕ) (before after : Option WireTold) → WantsMemory call spare before after → WantsMemory call 0 before after
wants_anyway call spare before after h = elim h [ inl asked ↦ inl asked | inr full ↦ inr (refl, full.1) ]

-- A call that failed on a wire meets the contract of a failed call if the wire's entries are kept. The type of its answer
-- doesn't matter.
pub failed : {A B W : Type 0} (f : A → Entry) (g : B → Entry) (wire : Ghosts W) (p : Permit) (old thin new : Journaled W) (fault : WireFault) → keeping thin ≡ old → Calls f wire p thin new (Err fault)
    → Calls g wire p old (keeping new) (Err fault)
failed f g wire p old thin new fault same calls =
    subst (λ (j : Journaled _). Calls g wire p j (keeping new) (Err fault)) same (record {
      entry = tt;
      fits = tt;
      noted = tt;
      told = tt;
      ok = tt;
      handed_back = calls.handed_back;
      stray = λ it. calls.stray (same_fault _ _ it);
      untouched = λ it. ap (λ (j : Journaled _). keeping j) (calls.untouched (same_fault _ _ it));
      memory = λ it. calls.memory (same_fault _ _ it);
      err = calls.err;
      wants = λ it. wants_anyway p.call thin.spare (wire.told thin.wire) (wire.told new.wire) (calls.wants (same_fault _ _ it));
      spare = omega arith;
      conn = calls.conn;
      counted = calls.counted;
      caused = tt;
      faultless = tt;
      refused = calls.refused;
    })
