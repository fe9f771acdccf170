-- What the fleet records as a run begins, and which faults there were. The argument goes through the stops.
use Rattle.std.proofs.Common.{◌≡◌, true, false, [], ◌∷◌, ◌++◌, Option, Some, None, refl, ◌∙◌, ap, subst, inl, inr}
use Rattle.std.specs.Prelude.{Result, Ok, Err}
use Rattle.std.proofs.lemmas.List.{append-nil}
use Rattle.dsql_hall.specs.driver.declared.caps.Caps.{Caps}
use Rattle.dsql_hall.specs.driver.Wires.{FleetTold}
use Rattle.dsql_hall.specs.history.declared.event.Event.TheVariants.{Run}
use Rattle.dsql_hall.specs.player_wires.Told.{with_told}
use Rattle.dsql_script_source.specs.Stops.{is_read_fault, no_read_failed}
use Rattle.dsql_script_source.specs.declared.stop.Stop.{Stop}
use Rattle.dsql_script_source.specs.declared.stop.Stop.TheVariants.{Read, Write, Memory, Refused, Full}
use Rattle.dsql_run_outcome.specs.Runs.{ran_out, no_write_failed, is_write_fault, Finishes}

-- As a run begins, the fleet records what it recorded before.
pub none_told : (t : Option FleetTold) (caps : Caps) → with_told [] t (Run 1 caps ∷ []) ≡ t
none_told None caps = refl
none_told (Some told) caps =
    ap (λ cs. Some (record { connects = cs; plans = told.plans ++ []; retired = told.retired ++ []; wanted = told.wanted ++ [] })) (append-nil told.connects)
    ∙ ap (λ ps. Some (record { connects = told.connects; plans = ps; retired = told.retired ++ []; wanted = told.wanted ++ [] })) (append-nil told.plans)
    ∙ ap (λ rs. Some (record told { retired = rs; wanted = told.wanted ++ [] })) (append-nil told.retired)
    ∙ ap (λ ns. Some (record told { wanted = ns })) (append-nil told.wanted)

read_ran : (r : Result (Unit {0}) Stop) → no_read_failed r ≡ true → ran_out r ≡ true
read_ran (Ok done) h = refl
read_ran (Err (Refused number fault)) h = refl
read_ran (Err _) h = absurd (cc h)

write_ran : (r : Result (Unit {0}) Stop) → no_write_failed r ≡ true → ran_out r ≡ true
write_ran (Err Write) h = absurd (cc h)
write_ran (Err Memory) h = absurd (cc h)
write_ran (Err Full) h = absurd (cc h)
write_ran _ h = refl

-- If the last stop shows no failed read or write, none failed as the lines were played.
pub read_played : (played ended final : Result (Unit {0}) Stop) → (ran_out ended ≡ true → ended ≡ played) → Finishes ended final → no_read_failed final ≡ true → no_read_failed played ≡ true
read_played played ended final same (inl is) well =
    let e : no_read_failed ended ≡ true = subst (λ (r : Result (Unit {0}) Stop). no_read_failed r ≡ true) is well in
    subst (λ (r : Result (Unit {0}) Stop). no_read_failed r ≡ true) (same (read_ran ended e)) e
read_played played ended final same (inr (inl memory)) well = absurd (cc (subst (λ (r : Result (Unit {0}) Stop). no_read_failed r ≡ true) memory well))
read_played played ended final same (inr (inr write)) well = absurd (cc (subst (λ (r : Result (Unit {0}) Stop). no_read_failed r ≡ true) write.0 well))

pub written_played : (played ended final : Result (Unit {0}) Stop) → (ran_out ended ≡ true → ended ≡ played) → Finishes ended final → no_write_failed final ≡ true → no_write_failed played ≡ true
written_played played ended final same (inl is) well =
    let e : no_write_failed ended ≡ true = subst (λ (r : Result (Unit {0}) Stop). no_write_failed r ≡ true) is well in
    subst (λ (r : Result (Unit {0}) Stop). no_write_failed r ≡ true) (same (write_ran ended e)) e
written_played played ended final same (inr (inl memory)) well = absurd (cc (subst (λ (r : Result (Unit {0}) Stop). no_write_failed r ≡ true) memory well))
written_played played ended final same (inr (inr write)) well = absurd (cc (subst (λ (r : Result (Unit {0}) Stop). no_write_failed r ≡ true) write.0 well))

pub not_read : (r : Result (Unit {0}) Stop) → no_read_failed r ≡ true → is_read_fault r ≡ false
not_read (Err Read) h = absurd (cc h)
not_read _ h = refl

pub not_written : (r : Result (Unit {0}) Stop) → no_write_failed r ≡ true → is_write_fault r ≡ false
not_written (Err Write) h = absurd (cc h)
not_written _ h = refl
