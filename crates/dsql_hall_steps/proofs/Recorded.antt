-- What the fleet records as the house opens and shuts connections. The argument adds what was asked of it to its record of
-- the history before.
use Rattle.std.proofs.Common.{◌≡◌, ℕ, Bool, true, false, cond, List, [], ◌∷◌, Option, Some, None, is_some, refl, ap, sym, subst, ◌∙◌, append_assoc}
use Rattle.std.specs.Prelude.{IfSome, option_map}
use Rattle.dsql_engine_laws.specs.driver.Fits.{is_memory}
use Rattle.dsql_engine_laws.specs.driver.Kinds.{is_connect, is_shut}
use Rattle.dsql_engine_laws.specs.driver.declared.answer.DriverAnswer.{DriverAnswer}
use Rattle.dsql_engine_laws.specs.driver.declared.answer.DriverAnswer.TheVariants.{Memory}
use Rattle.dsql_engine_laws.specs.driver.Wires.{FleetTold, WireTold, connected_after, retired_after, with_connects, with_retired}
use Rattle.dsql_engine_laws.specs.journal.declared.entry.Entry.{Entry}
use Rattle.dsql_engine_laws.specs.history.declared.event.Event.{Event}
use Rattle.dsql_engine_laws.specs.history.Readers.Journals.{journal}
use Rattle.dsql_engine_laws.specs.wire.Journaled.{Journaled}
use Rattle.dsql_engine_laws.specs.wire.Told.{TellsOf}
use Rattle.dsql_wire.proofs.Answered.{makes}
use Rattle.dsql_player_wires.specs.Made.{Made, aside_on}
use Rattle.dsql_player_wires.specs.Told.{fleet_told, tells_of, told_then, with_told}
use Rattle.dsql_player_wires.specs.WiresFit.{RecordsAside}
use Rattle.dsql_player_wires.proofs.Journals.{shut_only}
use Rattle.dsql_player_wires.proofs.Reading.{told_whole}
use Rattle.dsql_player_wires.proofs.Telling.{HasTold, gives_none}
use Rattle.dsql_player.proofs.Answering.{entry_conn}
use Rattle.dsql_hall_steps.specs.Errands.{Brought, IsBack}
use Rattle.dsql_hall_steps.specs.House.{IsShutting, TellsConnect, TellsShut}
use Rattle.dsql_hall_steps.specs.Openings.{Found, IsFound}
use Rattle.dsql_hall_steps.proofs.ChoreAnswered.{FleetGoesOn}

-- A Connect was answered.

asked_more : (c : ℕ) (a : DriverAnswer) (more : FleetTold) (first : Option FleetTold) → is_memory a ≡ false
    → option_map (told_then (with_connects ((c, a) ∷ []) more)) first ≡ connected_after c a (option_map (told_then more) first)
asked_more c Memory more first no_want = absurd cc
asked_more c _ more None no_want = refl
asked_more c a more (Some told) no_want = ap (λ cs. Some (record (told_then more told) { connects = cs })) (sym (append_assoc told.connects more.connects ((c, a) ∷ [])))

connected : (made : List Made) (before after : List Event) (e : Entry) (entries : List Entry) → is_connect e.call ≡ true → FleetGoesOn made before after e entries
    → fleet_told made after ≡ with_connects ((e.conn, e.answer) ∷ []) (fleet_told made before)
connected made before after e entries connects goes =
    let told = fleet_told made before in
    let aside = aside_on made e.conn in
    goes.told
    ∙ ap (λ b. cond b (with_connects ((e.conn, e.answer) ∷ []) told) (cond (is_shut e.call) (with_retired ((e.conn, tells_of e.conn aside (e ∷ entries)) ∷ []) told) told)) connects

pub opening_tells : {W : Type 0} (heard : W → Option WireTold) (telling : Bool) (made : List Made) (it : Found W) (before after : List Event) (entries : List Entry) → IsFound heard telling made it
    → FleetGoesOn made before after it.entry entries → TellsConnect made before after it.entry
opening_tells heard telling made it before after entries found goes = λ first.
    let e = it.entry in
    let connects : is_connect e.call ≡ true = ap is_connect (makes it.work.permit e.answer e found.answers.entry).call ∙ found.opening.connects in
    ap (λ more. option_map (told_then more) first) (connected made before after e entries connects goes)
    ∙ asked_more e.conn e.answer (fleet_told made before) first found.answers.no_want

-- A Shut was answered.

gone_more : (c : ℕ) (its : Option WireTold) (all : WireTold) (more : FleetTold) (first : Option FleetTold) → HasTold (is_some first) its all
    → option_map (told_then (with_retired ((c, all) ∷ []) more)) first ≡ retired_after c its (option_map (told_then more) first)
gone_more c its all more None has = sym (gives_none c its)
gone_more c None all more (Some told) has = let some : false ≡ true = has.tells refl in absurd cc
gone_more c (Some it) all more (Some told) has =
    rw (has.exactly) (ap (λ rs. Some (record (told_then more told) { retired = rs })) (sym (append_assoc told.retired more.retired ((c, all) ∷ []))))

shut_so : (made : List Made) (before after : List Event) (e : Entry) (entries : List Entry) → is_shut e.call ≡ true → FleetGoesOn made before after e entries
    → fleet_told made after ≡ with_retired ((e.conn, tells_of e.conn (aside_on made e.conn) (e ∷ entries)) ∷ []) (fleet_told made before)
shut_so made before after e entries shuts goes =
    let told = fleet_told made before in
    let retired = with_retired ((e.conn, tells_of e.conn (aside_on made e.conn) (e ∷ entries)) ∷ []) told in
    goes.told
    ∙ (ap (λ b. cond b (with_connects ((e.conn, e.answer) ∷ []) told) (cond (is_shut e.call) retired told)) (shut_only e.call shuts)
    ∙ ap (λ b. cond b retired told) shuts)

pub shut_tells : {W : Type 0} (heard : W → Option WireTold) (telling : Bool) (made : List Made) (back : Brought W) (before after : List Event) → IsBack heard telling made back → IsShutting back.work
    → FleetGoesOn made before after back.entry (journal back.work.past back.entry.conn) → TellsShut heard telling made before after back.wire
shut_tells {W} heard telling made back before after brought shutting goes = λ first tells exact.
    subst (λ c. with_told made first after ≡ retired_after c (heard wire.wire) (with_told made first before)) (sym at)
    (ap (λ more. option_map (told_then more) first) (shut_so made before after e entries shuts goes)
    ∙ gone_more e.conn (heard wire.wire) all (fleet_told made before) first (has_told first tells exact))
  where
    e : Entry
    e = back.entry

    wire : Journaled W
    wire = back.wire

    on_it : e.conn ≡ back.work.permit.conn
    on_it = entry_conn back.work.permit e brought.entry

    at : wire.conn ≡ e.conn
    at = brought.wire.conn ∙ sym on_it

    shuts : is_shut e.call ≡ true
    shuts = ap is_shut (makes back.work.permit e.answer e brought.entry).call ∙ shutting.shuts

    entries : List Entry
    entries = journal back.work.past e.conn

    all : WireTold
    all = tells_of e.conn (aside_on made e.conn) (e ∷ entries)

    its_journal : wire.journal ≡ e ∷ entries
    its_journal = brought.journal ∙ ap (λ c. e ∷ journal back.work.past c) (sym on_it)

    has_told : (first : Option FleetTold) → (is_some first ≡ true → telling ≡ true) → IfSome (heard wire.wire) (TellsOf wire.conn wire.journal) → HasTold (is_some first) (heard wire.wire) all
    has_told first tells exact = record {
      exactly =
          told_whole (heard wire.wire) e.conn (aside_on made e.conn) (e ∷ entries)
          (subst (λ c. IfSome (heard wire.wire) (TellsOf c (e ∷ entries))) at (subst (λ j. IfSome (heard wire.wire) (TellsOf wire.conn j)) its_journal exact))
          (subst (λ c. RecordsAside heard (aside_on made c) (Some wire)) (sym on_it) brought.wire.plans);
      tells = λ some. brought.wire.tells (tells some);
    }
