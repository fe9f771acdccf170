-- How a fleet goes along with the history of the house's bond. The argument is that each of the layer's driver calls
-- appends to the fleet's record what the history has of it.
use Rattle.std.proofs.Common.{◌≡◌, ◌≢◌, ℕ, Bool, true, false, List, [], ◌∷◌, Option, Some, None, refl, sym, ◌∙◌, ap, subst}
use Rattle.std.specs.Prelude.{Result, option_map, is_some, IfSome, OnOk}
use Rattle.dsql_hall_steps.specs.driver.Wires.{FleetTold, WireTold, connected_after, retired_after, with_connects, with_wanted_connect}
use Rattle.dsql_hall_steps.specs.driver.declared.answer.DriverAnswer.{DriverAnswer}
use Rattle.dsql_hall_steps.specs.driver.declared.answer.DriverAnswer.TheVariants.{Memory}
use Rattle.dsql_hall_steps.specs.driver.declared.wire.Fleet.{Ghosts}
use Rattle.dsql_hall_steps.specs.history.declared.event.Event.{Event}
use Rattle.dsql_hall_steps.specs.journal.declared.entry.Entry.{Entry}
use Rattle.dsql_hall_steps.specs.wire.Journaled.{Journaled}
use Rattle.dsql_hall_steps.specs.wire.Told.{TellsOf}
use Rattle.dsql_hall_steps.proofs.player.Ended.{on_ok2}
use Rattle.dsql_hall_steps.specs.player_wires.Made.{Made}
use Rattle.dsql_hall_steps.specs.player_wires.Told.{SameAbility, fleet_told, told_then}
use Rattle.dsql_hall_steps.specs.hall_bonds.Work.{Work}
use Rattle.dsql_hall_steps.specs.House.{IsOwn, TellsConnect, TellsShut}
use Rattle.dsql_hall.specs.Fleets.{GoesAlong, KeepsHouse, RecordsOn}

-- What is appended to a record leaves it a record.
still_some : (add : FleetTold → FleetTold) (told : Option FleetTold) → is_some (option_map add told) ≡ is_some told
still_some add None = refl
still_some add (Some told) = refl

connects_on : (c : ℕ) (answer : DriverAnswer) (told : Option FleetTold) → is_some (connected_after c answer told) ≡ is_some told
connects_on c Memory told = still_some (with_wanted_connect c) told
connects_on c answer told = still_some (with_connects ((c, answer) ∷ [])) told

retires_on : (c : ℕ) (wire : Option WireTold) (told : Option FleetTold) → (is_some told ≡ true → is_some wire ≡ true) → is_some (retired_after c wire told) ≡ is_some told
retires_on c (Some wire) (Some told) tells = refl
retires_on c (Some wire) None tells = refl
retires_on c None (Some told) tells = tells refl
retires_on c None None tells = refl

none_there : {A : Type 0} (it : Option A) → is_some it ≡ false → it ≡ None
none_there None none = refl
none_there (Some a) none = absurd cc

-- The house keeps its fleet when it asked for a connection, unless the run had stopped.
pub opened_keeps : {F W H : Type 0} (fleet : Ghosts F W) (made : List Made) (before after : F) (own now : Work) (e : Entry) (stopped : Option H) (cut : Bool) → IsOwn made now → SameAbility fleet before after
    → cut ≡ is_some stopped → fleet.told after ≡ connected_after e.conn e.answer (fleet.told before) → (stopped ≡ None → TellsConnect made own.past now.past e) → KeepsHouse fleet made before after own now cut
opened_keeps fleet made before after own now e stopped cut owned able is asked tells = record {
  own = owned;
  goes = λ uncut. record {
    told = λ first was. asked ∙ (ap (connected_after e.conn e.answer) was ∙ sym (tells (none_there stopped (sym is ∙ uncut)) first));
    telling = ap is_some asked ∙ connects_on e.conn e.answer (fleet.told before);
  };
  able = able;
}

-- What isn't asked can do what it could.
pub still_able : {F W : Type 0} (fleet : Ghosts F W) (now : F) → SameAbility fleet now now
still_able fleet now = record { ability = refl; preferred = refl }

-- If the run stopped at the driver call, nothing is known of what the fleet records.
pub cut_keeps : {F W : Type 0} (fleet : Ghosts F W) (made : List Made) (before after : F) (own now : Work) → IsOwn made now → SameAbility fleet before after → KeepsHouse fleet made before after own now true
cut_keeps fleet made before after own now owned able = record { own = owned; goes = λ uncut. absurd cc; able = able }

-- A wire comes back from a Shut only if the run goes on.
goes_on : {A H : Type 0} (stopped : Option H) (back : Option A) (wire : A) → back ≡ Some wire → (stopped ≢ None → back ≡ None) → stopped ≡ None
goes_on None back wire there stays = refl
goes_on (Some halt) back wire there stays = let gone : back ≡ None = stays (λ none. cc) in absurd cc

-- A fleet that keeps a record has the wire's record in it after the wire was given back. So the wire keeps one.
given_back : (c : ℕ) (wire : Option WireTold) (before after : FleetTold) → Some after ≡ retired_after c wire (Some before) → is_some wire ≡ true
given_back c (Some wire) before after is = refl
given_back c None before after is = absurd cc

wire_tells : {W : Type 0} (heard : W → Option WireTold) (telling : Bool) (made : List Made) (old new : List Event) (wire : Journaled W) → TellsShut heard telling made old new wire
    → IfSome (heard wire.wire) (TellsOf wire.conn wire.journal) → telling ≡ true → is_some (heard wire.wire) ≡ true
wire_tells heard telling made old new wire shuts exact tells =
    let first = fleet_told made old in
    given_back wire.conn (heard wire.wire) (told_then (fleet_told made old) first) (told_then (fleet_told made new) first) (shuts (Some first) (λ some. tells) exact)

shut_goes : {F W : Type 0} (fleet : Ghosts F W) (heard : W → Option WireTold) (telling : Bool) (made : List Made) (before after : F) (old new : List Event) (wire : Journaled W) (conn : ℕ) → is_some (fleet.told before) ≡ telling
    → wire.conn ≡ conn → TellsShut heard telling made old new wire → fleet.told after ≡ retired_after conn (heard wire.wire) (fleet.told before) → IfSome (heard wire.wire) (TellsOf wire.conn wire.journal)
    → GoesAlong fleet made before after old new
shut_goes fleet heard telling made before after old new wire conn is its shuts retired exact = record {
  told = λ first was.
      let same : is_some first ≡ telling = sym (ap is_some was ∙ still_some (told_then (fleet_told made old)) first) ∙ is in
      retired ∙ (ap (λ c. retired_after c (heard wire.wire) (fleet.told before)) (sym its) ∙ (ap (retired_after wire.conn (heard wire.wire)) was ∙ sym (shuts first (λ some. sym same ∙ some) exact)));
  telling = ap is_some retired ∙ retires_on conn (heard wire.wire) (fleet.told before) (λ some. wire_tells heard telling made old new wire shuts exact (sym is ∙ some));
}

-- The house keeps its fleet when it shut a connection and gave the wire back.
pub shut_keeps : {F W H : Type 0} (fleet : Ghosts F W) (heard : W → Option WireTold) (telling : Bool) (made : List Made) (before after : F) (first now : Work) (its : Journaled W) (stopped : Option H)
    (back : Option (Journaled W)) (wire : Journaled W) (conn : ℕ) → is_some (fleet.told before) ≡ telling → its.conn ≡ conn → IsOwn made now → (stopped ≡ None → TellsShut heard telling made first.past now.past its)
    → (stopped ≡ None → back ≡ Some its) → (stopped ≢ None → back ≡ None) → back ≡ Some wire → fleet.told after ≡ retired_after conn (heard wire.wire) (fleet.told before)
    → IfSome (heard wire.wire) (TellsOf wire.conn wire.journal) → SameAbility fleet before after → KeepsHouse fleet made before after first now false
shut_keeps {W = W} fleet heard telling made before after first now its stopped back wire conn is number owned tells comes stays there retired exact able =
    let on : stopped ≡ None = goes_on stopped back wire there stays in
    let here : back ≡ Some its = comes on in
    let same : its ≡ wire = cc in
    record {
      own = owned;
      goes = λ uncut.
          shut_goes fleet heard telling made before after first.past now.past wire conn is (ap (λ (w : Journaled W). w.conn) (sym same) ∙ number) (subst (λ (w : Journaled W). TellsShut heard telling made first.past now.past w) same (tells on))
          retired exact;
      able = able;
    }

-- Two ways of a fleet follow each other. The fleet is at its last value then.
along_then : {F W : Type 0} (fleet : Ghosts F W) (made : List Made) (before between after last : F) (old mid new : List Event) → GoesAlong fleet made before between old mid
    → RecordsOn made (fleet.told between) (fleet.told after) mid new → last ≡ after → RecordsOn made (fleet.told before) (fleet.told last) old new
along_then fleet made before between after last old mid new first second is = λ told was. ap fleet.told is ∙ second told (first.told told was)

pub able_then : {F W : Type 0} (fleet : Ghosts F W) (before between after last : F) → SameAbility fleet before between → SameAbility fleet between after → last ≡ after → SameAbility fleet before last
able_then fleet before between after last first second is = record {
  ability = ap fleet.ability is ∙ (second.ability ∙ first.ability);
  preferred = ap fleet.preferred is ∙ (second.preferred ∙ first.preferred);
}

-- What the fleet records from the begin of a race to the end of its run, which wasn't cut.
pub told_through : {F W A E : Type 0} (fleet : Ghosts F W) (made : List Made) (stopped : Result A E) (before between after last : F) (old own mid new : List Event) (cut : Bool)
    → (cut ≡ false → GoesAlong fleet made before between own mid) → OnOk stopped (cut ≡ false) → OnOk stopped (RecordsOn made (fleet.told between) (fleet.told after) mid new) → own ≡ old → last ≡ after
    → OnOk stopped (RecordsOn made (fleet.told before) (fleet.told last) old new)
told_through fleet made stopped before between after last old own mid new cut goes uncut told same is =
    on_ok2 stopped
    (λ whole more. subst (λ (past : List Event). RecordsOn made (fleet.told before) (fleet.told last) past new) same (along_then fleet made before between after last own mid new (goes whole) more is))
    uncut told

-- The house keeps its fleet over two of its steps, one after the other.
pub keeps_then : {F W : Type 0} (fleet : Ghosts F W) (made : List Made) (before between after : F) (first mid last : Work) (cut : Bool) → KeepsHouse fleet made before between first mid false → KeepsHouse fleet made between after mid last cut
    → KeepsHouse fleet made before after first last cut
keeps_then fleet made before between after first mid last cut one two = record {
  own = two.own;
  goes = λ uncut.
      let a = one.goes refl in
      let b = two.goes uncut in
      record { told = along_then fleet made before between after after first.past mid.past last.past a b.told refl; telling = b.telling ∙ a.telling };
  able = able_then fleet before between after after one.able two.able refl;
}

-- A house that did nothing keeps its fleet.
pub keeps_still : {F W : Type 0} (fleet : Ghosts F W) (made : List Made) (before : F) (first : Work) (cut : Bool) → IsOwn made first → KeepsHouse fleet made before before first first cut
keeps_still fleet made before first cut owned = record {
  own = owned;
  goes = λ uncut. record { told = λ told was. was; telling = refl };
  able = still_able fleet before;
}
