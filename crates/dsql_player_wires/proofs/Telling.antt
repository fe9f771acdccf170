-- What a fleet records adds up as a history goes on. The argument appends to its record what each step adds.
use Rattle.std.proofs.Common.{◌≡◌, ℕ, Bool, true, false, List, [], ◌∷◌, ◌++◌, Option, Some, None, refl, sym, ◌∙◌, ap, subst, append_assoc}
use Rattle.std.specs.Prelude.{option_map, is_some, IfSome}
use Rattle.dsql_history.specs.driver.Fits.{is_memory}
use Rattle.dsql_history.specs.driver.Wires.{WireTold, FleetTold, RetiredWire, with_connects, with_retired, with_wanted_connect, connected_after, retired_after}
use Rattle.dsql_history.specs.driver.declared.answer.DriverAnswer.{DriverAnswer}
use Rattle.dsql_history.specs.driver.declared.answer.DriverAnswer.TheVariants.{Memory}
use Rattle.dsql_history.specs.declared.event.Event.{Event}
use Rattle.dsql_player_wires.specs.Made.{Made, WantedConnect}
use Rattle.dsql_player_wires.specs.Told.{fleet_told, FleetTells, TellsJust, told_then}
use Rattle.dsql_player_wires.specs.WiresFit.{KeepsPlans, PlansFit}
use Rattle.dsql_wire.specs.Journaled.{Journaled}

-- Holds if the wire records exactly this if it keeps a record, and keeps one if all wires do.
pub record HasTold (telling : Bool) (told : Option WireTold) (all : WireTold) : Type 0 where
  pub exactly : IfSome told (λ t. t ≡ all)
  pub tells : telling ≡ true → is_some told ≡ true

-- If the fleet isn't asked, it records what it recorded before, whatever further plans and wants the wires have.
pub tells_aside : {W : Type 0} (heard : W → Option WireTold) (more : List Made) (before : Option FleetTold) (old new : List Event) (slots now : List (Option (Journaled W)))
    → ((made : List Made) → fleet_told (more ++ made) new ≡ fleet_told made old) → ((made : List Made) → PlansFit heard made old slots → PlansFit heard (more ++ made) new now)
    → FleetTells heard more before before old new slots now
tells_aside heard more before old new slots now same keeps = record {
  told = λ made t j. record { fleet = j.fleet ∙ ap (λ all. option_map (told_then all) t) (sym (same made)); wires = keeps made j.wires };
  telling = refl;
}

pub tells_none : {W : Type 0} (heard : W → Option WireTold) (before : Option FleetTold) (old new : List Event) (slots now : List (Option (Journaled W))) → ((made : List Made) → fleet_told made new ≡ fleet_told made old)
    → KeepsPlans heard old new slots now → FleetTells heard [] before before old new slots now
tells_none heard before old new slots now same keeps = tells_aside heard [] before old new slots now same keeps

-- A fleet records what it recorded before, and then what came since.
pub tells_after : {W : Type 0} (heard : W → Option WireTold) (more later : List Made) (before between after : Option FleetTold) (old mid new : List Event) (slots halfway now : List (Option (Journaled W)))
    → FleetTells heard more before between old mid slots halfway → FleetTells heard later between after mid new halfway now → FleetTells heard (later ++ more) before after old new slots now
tells_after heard more later before between after old mid new slots halfway now f g = record {
  told = λ made t j. subst (λ (all : List Made). TellsJust heard all t after new now) (sym (append_assoc later more made)) (g.told (more ++ made) t (f.told made t j));
  telling = g.telling ∙ f.telling;
}

pub tells_then : {W : Type 0} (heard : W → Option WireTold) (more : List Made) (before between after : Option FleetTold) (old mid new : List Event) (slots halfway now : List (Option (Journaled W)))
    → FleetTells heard more before between old mid slots halfway → FleetTells heard [] between after mid new halfway now → FleetTells heard more before after old new slots now
tells_then heard more before between after old mid new slots halfway now f g = tells_after heard more [] before between after old mid new slots halfway now f g

connect_then : (c : ℕ) (a : DriverAnswer) (more : FleetTold) (t : Option FleetTold)
    → option_map (with_connects ((c, a) ∷ [])) (option_map (told_then more) t) ≡ option_map (told_then (with_connects ((c, a) ∷ []) more)) t
connect_then c a more None = refl
connect_then c a more (Some first) =
    ap (λ cs. Some (record (told_then more first) { connects = cs })) (append_assoc first.connects more.connects ((c, a) ∷ []))

heard_answer : (c : ℕ) (a : DriverAnswer) (t : Option FleetTold) → is_memory a ≡ false → connected_after c a t ≡ option_map (with_connects ((c, a) ∷ [])) t
heard_answer c Memory t h = absurd cc
heard_answer c _ t h = refl

some_asked : (c : ℕ) (a : DriverAnswer) (t : Option FleetTold) → is_some (connected_after c a t) ≡ is_some t
some_asked c Memory None = refl
some_asked c Memory (Some told) = refl
some_asked c _ None = refl
some_asked c _ (Some told) = refl

-- If the fleet was asked for one Connect, which was heard, it records that.
pub tells_connect : {W : Type 0} (heard : W → Option WireTold) (c : ℕ) (a : DriverAnswer) (before : Option FleetTold) (old new : List Event) (slots now : List (Option (Journaled W))) → is_memory a ≡ false
    → ((made : List Made) → fleet_told made new ≡ with_connects ((c, a) ∷ []) (fleet_told made old)) → KeepsPlans heard old new slots now → FleetTells heard [] before (connected_after c a before) old new slots now
tells_connect heard c a before old new slots now no_want same keeps = record {
  told = λ made t j. record {
    fleet =
        heard_answer c a before no_want ∙ ap (option_map (with_connects ((c, a) ∷ []))) j.fleet ∙ connect_then c a (fleet_told made old) t ∙ ap (λ more. option_map (told_then more) t) (sym (same made));
    wires = keeps made j.wires;
  };
  telling = some_asked c a before;
}

-- A Connect that the fleet answered Memory is among its wants.
want_then : (c : ℕ) (more : FleetTold) (t : Option FleetTold) → option_map (with_wanted_connect c) (option_map (told_then more) t) ≡ option_map (told_then (with_wanted_connect c more)) t
want_then c more None = refl
want_then c more (Some first) = ap (λ ns. Some (record (told_then more first) { wanted = ns })) (append_assoc first.wanted more.wanted (c ∷ []))

pub tells_wanted : {W : Type 0} (heard : W → Option WireTold) (c : ℕ) (before : Option FleetTold) (past : List Event) (slots now : List (Option (Journaled W)))
    → ((made : List Made) → fleet_told (WantedConnect c ∷ made) past ≡ with_wanted_connect c (fleet_told made past)) → KeepsPlans heard past past slots now
    → FleetTells heard (WantedConnect c ∷ []) before (connected_after c Memory before) past past slots now
tells_wanted heard c before past slots now same keeps = record {
  told = λ made t j. record {
    fleet = ap (option_map (with_wanted_connect c)) j.fleet ∙ want_then c (fleet_told made past) t ∙ ap (λ more. option_map (told_then more) t) (sym (same made));
    wires = keeps made j.wires;
  };
  telling = some_asked c Memory before;
}

-- A fleet that keeps no record keeps none after a wire was given back.
pub gives_none : (c : ℕ) (told : Option WireTold) → retired_after c told None ≡ None
gives_none c None = refl
gives_none c (Some told) = refl

gone_then : (c : ℕ) (told : Option WireTold) (all : WireTold) (before t : Option FleetTold) (more : FleetTold) → HasTold (is_some before) told all → before ≡ option_map (told_then more) t
    → retired_after c told before ≡ option_map (told_then (with_retired ((c, all) ∷ []) more)) t
gone_then c told all None None more h e = gives_none c told
gone_then c told all None (Some first) more h e = absurd cc
gone_then c told all (Some b) None more h e = absurd cc
gone_then c None all (Some b) (Some first) more h e = let k : false ≡ true = h.tells refl in absurd cc
gone_then c (Some told) all (Some b) (Some first) more h e =
    let is : b ≡ told_then more first = cc in
    rw (is, h.exactly) (ap (λ (rs : List RetiredWire). Some (record (told_then more first) { retired = rs })) (append_assoc first.retired more.retired ((c, all) ∷ [])))

telling_gone : (c : ℕ) (told : Option WireTold) (before : Option FleetTold) → (is_some before ≡ true → is_some told ≡ true) → is_some (retired_after c told before) ≡ is_some before
telling_gone c None None h = refl
telling_gone c (Some told) None h = refl
telling_gone c None (Some b) h = let k : false ≡ true = h refl in absurd cc
telling_gone c (Some told) (Some b) h = refl

-- If connection c is gone and its wire was given back, the fleet records that.
pub tells_gone : {W : Type 0} (heard : W → Option WireTold) (c : ℕ) (told : Option WireTold) (all : List Made → WireTold) (before : Option FleetTold) (old new : List Event) (slots now : List (Option (Journaled W)))
    → (is_some before ≡ true → is_some told ≡ true) → ((made : List Made) → PlansFit heard made old slots → IfSome told (λ t. t ≡ all made))
    → ((made : List Made) → fleet_told made new ≡ with_retired ((c, all made) ∷ []) (fleet_told made old)) → KeepsPlans heard old new slots now
    → FleetTells heard [] before (retired_after c told before) old new slots now
tells_gone heard c told all before old new slots now tells exactly same keeps = record {
  told = λ made t j. record {
    fleet =
        gone_then c told (all made) before t (fleet_told made old) (record { exactly = exactly made j.wires; tells = tells }) j.fleet
        ∙ ap (λ more. option_map (told_then more) t) (sym (same made));
    wires = keeps made j.wires;
  };
  telling = telling_gone c told before tells;
}
